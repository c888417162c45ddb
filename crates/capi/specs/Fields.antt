-- What crosses the border to other languages, field by field.
-- To believe.
--
--   Read s r N           reading the bytes s gives the refusal r and the network N
--   Written N lent r n after     writing N into a buffer that held `lent` gives the refusal r and the count n, and leaves `after` in it
--   Found N r n e        finding the relevant part of N gives the refusal r, the nodes n and the edges e
--   Judged N c r v       judging the set c in N gives the refusal r and the verdict v, by its number
--   JudgedMeans N c r v  what the refusal r and the verdict v on c mean
--   Played N log lent r n after     playing the log back for N into bytes that held `lent` gives the refusal r and the count n, and leaves
--                        `after` in them
--   Counted N o w r n    counting the silent minutes of N with opening windows o and works windows w gives the refusal r and the minutes n
--   Drilled N n f r steps e k m     drilling N from the start number n on, at the failure setting f and the repair setting r, gives the
--                        refusal e, the steps k and the number m
--   Total N c r m        adding up the metres of the set c in N gives the refusal r and the total m
--   Tabled N cuts r table    counting the rows `cuts` by width in N gives the refusal r and the table
--
-- Of the calls that list these are `Listing` (listing, List), `TrimmedListing` (listing, Trimmed) and `RoomsListing` (rooms, Rooms).
use Rattle.std.specs.Prelude.{List, ◌↔◌, ◌≡◌, ℕ}
use Rattle.network.specs.declared.Network.{Network}
use Rattle.network.specs.Record.{Stored}
use Rattle.format.specs.Format.{decode_of, encoded_by, bytes_after}
use Rattle.graph.specs.Cuts.{Cut, Mincut}
use Rattle.connectivity.specs.Answers.{relevant_of, verdict_of, numbers_of}
use Rattle.lengths.specs.Lengths.{total_of}
use Rattle.replay.specs.Replay.{replayed_by, silent_after}
use Rattle.maintenance.specs.Outage.{outage_of}
use Rattle.simulation.specs.Simulation.{simulated_by}
use Rattle.widths.specs.Widths.{widths_of}

pub record Read (s : List ℕ) (r : ℕ) (N : Network) : Type 0 where
  pub refusal : r ≡ (decode_of s).refusal
  pub network : N ≡ (decode_of s).network

pub record Written (N : Network) (lent : List ℕ) (r n : ℕ) (after : List ℕ) : Type 0 where
  pub refusal : r ≡ (encoded_by N lent).refusal
  pub count : n ≡ (encoded_by N lent).count
  pub bytes : after ≡ bytes_after N lent

pub record Found (N : Network) (r n e : ℕ) : Type 0 where
  pub refusal : r ≡ (relevant_of N).refusal
  pub nodes : n ≡ (relevant_of N).nodes.0
  pub edges : e ≡ (relevant_of N).edges.0

pub record Judged (N : Network) (c r v : ℕ) : Type 0 where
  pub refusal : r ≡ (numbers_of (verdict_of N c)).refusal
  pub verdict : v ≡ (numbers_of (verdict_of N c)).verdict

-- By the definitions of graph theory: each verdict is given exactly if nothing is refused and the set is what it says.
pub record JudgedMeans (N : Network) (c r v : ℕ) : Type 0 where
  pub stored : Stored N
  pub not-cut : (v ≡ 1) ↔ ((r ≡ 0) × (Cut N c → ⊥))
  pub not-minimal : (v ≡ 2) ↔ ((r ≡ 0) × Cut N c × (Mincut N c → ⊥))
  pub minimal : (v ≡ 3) ↔ ((r ≡ 0) × Mincut N c)

pub record Played (N : Network) (log lent : List ℕ) (r n : ℕ) (after : List ℕ) : Type 0 where
  pub refusal : r ≡ (replayed_by N log lent).refusal
  pub count : n ≡ (replayed_by N log lent).count
  pub bytes : after ≡ silent_after N log lent

pub record Counted (N : Network) (o w : List ℕ) (r n : ℕ) : Type 0 where
  pub refusal : r ≡ (outage_of N o w).refusal
  pub minutes : n ≡ (outage_of N o w).minutes

pub record Drilled (N : Network) (n f r steps e k m : ℕ) : Type 0 where
  pub refusal : e ≡ (simulated_by N n f r steps).refusal
  pub silent : k ≡ (simulated_by N n f r steps).silent
  pub number : m ≡ (simulated_by N n f r steps).number

pub record Total (N : Network) (c r m : ℕ) : Type 0 where
  pub refusal : r ≡ (total_of N c).refusal
  pub metres : m ≡ (total_of N c).metres

pub record Tabled (N : Network) (cuts : List ℕ) (r : ℕ) (table : List ℕ) : Type 0 where
  pub refusal : r ≡ (widths_of N cuts).refusal
  pub counts : table ≡ (widths_of N cuts).counts
