-- Trunks, cables that join the same two points: a row's width counts the pair that they join once.
-- To believe.
--
--   Untrunked N          no two cables present join the same pair: there is no trunk
--   TrunksOnce           a row's pairs are those that its cables join, each once, whichever end comes first, and its width is their number;
--                        what that makes of a table; and where there is no trunk, cables are counted singly
use mathlib.Core.List.{List, [], map, Memᴰ}
use Rattle.std.specs.Prelude.{◌⊎◌, ◌↔◌, ◌≡◌, ℕ, ◌≤◌, ◌<◌, length, take, replicate}
use Rattle.sequences.specs.Distinct.{Distinct}
use Rattle.sequences.specs.Counts.{sum, tally}
use Rattle.bitset.specs.Members.{insert, ◌∈◌, size}
use Rattle.network.specs.declared.Network.{Network}
use Rattle.network.specs.Record.{first_end, second_end, present, fault_of, Stored}
use Rattle.network.specs.Rules.{Rules, RowsPresent}
use Rattle.network.specs.Ends.{ends_of}
use Rattle.widths.specs.Widths.{pairs_of, width_of, widths_of}
use Rattle.listing.specs.List.{listed_by, cut_rows_after}

abbrev pub Untrunked : Network → Type 0
Untrunked N = (j k : ℕ) → j ∈ present N → k ∈ present N → ends_of N j ≡ ends_of N k → j ≡ k

pub record TrunksOnce : Type 0 where
  -- A row's pairs are exactly those that its cables join.
  pub pairs : (N : Network) (c p : ℕ) → Memᴰ p (pairs_of N c) ↔ ((k : ℕ) × (k ∈ c) × (k < 64) × (ends_of N k ≡ p))
  -- None is there twice.
  pub each-once : (N : Network) (c : ℕ) → Distinct (pairs_of N c)
  -- Two cables join the same pair exactly if they have the same ends, whichever comes first.
  pub either_end : (N : Network) (j k : ℕ)
      → (ends_of N j ≡ ends_of N k)
      ↔ (((first_end N j ≡ first_end N k) × (second_end N j ≡ second_end N k)) ⊎ ((first_end N j ≡ second_end N k) × (second_end N j ≡ first_end N k)))
  -- Rows that join the same pairs are equally wide.
  pub by-pairs : (N : Network) (c d : ℕ) → ((p : ℕ) → Memᴰ p (pairs_of N c) ↔ Memᴰ p (pairs_of N d)) → width_of N c ≡ width_of N d
  -- One cable more of a pair that the row joins does not widen it.
  pub again : (N : Network) (c j k : ℕ) → j ∈ c → j < 64 → ends_of N j ≡ ends_of N k → width_of N (insert c k) ≡ width_of N c
  -- So those of the row's cables count whose pair no lower cable of the row joins.
  pub lowest : (N : Network) (c l : ℕ)
      → ((k : ℕ) → (k ∈ l) ↔ ((k ∈ c) × ((j : ℕ) → j < k → j ∈ c → ends_of N j ≡ ends_of N k → ⊥))) → width_of N c ≡ size 64 l
  -- A row is no wider than it has cables.
  pub most : (N : Network) (c : ℕ) → width_of N c ≤ size 64 c
  -- Without a cable it has width 0, and with cables that all join one pair, width 1.
  pub none : (N : Network) → width_of N 0 ≡ 0
  pub one-pair : (N : Network) (c k : ℕ) → k ∈ c → k < 64 → ((j : ℕ) → j ∈ c → ends_of N j ≡ ends_of N k) → width_of N c ≡ 1
  -- The counts of a table that is not refused sum to the number of rows.
  pub whole : (N : Network) (cuts : List ℕ) → (widths_of N cuts).refusal ≡ 0 → sum (widths_of N cuts).counts ≡ length cuts
  -- Those of a plan's own list are never refused, and so sum to the number of its cuts.
  pub listed : (N : Network) → Stored N → (cuts sides : List ℕ) → (listed_by N cuts sides).refusal ≡ 0
      → let rows = take (listed_by N cuts sides).count (cut_rows_after N cuts sides) in
      ((widths_of N rows).refusal ≡ 0) × (sum (widths_of N rows).counts ≡ (listed_by N cuts sides).count)
  -- Of no rows every count is 0, and a plan with a fault is refused all the same.
  pub empty : (N : Network) → widths_of N [] ≡ record { refusal = fault_of N; counts = replicate 65 0 }
  -- Where there is no trunk, the table counts the rows by the number of their cables.
  pub untrunked : (N : Network) (cuts : List ℕ) → Rules N → Untrunked N → RowsPresent N cuts
      → widths_of N cuts ≡ record { refusal = 0; counts = tally 65 (map (size 64) cuts) }
