-- Loops, cables with both ends at one point: what they never do, and what stays as it was where one is added.
-- To believe.
--
--   LoopsApart           a loop lies on no route and in no minimal cut, and is never useful; its pair is its point with itself
--   AsWithout N k v m    N with the loop k at v, m metres long, is accepted, as a record and in bytes, and is answered as N is
--   LoopAdded            so it is for every accepted record, free number and point, and any length
--   TenGone              no call gives the refusal 10, which was that of a loop, and the program does not print it
use Rattle.std.specs.Prelude.{List, ◌≡◌, ℕ, ◌^◌, ◌<◌, Err}
use Rattle.bitset.specs.Members.{◌∈◌}
use Rattle.network.specs.declared.Network.{Network}
use Rattle.network.specs.Record.{Stored, fault_of, with_edge, present}
use Rattle.network.specs.Ends.{ends_of, Loop}
use Rattle.format.specs.Format.{accept, decode_of, encode_of, encoded_by}
use Rattle.graph.specs.Paths.{Minpath}
use Rattle.graph.specs.Cuts.{Mincut, RelevantEdge}
use Rattle.connectivity.specs.Answers.{relevant_of, verdict_of}
use Rattle.lengths.specs.Lengths.{total_of}
use Rattle.widths.specs.Widths.{widths_of}
use Rattle.listing.specs.List.{listed_by}
use Rattle.listing.specs.Trimmed.{trimmed_listed_by}
use Rattle.rooms.specs.declared.Extent.{Extent}
use Rattle.rooms.specs.Rooms.{rooms_listed_by}
use Rattle.replay.specs.Replay.{replayed_by}
use Rattle.maintenance.specs.Outage.{outage_of}
use Rattle.simulation.specs.Simulation.{simulated_by}
use Rattle.text.specs.Text.{refusal_line}
use Rattle.report.specs.Report.{report_of}
use Rattle.demands.specs.Alike.{Alike}

pub record LoopsApart : Type 0 where
  pub routes : (N : Network) (k v : ℕ) → Loop N k v → (r : ℕ) → Minpath N r → k ∈ r → ⊥
  pub cuts : (N : Network) (k v : ℕ) → Loop N k v → (c : ℕ) → Mincut N c → k ∈ c → ⊥
  pub useful : (N : Network) (k v : ℕ) → Loop N k v → RelevantEdge N k → ⊥
  -- Its point with itself: two loops at one point are one pair.
  pub pair : (N : Network) (k v : ℕ) → Loop N k v → ends_of N k ≡ 2 ^ v

pub record AsWithout (N : Network) (k v m : ℕ) : Type 0 where
  pub accepted : fault_of (with_edge N k v v m) ≡ 0
  pub read : decode_of (encode_of (with_edge N k v v m)) ≡ accept (with_edge N k v v m)
  pub answers : Alike (with_edge N k v v m) N

abbrev pub LoopAdded : Type 0
LoopAdded = (N : Network) → Stored N → fault_of N ≡ 0 → (k v m : ℕ) → k < 64 → (k ∈ present N → ⊥) → v < N.nodes → AsWithout N k v m

pub record TenGone : Type 0 where
  pub reader : (s : List ℕ) → (decode_of s).refusal ≡ 10 → ⊥
  pub test : (N : Network) → fault_of N ≡ 10 → ⊥
  pub part : (N : Network) → (relevant_of N).refusal ≡ 10 → ⊥
  pub judging : (N : Network) → Stored N → (c : ℕ) → verdict_of N c ≡ Err 10 → ⊥
  pub total : (N : Network) (c : ℕ) → (total_of N c).refusal ≡ 10 → ⊥
  pub widths : (N : Network) (cuts : List ℕ) → (widths_of N cuts).refusal ≡ 10 → ⊥
  pub list : (N : Network) (cuts sides : List ℕ) → (listed_by N cuts sides).refusal ≡ 10 → ⊥
  pub trimmed : (N : Network) (cuts sides : List ℕ) → (trimmed_listed_by N cuts sides).refusal ≡ 10 → ⊥
  pub rooms : (e : Extent) (N : Network) (ts cuts work : List ℕ) → (rooms_listed_by e N ts cuts work).refusal ≡ 10 → ⊥
  pub replay : (N : Network) (log lent : List ℕ) → (replayed_by N log lent).refusal ≡ 10 → ⊥
  pub outage : (N : Network) (o w : List ℕ) → (outage_of N o w).refusal ≡ 10 → ⊥
  pub simulation : (N : Network) (n f r steps : ℕ) → (simulated_by N n f r steps).refusal ≡ 10 → ⊥
  pub writer : (N : Network) (lent : List ℕ) → (encoded_by N lent).refusal ≡ 10 → ⊥
  pub program : (s : List ℕ) → report_of s ≡ refusal_line 10 → ⊥
