-- Metres: where in a plan a length stands; and of the calls on a record only the test of it, the writer and the total look at them.
-- To believe.
--
--   EdgeFits N next k a b    the edge k from a to b has no fault where the least number allowed is `next`
--   LengthPlaces         the command 4D, in each place: taken, or refused by which number
--   with_metres N l      N with the metres l
--   Accepted N           the record test accepts N, with what the types of the code say of it
--   MetresUnread         whatever the metres, routes, minimal cuts and near sides are the same, and two records that are accepted and differ
--                        in metres alone are answered alike; so is whether two lists are equal
use Rattle.std.specs.Prelude.{List, ◌∷◌, ◌↔◌, ◌≡◌, ℕ, suc, ◌≤◌, ◌<◌, length, drop}
use Rattle.node_set.specs.Width.{node_width}
use Rattle.network.specs.declared.Network.{Network}
use Rattle.network.specs.Record.{rewired, with_edge, present, fault_of, Stored}
use Rattle.format.specs.Format.{at, metres_in, refuse, walk, decode_of}
use Rattle.graph.specs.Paths.{SameMinpaths}
use Rattle.graph.specs.Cuts.{Mincut, OnSourceSide}
use Rattle.graph.specs.Lists.{SameList}
use Rattle.connectivity.specs.Answers.{verdict_of}
use Rattle.widths.specs.Widths.{widths_of}
use Rattle.listing.specs.List.{listed_by, cut_rows_after}
use Rattle.listing.specs.Trimmed.{trimmed_listed_by, trimmed_cut_rows, trimmed_side_rows}
use Rattle.replay.specs.Replay.{replayed_by, silent_after}
use Rattle.maintenance.specs.Outage.{outage_of}
use Rattle.simulation.specs.Simulation.{simulated_by}
use Rattle.demands.specs.Alike.{Alike}

-- ---- in bytes

pub record EdgeFits (N : Network) (next k a b : ℕ) : Type 0 where
  pub number : (next ≤ k) × (k < 64)
  pub ends : (a < N.nodes) × (b < N.nodes)

pub record LengthPlaces : Type 0 where
  -- Straight after an edge: 1 where fewer than four bytes are left; then 28, unless it is of that edge and not of 0 metres.
  pub short : (N : Network) (next k a b : ℕ) (s : List ℕ) → EdgeFits N next k a b → at s 0 ≡ 0x4D → length s < 4
      → walk N next (0x43 ∷ k ∷ a ∷ b ∷ s) ≡ refuse 1
  pub wrong : (N : Network) (next k a b : ℕ) (s : List ℕ) → EdgeFits N next k a b → at s 0 ≡ 0x4D → 4 ≤ length s
      → ((at s 1 ≡ k) × (0 < metres_in s) → ⊥) → walk N next (0x43 ∷ k ∷ a ∷ b ∷ s) ≡ refuse 28
  pub taken : (N : Network) (next k a b : ℕ) (s : List ℕ) → EdgeFits N next k a b → at s 0 ≡ 0x4D → 4 ≤ length s
      → (at s 1 ≡ k) × (0 < metres_in s) → walk N next (0x43 ∷ k ∷ a ∷ b ∷ s) ≡ walk (with_edge N k a b (metres_in s)) (suc k) (drop 4 s)
  -- Where another byte stands, or none, the edge is not measured.
  pub none : (N : Network) (next k a b : ℕ) (s : List ℕ) → EdgeFits N next k a b → (at s 0 ≡ 0x4D → ⊥)
      → walk N next (0x43 ∷ k ∷ a ∷ b ∷ s) ≡ walk (with_edge N k a b 0) (suc k) s
  -- Anywhere else it is 2: where an edge or the end is awaited, so after a length too, and in the place of 50 and of 53.
  pub elsewhere : (N : Network) (next : ℕ) (s : List ℕ) → at s 0 ≡ 0x4D → walk N next s ≡ refuse 2
  pub first : (s : List ℕ) → at s 0 ≡ 0x4D → decode_of s ≡ refuse 2
  pub second : (n : ℕ) (s : List ℕ) → (2 ≤ n) × (n ≤ node_width) → at s 0 ≡ 0x4D → decode_of (0x50 ∷ n ∷ s) ≡ refuse 2
  -- After 45 it is 3, as any byte is.
  pub after : (N : Network) (next : ℕ) (s : List ℕ) → walk N next (0x45 ∷ 0x4D ∷ s) ≡ refuse 3
  -- 28 is of bytes alone: no record has this fault.
  pub record-never : (N : Network) → fault_of N ≡ 28 → ⊥

-- ---- in a record

abbrev pub with_metres : Network → List ℕ → Network
with_metres N l = rewired N (present N) N.first N.second l

pub record Accepted (N : Network) : Type 0 where
  pub stored : Stored N
  pub faultless : fault_of N ≡ 0

pub record MetresUnread : Type 0 where
  pub routes : (N : Network) (l : List ℕ) → SameMinpaths (with_metres N l) N
  pub cuts : (N : Network) (l : List ℕ) (c : ℕ) → Mincut (with_metres N l) c ↔ Mincut N c
  pub sides : (N : Network) (l : List ℕ) (c v : ℕ) → OnSourceSide (with_metres N l) c v ↔ OnSourceSide N c v
  pub answers : (N : Network) (l : List ℕ) → Accepted N → Accepted (with_metres N l) → Alike (with_metres N l) N
  -- On sets with an absent cable too.
  pub verdicts : (N : Network) (l : List ℕ) → Accepted N → Accepted (with_metres N l) → (c : ℕ) → verdict_of (with_metres N l) c ≡ verdict_of N c
  -- On rows with an absent cable too.
  pub widths : (N : Network) (l : List ℕ) → Accepted N → Accepted (with_metres N l) → (cuts : List ℕ) → widths_of (with_metres N l) cuts ≡ widths_of N cuts
  -- Listed as trimmed already.
  pub trimmed : (N : Network) (l : List ℕ) → Accepted N → Accepted (with_metres N l) → (cuts sides : List ℕ)
      → (trimmed_listed_by (with_metres N l) cuts sides ≡ trimmed_listed_by N cuts sides)
      × (trimmed_cut_rows (with_metres N l) cuts sides ≡ trimmed_cut_rows N cuts sides)
      × (trimmed_side_rows (with_metres N l) cuts sides ≡ trimmed_side_rows N cuts sides)
  -- On logs with an absent cable too.
  pub replay : (N : Network) (l : List ℕ) → Accepted N → Accepted (with_metres N l) → (log lent : List ℕ)
      → (replayed_by (with_metres N l) log lent ≡ replayed_by N log lent) × (silent_after (with_metres N l) log lent ≡ silent_after N log lent)
  -- On works windows with an absent cable too.
  pub outage : (N : Network) (l : List ℕ) → Accepted N → Accepted (with_metres N l) → (o w : List ℕ) → outage_of (with_metres N l) o w ≡ outage_of N o w
  pub simulation : (N : Network) (l : List ℕ) → Accepted N → Accepted (with_metres N l) → (n f r steps : ℕ)
      → simulated_by (with_metres N l) n f r steps ≡ simulated_by N n f r steps
  -- Two lists are equal, or not, whatever the metres of either plan.
  pub equality : (N M : Network) (l m : List ℕ) → Accepted N → Accepted (with_metres N l) → Accepted M → Accepted (with_metres M m)
      → (cuts sides cuts' sides' : List ℕ)
      → SameList (listed_by (with_metres N l) cuts sides).count (cut_rows_after (with_metres N l) cuts sides)
      (listed_by (with_metres M m) cuts' sides').count (cut_rows_after (with_metres M m) cuts' sides')
      ↔ SameList (listed_by N cuts sides).count (cut_rows_after N cuts sides) (listed_by M cuts' sides').count (cut_rows_after M cuts' sides')
