-- What a depth-first visit finds over a table of adjacent nodes: row v holds the nodes that are adjacent to v.
-- Working.
--
--   ClosedBut adjacent c r       the test r passes, with each node but c that it passes, those adjacent to it but c
--   Reaches adjacent c s t       without c, the nodes of s reach all nodes of t
--   Found adjacent before v after     from v on, the visited nodes have grown from `before` to `after`; each of the new ones is reached from v,
--                                whichever other node is left out, and from v or a node of before, whichever of the new ones is
--   Visited adjacent before v after back     a visit of v, after those of the nodes `before`, has found the nodes `after`, and misses none that is
--                                adjacent to a new one; `back` are the nodes of before that are
--   Hanging adjacent visited     some nodes, none of them visited, hang on one other node alone
--   VisitEnds adjacent before v after back   a visit ends so, or with some nodes that hang on one, having visited nothing and with no way back
--   after_of before visited a    the nodes visited after the visit that answers a: the visited ones, but where the walk is over those of before
--   back_of a                    which of the nodes before are adjacent to one of its own: where the walk is over, none
use Rattle.std.specs.Prelude.{Bool, List, Option, Some, None, ◌⊎◌, ◌↔◌, ◌≡◌, ℕ, ◌^◌, T, get_or}
use Rattle.bitset.specs.Members.{insert, ◌∈◌, ◌⊆◌, ◌∖◌}
use Rattle.spread.specs.Spread.{AdjacentTo}
use Rattle.node_set.specs.declared.NodeSet.{NodeSet}

-- A test, and not a set: then what it does not pass is closed too, where the table is mutual.
abbrev pub ClosedBut : List ℕ → ℕ → (ℕ → Bool) → Type 0
ClosedBut adjacent c r = (u w : ℕ) → T (r u) → (u ≡ c → ⊥) → w ∈ get_or adjacent u 0 → (w ≡ c → ⊥) → T (r w)

-- Every test that is closed but for c and passes the nodes of s but c passes those of t but c.
abbrev pub Reaches : List ℕ → ℕ → ℕ → ℕ → Type 0
Reaches adjacent c s t =
    (r : ℕ → Bool) → ClosedBut adjacent c r → ((w : ℕ) → w ∈ s → (w ≡ c → ⊥) → T (r w)) → (w : ℕ) → w ∈ t → (w ≡ c → ⊥) → T (r w)

pub record Found (adjacent : List ℕ) (before v after : ℕ) : Type 0 where
  pub keeps : before ⊆ after
  pub visits : v ∈ (after ∖ before)
  pub past-others : (c : ℕ) → (c ∈ (after ∖ before) → ⊥) → Reaches adjacent c (2 ^ v) (after ∖ before)
  pub past-own : (c : ℕ) → c ∈ (after ∖ before) → Reaches adjacent c (insert before v) (after ∖ before)

pub record Visited (adjacent : List ℕ) (before v after back : ℕ) : Type 0 where
  pub found : Found adjacent before v after
  pub closed : (u w : ℕ) → u ∈ (after ∖ before) → w ∈ get_or adjacent u 0 → w ∈ after
  pub backs : (w : ℕ) → (w ∈ back) ↔ ((w ∈ before) × AdjacentTo adjacent (after ∖ before) w)

pub record Hanging (adjacent : List ℕ) (visited : ℕ) : Type 0 where
  pub holder : ℕ
  pub part : ℕ
  pub some : (k : ℕ) × ((k ∈ part) × (k ∈ get_or adjacent holder 0))
  pub apart : (w : ℕ) → w ∈ part → w ∈ visited → ⊥
  pub other : holder ∈ part → ⊥
  pub alone : (u w : ℕ) → u ∈ part → w ∈ get_or adjacent u 0 → (w ∈ part) ⊎ (w ≡ holder)

abbrev pub VisitEnds : List ℕ → ℕ → ℕ → ℕ → ℕ → Type 0
VisitEnds adjacent before v after back =
    Visited adjacent before v after back ⊎ ((after ≡ before) × (back ≡ 0) × Hanging adjacent (insert before v))

abbrev pub after_of : ℕ → ℕ → Option NodeSet → ℕ
after_of before visited (Some back) = visited
after_of before visited None = before

abbrev pub back_of : Option NodeSet → ℕ
back_of (Some back) = back.0
back_of None = 0
