-- What a spread reaches over a table of adjacent nodes: row v holds the nodes that are adjacent to v.
-- Working.
--
--   AdjacentTo adjacent s w      the node w is adjacent to a node of s
--   ClosedInside adjacent within t    the set t holds, with each of its nodes, those inside the set `within` that are adjacent to it
--   Reached adjacent within start t      t is the least such set that holds the start; so there is only one
use Rattle.std.specs.Prelude.{List, ℕ, get_or}
use Rattle.bitset.specs.Members.{◌∈◌, ◌⊆◌}

abbrev pub AdjacentTo : List ℕ → ℕ → ℕ → Type 0
AdjacentTo adjacent s w = (v : ℕ) × ((v ∈ s) × (w ∈ get_or adjacent v 0))

abbrev pub ClosedInside : List ℕ → ℕ → ℕ → Type 0
ClosedInside adjacent within t = (w : ℕ) → AdjacentTo adjacent t w → w ∈ within → w ∈ t

pub record Reached (adjacent : List ℕ) (within start t : ℕ) : Type 0 where
  pub started : start ⊆ t
  pub closed : ClosedInside adjacent within t
  pub least : (s : ℕ) → start ⊆ s → ClosedInside adjacent within s → t ⊆ s
