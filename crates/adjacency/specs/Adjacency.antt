-- Tables of adjacent nodes.
-- Working.
--
--   Adjacency N adjacent     row v of the table holds exactly the other nodes that an edge of N joins to v (the paper's neighbours of v)
--   Mutual adjacent          each node is adjacent to those that are adjacent to it
--   with_member t a b        the table t with the member b more in row a
--   linked t a b             the table t with a and b adjacent to each other, if they are two nodes
use Rattle.std.specs.Prelude.{true, false, List, ◌↔◌, ◌≡◌, ℕ, eqb, get_or, set}
use Rattle.bitset.specs.Members.{insert, ◌∈◌}
use Rattle.network.specs.declared.Network.{Network}
use Rattle.graph.specs.Paths.{Joins}

abbrev pub Adjacency : Network → List ℕ → Type 0
Adjacency N adjacent = (v w : ℕ) → (w ∈ get_or adjacent v 0) ↔ ((v ≡ w → ⊥) × ((e : ℕ) × Joins N e v w))

abbrev pub Mutual : List ℕ → Type 0
Mutual adjacent = (v w : ℕ) → w ∈ get_or adjacent v 0 → v ∈ get_or adjacent w 0

abbrev pub with_member : List ℕ → ℕ → ℕ → List ℕ
with_member t a b = set t a (insert (get_or t a 0) b)

unfoldable pub linked : List ℕ → ℕ → ℕ → List ℕ
linked t a b = elim (eqb a b) [ true ↦ t | false ↦ with_member (with_member t a b) b a ]
