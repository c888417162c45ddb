-- Walks, simple paths and minpaths of a network: what a route is.
-- To believe.
--
--   Joins N e u v        the edge e joins the nodes u and v
--   Hop                  a step: along an edge, to a node
--   Leads N u p v        the steps p, each along an edge to its other end, lead from u to v: a walk
--   nodes_from u p       the nodes that the steps p from u on meet
--   Simple u p           the steps p from u on meet no node twice: a simple path
--   edges_of p           the set of the edges that the steps p take
--   Minpath N r          r is the edge set of a simple path from source to sink (the paper's route)
--   Connected N u v      some walk leads from u to v
--   SameMinpaths N M     the two networks have the same minpaths (the paper's "same routes")
use mathlib.Core.List.{List, [], ◌∷◌, map, foldr}
use Rattle.std.specs.Prelude.{◌⊎◌, ◌↔◌, ◌≡◌, ℕ, T}
use Rattle.sequences.specs.Distinct.{Distinct}
use Rattle.bitset.specs.Members.{insert}
use Rattle.network.specs.declared.Network.{Network}
use Rattle.network.specs.Record.{has_edge, first_end, second_end}

-- Edges carry both ways: the stored ends of e are u and v in either order.
unfoldable pub Joins : Network → ℕ → ℕ → ℕ → Type 0
Joins N e u v =
    T (has_edge N e)
    × (((first_end N e ≡ u) × (second_end N e ≡ v)) ⊎ ((first_end N e ≡ v) × (second_end N e ≡ u)))

-- A step: along `edge`, to the node `to`.
pub record Hop : Type 0 where
  pub edge : ℕ
  pub to : ℕ

unfoldable pub Leads : Network → ℕ → List Hop → ℕ → Type 0
Leads N u [] v = u ≡ v
Leads N u (s ∷ p) v = Joins N s.edge u s.to × Leads N s.to p v

-- The nodes that the steps p from u on meet.
abbrev pub nodes_from : ℕ → List Hop → List ℕ
nodes_from u p = u ∷ map (λ (s : Hop). s.to) p

abbrev pub Simple : ℕ → List Hop → Type 0
Simple u p = Distinct (nodes_from u p)

unfoldable pub edges_of : List Hop → ℕ
edges_of p = foldr (λ (s : Hop) (r : ℕ). insert r s.edge) 0 p

pub record Minpath (N : Network) (r : ℕ) : Type 0 where
  pub steps : List Hop
  pub leads : Leads N N.source steps N.sink
  pub simple : Simple N.source steps
  pub members : edges_of steps ≡ r

abbrev pub Connected : Network → ℕ → ℕ → Type 0
Connected N u v = (p : List Hop) × Leads N u p v

abbrev pub SameMinpaths : Network → Network → Type 0
SameMinpaths N M = (r : ℕ) → Minpath N r ↔ Minpath M r
