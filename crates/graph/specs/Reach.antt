-- The reachable set (the paper's reach), as it is computed.
-- Computed: explained by in_reach (graph/proofs/Reach).
--
--   across N s k t       t with each end of the edge k whose other end is in s
--   edge_list N          the present edges, rising
--   round_over N l s     s with every node that an edge of the list l joins to a node of s
--   rounds N l n s       at most n such rounds from s on, fewer if one adds nothing
--   round N s            s with every node that a present edge joins to a node of s  [computed: in-round (graph/proofs/Reach)]
--   reach_of N s         the nodes that are connected to some node of s: every round but the last adds a node
--   Closed N s           no present edge leads out of s  [working]
--   Bounded N            the edges of N have numbers below 64, and their ends are below the node count  [working]
use Rattle.std.specs.Prelude.{true, false, ℕ, zero, suc, ◌^◌, ◌<◌, eqb}
use mathlib.Core.List.{List, foldr}
use Rattle.bitset.specs.Members.{has, add_if, members, ◌∈◌}
use Rattle.network.specs.declared.Network.{Network}
use Rattle.network.specs.Record.{first_end, second_end, present}
use Rattle.graph.specs.Paths.{Joins}

unfoldable pub across : Network → ℕ → ℕ → ℕ → ℕ
across N s k t = add_if (has s (first_end N k)) (add_if (has s (second_end N k)) t (first_end N k)) (second_end N k)

abbrev pub edge_list : Network → List ℕ
edge_list N = members 64 (present N)

unfoldable pub round_over : Network → List ℕ → ℕ → ℕ
round_over N l s = foldr (across N s) s l

unfoldable pub rounds : Network → List ℕ → ℕ → ℕ → ℕ
rounds N l zero s = s
rounds N l (suc n) s = let t = round_over N l s in elim (eqb t s) [ true ↦ s | false ↦ rounds N l n t ]

abbrev pub round : Network → ℕ → ℕ
round N s = round_over N (edge_list N) s

unfoldable pub reach_of : Network → ℕ → ℕ
reach_of N s = rounds N (edge_list N) N.nodes s

abbrev pub Closed : Network → ℕ → Type 0
Closed N s = (e u v : ℕ) → Joins N e u v → u ∈ s → v ∈ s

pub record Bounded (N : Network) : Type 0 where
  pub edges : present N < 2 ^ 64
  pub ends : (e u v : ℕ) → Joins N e u v → v < N.nodes
