-- The relevant part (the paper's useful part), source sides and their boundaries, as they are computed.
-- Computed: explained by in-relevant_nodes, in-relevant_edges (graph/proofs/Relevant); trimmed-iff, untrimmed-iff (graph/proofs/Trimmed); in-source_side_of (graph/proofs/Correspondence).
--
--   chosen f n           the set of the numbers below n that pass the test f  [computed: in-chosen (graph/proofs/EdgeSets)]
--   edges_at N c         the present edges with an end at c  [computed: in-edges_at (graph/proofs/EdgeSets)]
--   two_in u a b         whether a and b are two different members of u
--   edges_within N u     the present edges that join two different nodes of u  [computed: in-edges_within (graph/proofs/EdgeSets)]
--   reach_in N u h       what h reaches by walks that stay inside u
--   past N c             c, and what source and sink, whichever is not c, reach by walks over other nodes than c
--   past_all N n         the nodes of N that are in past N c for each c below n
--   relevant_nodes N     the relevant nodes  [computed: in-relevant_nodes (graph/proofs/Relevant)]
--   relevant_edges N     the relevant edges: those within the relevant nodes  [computed: in-relevant_edges (graph/proofs/Relevant)]
--   trimmed N            whether N is trimmed: these are all nodes and all present edges  [computed: trimmed-iff, untrimmed-iff (graph/proofs/Trimmed)]
--   source_side_of N c   the source side of c  [computed: in-source_side_of (graph/proofs/Correspondence)]
--   crossing_of N g s    the edges of g with exactly one end in s  [computed: in-crossing_of (graph/proofs/EdgeSets)]
--   boundary_of N s      the relevant edges with exactly one end in s  [computed: in-boundary_of (graph/proofs/Correspondence)]
use Rattle.std.specs.Prelude.{Bool, not, ◌&&◌, ◌||◌, ℕ, zero, suc, ◌-◌, ◌^◌, eqb}
use Rattle.std.specs.Bool.{xor}
use Rattle.std.specs.Int.Bits.{bit_and}
use Rattle.bitset.specs.Members.{has, insert, add_if, ◌∖◌}
use Rattle.network.specs.declared.Network.{Network}
use Rattle.network.specs.Record.{has_edge, first_end, second_end, present}
use Rattle.graph.specs.Cuts.{only}
use Rattle.graph.specs.Reach.{reach_of}

unfoldable pub chosen : (ℕ → Bool) → ℕ → ℕ
chosen f zero = 0
chosen f (suc n) = add_if (f n) (chosen f n) n

unfoldable pub edges_at : Network → ℕ → ℕ
edges_at N c = chosen (λ k. has_edge N k && (eqb (first_end N k) c || eqb (second_end N k) c)) 64

unfoldable pub two_in : ℕ → ℕ → ℕ → Bool
two_in u a b = not (eqb a b) && (has u a && has u b)

-- A loop, an edge with both ends at one node, is not among them.
unfoldable pub edges_within : Network → ℕ → ℕ
edges_within N u = chosen (λ k. has_edge N k && two_in u (first_end N k) (second_end N k)) 64

unfoldable pub reach_in : Network → ℕ → ℕ → ℕ
reach_in N u h = reach_of (only N (edges_within N u)) (2 ^ h)

unfoldable pub past : Network → ℕ → ℕ
past N c =
    let others = (2 ^ N.nodes - 1) ∖ 2 ^ c in
    insert (reach_of (only N (edges_within N others)) (insert (2 ^ N.source) N.sink ∖ 2 ^ c)) c

unfoldable pub past_all : Network → ℕ → ℕ
past_all N zero = 2 ^ N.nodes - 1
past_all N (suc c) = bit_and (past_all N c) (past N c)

unfoldable pub relevant_nodes : Network → ℕ
relevant_nodes N = past_all N N.nodes

unfoldable pub relevant_edges : Network → ℕ
relevant_edges N = edges_within N (relevant_nodes N)

unfoldable pub trimmed : Network → Bool
trimmed N = eqb (relevant_nodes N) (2 ^ N.nodes - 1) && eqb (relevant_edges N) (present N)

unfoldable pub source_side_of : Network → ℕ → ℕ
source_side_of N c = reach_of (only N (relevant_edges N ∖ c)) (2 ^ N.source)

unfoldable pub crossing_of : Network → ℕ → ℕ → ℕ
crossing_of N g s = chosen (λ k. has g k && xor (has s (first_end N k)) (has s (second_end N k))) 64

unfoldable pub boundary_of : Network → ℕ → ℕ
boundary_of N s = crossing_of N (relevant_edges N) s
