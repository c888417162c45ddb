-- The first call: the branch in which nothing is decided yet, and the source that joins it.
-- Assumes a sound network.
use mathlib.Core.Path.{◌≡◌, refl, ap, subst, ◌∙◌}
use mathlib.Core.List.{List}
use mathlib.Core.Logic.{inl, inr}
use Prim.Native.Nat.{ℕ}
use Rattle.bitset.specs.Members.{◌⊆◌, ◌∈◌}
use Rattle.bitset.proofs.Subsets.{⊆-refl}
use Rattle.bitset.proofs.Sets.{in-drop}
use Rattle.network.specs.Record.{present}
use Rattle.network.specs.declared.Network.{Network}
use Rattle.graph.specs.Paths.{Hop}
use Rattle.graph.specs.Cuts.{only, RelevantNode}
use Rattle.graph.specs.Relevant.{reach_in, relevant_nodes, relevant_edges}
use Rattle.graph.proofs.Walks.{back, edges-back, joins-sym, leads-back, nodes-back}
use Rattle.graph.proofs.Nodes.{carried}
use Rattle.graph.proofs.Sound.{Sound}
use Rattle.graph.proofs.EdgeSets.{in-edges_within}
use Rattle.graph.proofs.RelevantNodes.{end-relevant}
use Rattle.graph.proofs.Relevant.{in-relevant_nodes}
use Rattle.branches.specs.declared.Branch.{Branch}
use Rattle.branches.specs.Enumeration.{relevant_network, blank, Row, join_rows, rows}
use Rattle.branches.proofs.ReachIn.{reach_in-start, reach_in-over}
use Rattle.branches.proofs.Part.{part-reach_in}
use Rattle.branches.proofs.Branches.{sink-relevant}
use Rattle.branches.proofs.Complete.{rows_join}
use Rattle.parts.specs.Parts.{Hangs}
use Rattle.enumeration.specs.Rows.{Fed, Put}

module _ (N : Network) (S : Sound N) where
  -- The relevant edges are present.
  pub relevant-present : (s : ℕ) → s ≡ relevant_edges N → s ⊆ present N
  unfolding relevant_edges
  relevant-present s all e m = ((in-edges_within N S.bounded (relevant_nodes N) e).0 (rw all at m)).0

  -- The source is relevant.
  source-relevant : N.source ∈ relevant_nodes N
  source-relevant = (in-relevant_nodes N S N.source).1 (inl refl)

  -- The sink reaches every relevant node but the source inside the relevant nodes: back along a minpath's path.
  relevant-hangs : (v : ℕ) → (v ≡ N.source → ⊥) → RelevantNode N v → v ∈ reach_in N (relevant_nodes N) N.sink
  relevant-hangs v other (inl e) = absurd (other e)
  relevant-hangs v other (inr (inl e)) = rw e (reach_in-start N S.bounded (relevant_nodes N) N.sink (sink-relevant N S))
  relevant-hangs v other (inr (inr (r, (m, i)))) =
      let all : ℕ = relevant_nodes N in
      let there = sink-relevant N S in
      let back-over : List Hop = back N.source m.steps in
      carried N (λ x. x ∈ reach_in N all N.sink) back-over N.sink N.source (leads-back N m.steps N.source N.sink m.leads)
      (λ e k x y j. reach_in-over N S.bounded all N.sink there e x y j ((in-relevant_nodes N S y).1
      (end-relevant N e y x (r, (m, rw m.members at ((edges-back m.steps N.source e).0 k))) (joins-sym N e x y j))))
      (reach_in-start N S.bounded all N.sink there) v ((nodes-back N m.steps N.source N.sink v m.leads).1 i)

  module _ (b : Branch) (none : b ≡ blank N) where
    -- The sink is in the rest, and it is not undecided.
    pub blank-fed : Fed (relevant_network N) b
    unfolding blank only
    blank-fed = rw none (record { sink = sink-relevant N S; decided = λ m. ((in-drop (relevant_nodes N) N.sink N.sink).0 m).1 refl })

    -- The source is undecided.
    pub source_free : N.source ∈ b.undecided.0
    unfolding blank
    source_free = rw none ((in-drop (relevant_nodes N) N.sink N.source).1 (source-relevant, S.differ))

    -- Every node of the rest but the source hangs on the sink.
    pub blank-hangs : Hangs (relevant_network N) b.rest.0 N.source N.sink
    unfolding blank
    blank-hangs = rw none (λ v m other. rw (part-reach_in N S (relevant_nodes N) N.sink (⊆-refl (relevant_nodes N)))
        (relevant-hangs v other ((in-relevant_nodes N S v).0 m)))

    -- The rows in which the source joins are all rows.
    pub put_all : (n limit : ℕ) (cuts sides cuts' sides' : List ℕ) (r : ℕ) → Put (join_rows (relevant_network N) b N.source) n limit cuts sides cuts' sides' r
        → Put (rows N) n limit cuts sides cuts' sides' r
    put_all n limit cuts sides cuts' sides' r =
        subst (λ (l : List Row). Put l n limit cuts sides cuts' sides' r)
        (ap (λ (x : Branch). join_rows (relevant_network N) x N.source) none ∙ rows_join N S)
