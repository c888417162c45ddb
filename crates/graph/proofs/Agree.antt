-- Networks that agree, whatever else they hold, on terminals and on the edges between different nodes: they have the same minpaths, mincuts,
-- relevant part and source sides, and the same sets sever them.
-- Assumes, for mincuts and for what is computed, sound networks.
--
--   Agree N M        N and M have the same terminals and the same edges between different nodes
use mathlib.Core.Path.{◌≡◌, sym, ap, subst, ◌∙◌}
use mathlib.Core.Bool.{not}
use mathlib.Core.List.{List, [], ◌∷◌, Memᴰ}
use mathlib.Core.Logic.Iff
use mathlib.Core.Logic.{inl, inr, ◌↔◌, ◌≢◌}
use Prim.Native.Nat.{ℕ, ◌^◌}
use Rattle.sequences.specs.Distinct.{Distinct}
use Rattle.bitset.specs.Members.{has, ◌∖◌, ◌∈◌}
use Rattle.bitset.proofs.Subsets.{same_test}
use Rattle.bitset.proofs.Sets.{same_set, in-minus, minus-⊆}
use Rattle.network.specs.Record.{present}
use Rattle.network.specs.declared.Network.{Network}
use Rattle.graph.specs.Paths.{Joins, Hop, Leads, nodes_from, Simple, Minpath, SameMinpaths}
use Rattle.graph.specs.Cuts.{only, without, RelevantEdge, RelevantNode, OnSourceSide}
use Rattle.graph.specs.CutTests.{severed}
use Rattle.graph.specs.Reach.{reach_of, Bounded}
use Rattle.graph.specs.Relevant.{relevant_nodes, relevant_edges, source_side_of}
use Rattle.graph.proofs.Walks.{edges-within, shorten}
use Rattle.graph.proofs.Reach.{in-reach-single, bounded-only}
use Rattle.graph.proofs.Sound.{Sound}
use Rattle.graph.proofs.Relevant.{in-relevant_nodes, in-relevant_edges}
use Rattle.graph.proofs.Correspondence.{in-source_side_of}

pub record Agree (N M : Network) : Type 0 where
  pub source : N.source ≡ M.source
  pub sink : N.sink ≡ M.sink
  pub joins : (e u v : ℕ) → u ≢ v → Joins N e u v ↔ Joins M e u v

turned : {N M : Network} → Agree N M → Agree M N
turned a = record { source = sym a.source; sink = sym a.sink; joins = λ e u v ne. Iff.symm (a.joins e u v ne) }

-- ---- what one has, the other has

module _ (N M : Network) (a : Agree N M) where
  -- A simple path leads on along edges between different nodes alone.
  path-agrees : (p : List Hop) (u v : ℕ) → Leads N u p v → Simple u p → Leads M u p v
  unfolding Leads Distinct
  path-agrees [] u v h simple = h
  path-agrees (s ∷ p) u v h simple =
      ((a.joins s.edge u s.to (λ e. simple.0 (Memᴰ.head e))).0 h.0, path-agrees p s.to v h.1 simple.1)

  minpath-agrees : (r : ℕ) → Minpath N r → Minpath M r
  minpath-agrees r m = record {
    steps = m.steps;
    leads = subst (λ u. Leads M u m.steps M.sink) a.source (subst (Leads M N.source m.steps) a.sink
        (path-agrees m.steps N.source N.sink m.leads m.simple));
    simple = subst (λ u. Simple u m.steps) a.source m.simple;
    members = m.members;
  }

  edge-agrees : (e : ℕ) → RelevantEdge N e → RelevantEdge M e
  edge-agrees e (r, (m, i)) = (r, (minpath-agrees r m, i))

  node-agrees : (v : ℕ) → RelevantNode N v → RelevantNode M v
  unfolding minpath-agrees
  node-agrees v (inl e) = inl (e ∙ a.source)
  node-agrees v (inr (inl e)) = inr (inl (e ∙ a.sink))
  node-agrees v (inr (inr (r, (m, i)))) =
      inr (inr (r, (minpath-agrees r m, subst (λ u. Memᴰ v (nodes_from u m.steps)) a.source i)))

  -- A walk over relevant edges outside c holds a simple path over such edges.
  side-agrees : (c v : ℕ) → OnSourceSide N c v → OnSourceSide M c v
  side-agrees c v o =
      let q = shorten N o.steps N.source v o.leads in
      record {
        relevant = node-agrees v o.relevant;
        steps = q.steps;
        leads = subst (λ u. Leads M u q.steps v) a.source (path-agrees q.steps N.source v q.leads q.simple);
        kept = λ e i. let k = o.kept e (edges-within q.steps o.steps q.within e i) in (edge-agrees e k.0, k.1);
      }

  -- What the source reaches, the sink too, it reaches along a simple path.
  reach-agrees : Bounded N → Bounded M → N.sink ∈ reach_of N (2 ^ N.source) → M.sink ∈ reach_of M (2 ^ M.source)
  reach-agrees B C m =
      let (p, h) = (in-reach-single N B N.source N.sink).0 m in
      let q = shorten N p N.source N.sink h in
      let on : Leads M N.source q.steps N.sink = path-agrees q.steps N.source N.sink q.leads q.simple in
      (in-reach-single M C M.source M.sink).1
      (q.steps, subst (λ u. Leads M u q.steps M.sink) a.source (subst (Leads M N.source q.steps) a.sink on))

  -- An edge outside d that joins different nodes joins them in both.
  outside-agrees : (d e u v : ℕ) → u ≢ v → Joins (without N d) e u v → Joins (without M d) e u v
  unfolding only Joins
  outside-agrees d e u v ne j =
      let k = (in-minus (present N) d e).0 j.0 in
      let there = (a.joins e u v ne).0 (k.0, j.1) in
      ((in-minus (present M) d e).1 (there.0, k.1), there.1)

-- ---- both have the same

module _ (N M : Network) (a : Agree N M) where
  pub minpaths-agree : SameMinpaths N M
  minpaths-agree r = (minpath-agrees N M a r, minpath-agrees M N (turned a) r)

  -- Without the edges of d they agree too.
  pub without-agree : (d : ℕ) → Agree (without N d) (without M d)
  unfolding only
  without-agree d = record {
    source = a.source;
    sink = a.sink;
    joins = λ e u v ne. (outside-agrees N M a d e u v ne, outside-agrees M N (turned a) d e u v ne);
  }

  pub side-agree : (c v : ℕ) → OnSourceSide N c v ↔ OnSourceSide M c v
  side-agree c v = (side-agrees N M a c v, side-agrees M N (turned a) c v)

  module _ (S : Sound N) (T : Sound M) where
    -- A set of edges severs both or neither.
    pub severed-agree : (d : ℕ) → severed N d ≡ severed M d
    unfolding severed only
    severed-agree d =
        let B = bounded-only N S.bounded (present N ∖ d) (minus-⊆ (present N) d) in
        let C = bounded-only M T.bounded (present M ∖ d) (minus-⊆ (present M) d) in
        let both = without-agree d in
        ap not (same_test
        (has (reach_of (without N d) (2 ^ N.source)) N.sink)
        (has (reach_of (without M d) (2 ^ M.source)) M.sink)
        (reach-agrees (without N d) (without M d) both B C)
        (reach-agrees (without M d) (without N d) (turned both) C B))

    pub nodes-agree : relevant_nodes N ≡ relevant_nodes M
    nodes-agree = same_set (λ v.
        Iff.trans (in-relevant_nodes N S v) (Iff.trans (node-agrees N M a v, node-agrees M N (turned a) v) (Iff.symm (in-relevant_nodes M T v))))

    pub edges-agree : relevant_edges N ≡ relevant_edges M
    edges-agree = same_set (λ e.
        Iff.trans (in-relevant_edges N S e) (Iff.trans (edge-agrees N M a e, edge-agrees M N (turned a) e) (Iff.symm (in-relevant_edges M T e))))

    pub sides-agree : (c : ℕ) → source_side_of N c ≡ source_side_of M c
    sides-agree c = same_set (λ v.
        Iff.trans (in-source_side_of N S c v) (Iff.trans (side-agree c v) (Iff.symm (in-source_side_of M T c v))))
