-- The mincuts and the source sides correspond one to one, as they are computed.
-- Assumes a sound network.
use mathlib.Core.Path.{◌≡◌, refl, sym, ap, ◌∙◌}
use mathlib.Core.Logic.Iff
use mathlib.Core.Logic.{inl, inr, ◌↔◌}
use Prim.Native.Nat.{ℕ, ◌^◌}
use Rattle.bitset.specs.Members.{◌⊆◌, ◌∖◌, ◌∈◌}
use Rattle.bitset.proofs.Sets.{in-minus, in-single, same_set}
use Rattle.network.specs.declared.Network.{Network}
use Rattle.graph.specs.Paths.{Minpath}
use Rattle.graph.specs.Cuts.{Mincut, RelevantEdge, RelevantNode, OnSourceSide}
use Rattle.graph.specs.SourceSides.{Beyond, SourceSide, Boundary}
use Rattle.graph.specs.Relevant.{relevant_nodes, relevant_edges, reach_in, source_side_of, boundary_of}
use Rattle.graph.proofs.Walks.{joins-sym, end-met}
use Rattle.graph.proofs.Nodes.{carried}
use Rattle.graph.proofs.Cuts.{mincut-none}
use Rattle.graph.proofs.Sound.{Sound}
use Rattle.graph.proofs.RelevantNodes.{end-relevant}
use Rattle.graph.proofs.RelevantEdges.{relevant-present}
use Rattle.graph.proofs.EdgeSets.{in-crossing_of, in-reach-over}
use Rattle.graph.proofs.Relevant.{in-relevant_nodes, in-relevant_edges}
use Rattle.graph.proofs.Inside.{hangs-same, hangs-reach}
use Rattle.graph.proofs.SourceSides.{side-mincut, boundary-side, mincut-boundary, mincut-side}

module _ (N : Network) (S : Sound N) where
  -- The boundary is what is computed.
  pub in-boundary_of : (s : ℕ) → Boundary N s (boundary_of N s)
  unfolding boundary_of
  in-boundary_of s e =
      let relevant = in-relevant_edges N S in
      Iff.trans (in-crossing_of N S.bounded (relevant_edges N) (λ k m. relevant-present N k ((relevant k).0 m)) s e) (Iff.and (relevant e) Iff.rfl)

  -- The source side is what is computed.
  pub in-source_side_of : (c v : ℕ) → (v ∈ source_side_of N c) ↔ OnSourceSide N c v
  unfolding source_side_of
  in-source_side_of c v =
      let kept : (e : ℕ) → (e ∈ (relevant_edges N ∖ c)) ↔ (RelevantEdge N e × (e ∈ c → ⊥)) =
      λ e. Iff.trans (in-minus (relevant_edges N) c e) (Iff.and (in-relevant_edges N S e) Iff.rfl) in
      let reach = in-reach-over N S.bounded (relevant_edges N ∖ c) (λ e m. relevant-present N e ((kept e).0 m).0) N.source v in (
        λ m.
            let (p, k) = reach.0 m in
            record {
              relevant = carried N (RelevantNode N) p N.source v k.0
                  (λ e i x y j a. end-relevant N e y x ((kept e).0 (k.1 e i)).0 (joins-sym N e x y j))
                  (inl refl) v (end-met N p N.source v k.0);
              steps = p;
              leads = k.0;
              kept = λ e i. (kept e).0 (k.1 e i);
            },
        λ o. reach.1 (o.steps, (o.leads, λ e i. (kept e).1 (o.kept e i))),
      )

  -- A mincut has a source side, of which it is the boundary.
  pub side-of-mincut : (c : ℕ) → Mincut N c → SourceSide N (source_side_of N c) × (boundary_of N (source_side_of N c) ≡ c)
  side-of-mincut c m =
      let s : ℕ = source_side_of N c in (
        mincut-side N S.bounded s c m (in-source_side_of c),
        same_set (λ e. Iff.trans (in-boundary_of s e) (Iff.symm (mincut-boundary N S.bounded s c m (in-source_side_of c) e))),
      )

  -- The boundary of a source side is a mincut, whose source side it is.
  pub mincut-of-side : (s : ℕ) → SourceSide N s → Mincut N (boundary_of N s) × (source_side_of N (boundary_of N s) ≡ s)
  mincut-of-side s side =
      let c : ℕ = boundary_of N s in (
        side-mincut N s c side (in-boundary_of s),
        same_set (λ v. Iff.trans (in-source_side_of c v) (Iff.symm (boundary-side N s c side (in-boundary_of s) v))),
      )

  -- Different source sides have different mincuts.
  pub boundary-injective : (s t : ℕ) → SourceSide N s → SourceSide N t → boundary_of N s ≡ boundary_of N t → s ≡ t
  boundary-injective s t a b e = sym (mincut-of-side s a).1 ∙ ap (source_side_of N) e ∙ (mincut-of-side t b).1

  -- Without a minpath the source alone is the only source side.
  pub side-none : ((r : ℕ) → Minpath N r → ⊥) → (s : ℕ) → SourceSide N s ↔ (s ≡ 2 ^ N.source)
  side-none none s = (
    alone s,
    λ e.
        let side = (side-of-mincut 0 ((mincut-none N none 0).1 refl)).0 in
        rw (e, ← alone (source_side_of N 0) side) side,
  )
    where
      relevant : (s v : ℕ) → SourceSide N s → v ∈ s → RelevantNode N v → v ≡ N.source
      relevant s v side m (inl e) = e
      relevant s v side m (inr (inl e)) = absurd (side.sink (rw e at m))
      relevant s v side m (inr (inr (r, (k, i)))) = absurd (none r k)

      alone : (s : ℕ) → SourceSide N s → s ≡ 2 ^ N.source
      alone s side = same_set (λ v. (
        λ m. (in-single N.source v).1 (relevant s v side m (side.relevant v m)),
        λ m. rw ((in-single N.source v).0 m) side.source,
      ))

  -- The relevant nodes outside s are those that are computed.
  in-beyond : (s v : ℕ) → (v ∈ (relevant_nodes N ∖ s)) ↔ Beyond N s v
  in-beyond s v = Iff.trans (in-minus (relevant_nodes N) s v) (Iff.and (in-relevant_nodes N S v) Iff.rfl)

  -- A source side is told by two reaches: source reaches all of it inside it, and sink all the rest of the relevant nodes outside.
  pub side-reach : (s : ℕ) → SourceSide N s ↔ (
      (s ⊆ relevant_nodes N)
      × (N.source ∈ s)
      × (N.sink ∈ s → ⊥)
      × (s ⊆ reach_in N s N.source)
      × ((relevant_nodes N ∖ s) ⊆ reach_in N (relevant_nodes N ∖ s) N.sink)
      )
  side-reach s = (
    λ side. (
      λ v m. (in-relevant_nodes N S v).1 (side.relevant v m),
      side.source,
      side.sink,
      (hangs-reach N S.bounded s N.source side.source).0 side.inside,
      (hangs-reach N S.bounded (relevant_nodes N ∖ s) N.sink ((in-beyond s N.sink).1 (inr (inl refl), side.sink))).0
          (hangs-same N (Beyond N s) (λ v. v ∈ (relevant_nodes N ∖ s)) (λ v. Iff.symm (in-beyond s v)) side.outside),
    ),
    λ k. record {
      relevant = λ v m. (in-relevant_nodes N S v).0 (k.0 v m);
      source = k.1;
      sink = k.2;
      inside = (hangs-reach N S.bounded s N.source k.1).1 k.3;
      outside = hangs-same N (λ v. v ∈ (relevant_nodes N ∖ s)) (Beyond N s) (in-beyond s)
          ((hangs-reach N S.bounded (relevant_nodes N ∖ s) N.sink ((in-beyond s N.sink).1 (inr (inl refl), k.2))).1 k.4);
    },
  )
