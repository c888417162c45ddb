-- Walks that stay inside a set of nodes are the walks over the edges within it, so that one reach tells whether the set hangs together.
-- Assumes, where something is computed, that the edges have numbers below 64 and ends below the node count.
use mathlib.Core.Path.{refl}
use mathlib.Core.List.Memᴰ
use mathlib.Core.List.{List, ◌++◌, Memᴰ}
use mathlib.Core.Logic.{inl, inr, ◌↔◌}
use Prim.Native.Nat.{ℕ, ◌^◌}
use Rattle.bitset.specs.Members.{◌⊆◌, ◌∈◌}
use Rattle.bitset.proofs.Sets.{in-single}
use Rattle.network.specs.Record.{present}
use Rattle.network.specs.declared.Network.{Network}
use Rattle.graph.specs.Reach.{reach_of, Bounded}
use Rattle.graph.specs.Paths.{Hop, Leads, nodes_from, Simple, edges_of}
use Rattle.graph.specs.Cuts.{only}
use Rattle.graph.specs.SourceSides.{Inside, HangsTogether}
use Rattle.graph.specs.Relevant.{edges_within, reach_in}
use Rattle.graph.proofs.Walks.{nodes-append, back, joins-sym, ends-met, leads-append, leads-back, nodes-back, shorten, edges-present, leads-within}
use Rattle.graph.proofs.Nodes.{nodes-within, carried}
use Rattle.graph.proofs.Reach.{in_reach, bounded-only}
use Rattle.graph.proofs.Loops.{no_loop}
use Rattle.graph.proofs.EdgeSets.{in-edges_within}

module _ (N : Network) (P : ℕ → Type 0) where
  -- Two walks that stay where P holds make one.
  pub inside-append : (u v w : ℕ) → Inside N P u v → Inside N P v w → Inside N P u w
  inside-append u v w p q = record {
    steps = p.steps ++ q.steps;
    leads = leads-append N p.steps q.steps u v w p.leads q.leads;
    stays = λ x m. elim (Memᴰ.append_cases (nodes_from u p.steps) (rw (nodes-append u p.steps q.steps) at m)) [
      | inl i ↦ p.stays x i
      | inr i ↦ q.stays x (Memᴰ.tail i)
    ];
  }

  -- A walk back stays where the walk does.
  pub inside_back : (u v : ℕ) → Inside N P u v → Inside N P v u
  inside_back u v p = record {
    steps = back u p.steps;
    leads = leads-back N p.steps u v p.leads;
    stays = λ x m. p.stays x ((nodes-back N p.steps u v x p.leads).0 m);
  }

  -- Nodes that each have a walk to one node h hang together.
  pub hangs-at : (h : ℕ) → ((v : ℕ) → P v → Inside N P v h) → HangsTogether N P
  hangs-at h to u v a b = inside-append u h v (to u a) (inside_back v h (to v b))

-- Nodes hang together whatever test picks them.
pub hangs-same : (N : Network) (P Q : ℕ → Type 0) → ((v : ℕ) → P v ↔ Q v) → HangsTogether N P → HangsTogether N Q
hangs-same N P Q same k u v a b =
    let p = k u v ((same u).1 a) ((same v).1 b) in
    record { steps = p.steps; leads = p.leads; stays = λ x m. (same x).0 (p.stays x m) }

module _ (N : Network) (B : Bounded N) (u : ℕ) where
  -- A walk inside u that meets no node twice takes edges within u alone.
  simple-within : (p : List Hop) (h v : ℕ) → Leads N h p v → Simple h p → ((x : ℕ) → Memᴰ x (nodes_from h p) → x ∈ u) → edges_of p ⊆ edges_within N u
  simple-within p h v w simple stays e m =
      (in-edges_within N B u e).1 (
        edges-present N p h v w e m,
        λ x y j. (λ q. no_loop N p h v e y w simple m (rw q at j), stays x (ends-met N p h v e x y w m j)),
      )

  -- What the nodes of a part s of u reach over the edges within u are the nodes to which a walk from one of them stays inside u: such a
  -- walk need not take a loop.
  pub in-reach-within : (s : ℕ) → s ⊆ u → (v : ℕ)
      → (v ∈ reach_of (only N (edges_within N u)) s) ↔ ((h : ℕ) × ((h ∈ s) × Inside N (λ x. x ∈ u) h v))
  in-reach-within s sub v =
      let present : edges_within N u ⊆ present N = λ e m. ((in-edges_within N B u e).0 m).0 in
      let over = leads-within N (edges_within N u) present in
      let reach = in_reach (only N (edges_within N u)) (bounded-only N B (edges_within N u) present) s v in (
        λ m.
            let (h, (start, (p, w))) = reach.0 m in
            let k = (over p h v).0 w in (
              h,
              (
                start,
                record {
                  steps = p;
                  leads = k.0;
                  stays = carried N (λ x. x ∈ u) p h v k.0
                      (λ e i x y j a. (((in-edges_within N B u e).0 (k.1 e i)).1 y x (joins-sym N e x y j)).1) (sub h start);
                },
              ),
            ),
        λ (h, (start, p)).
            let q = shorten N p.steps h v p.leads in
            let stays : (x : ℕ) → Memᴰ x (nodes_from h q.steps) → x ∈ u =
            λ x m. p.stays x (nodes-within h q.steps p.steps q.within x m) in
            reach.1 (h, (start, (q.steps, (over q.steps h v).1 (q.leads, simple-within q.steps h v q.leads q.simple stays)))),
      )

module _ (N : Network) (B : Bounded N) (u h : ℕ) (start : h ∈ u) where
  -- What h reaches inside u are the nodes to which a walk from h stays inside u.
  pub in-reach_in : (v : ℕ) → (v ∈ reach_in N u h) ↔ Inside N (λ x. x ∈ u) h v
  unfolding reach_in
  in-reach_in v =
      let reach = in-reach-within N B u (2 ^ h) (λ x m. rw ((in-single h x).0 m) start) v in (
        λ m. let (x, (i, p)) = reach.0 m in rw ((in-single h x).0 i) at p,
        λ p. reach.1 (h, ((in-single h h).1 refl, p)),
      )

  -- A set hangs together exactly if one of its nodes reaches all of it inside it.
  pub hangs-reach : HangsTogether N (λ x. x ∈ u) ↔ (u ⊆ reach_in N u h)
  hangs-reach = (
    λ k v m. (in-reach_in v).1 (k h v start m),
    λ l. hangs-at N (λ x. x ∈ u) h (λ v m. inside_back N (λ x. x ∈ u) h v ((in-reach_in v).0 (l v m))),
  )
