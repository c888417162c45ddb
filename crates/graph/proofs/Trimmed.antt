-- Whether a network is trimmed as it is computed: all nodes and all present edges are relevant, or some one is not; and what a loop says of it.
-- Assumes a sound network.
use mathlib.Core.Path.{◌≡◌, refl}
use mathlib.Core.Bool.{false, not}
use mathlib.Core.Logic.{◌⊎◌, inl, inr, ◌↔◌}
use Prim.Native.Nat.{ℕ, ◌-◌, ◌^◌, ◌<◌}
use lib.Dec.{T, eqb}
use Rattle.sequences.proofs.Tests.{T_and, T_not, T-eqb}
use Rattle.bitset.specs.Members.{◌∈◌, ◌⊆◌}
use Rattle.bitset.proofs.Subsets.{⊆-antisym, same_test, and-absorb}
use Rattle.bitset.proofs.Sets.{in_ones, whole-or-missing}
use Rattle.network.specs.declared.Network.{Network}
use Rattle.network.specs.Record.{first_end, second_end, present}
use Rattle.network.specs.Ends.{Loopless}
use Rattle.graph.specs.Paths.{Joins}
use Rattle.graph.specs.Cuts.{RelevantNode, Trimmed, Untrimmed}
use Rattle.graph.specs.Relevant.{relevant_nodes, relevant_edges, trimmed}
use Rattle.graph.proofs.Walks.{joins-sym}
use Rattle.graph.proofs.EdgeSets.{joins-stored}
use Rattle.graph.proofs.Loops.{loop-relevant}
use Rattle.graph.proofs.Sound.{Sound}
use Rattle.graph.proofs.RelevantEdges.{relevant-present, relevant-edge-iff}
use Rattle.graph.proofs.Relevant.{relevant-lt, in-relevant_nodes, in-relevant_edges}

-- The test says that both sets are whole.
pub trimmed-whole : (N : Network) → T (trimmed N) ↔ ((relevant_nodes N ≡ 2 ^ N.nodes - 1) × (relevant_edges N ≡ present N))
unfolding trimmed
trimmed-whole N =
    let nodes = T-eqb (relevant_nodes N) (2 ^ N.nodes - 1) in
    let edges = T-eqb (relevant_edges N) (present N) in
    let both = T_and (eqb (relevant_nodes N) (2 ^ N.nodes - 1)) (eqb (relevant_edges N) (present N)) in
    (λ t. let p = both.0 t in (nodes.0 p.0, edges.0 p.1), λ p. both.1 (nodes.1 p.0, edges.1 p.1))

module _ (N : Network) (S : Sound N) where
  nodes-part : relevant_nodes N ⊆ (2 ^ N.nodes - 1)
  nodes-part v m = (in_ones N.nodes v).1 (relevant-lt N S v ((in-relevant_nodes N S v).0 m))

  -- All nodes are computed as relevant exactly if they are.
  pub nodes-whole : (relevant_nodes N ≡ 2 ^ N.nodes - 1) ↔ ((v : ℕ) → v < N.nodes → RelevantNode N v)
  nodes-whole = (
    λ e v h. (in-relevant_nodes N S v).0 (rw e ((in_ones N.nodes v).1 h)),
    λ k. ⊆-antisym _ _ nodes-part (λ v m. (in-relevant_nodes N S v).1 (k v ((in_ones N.nodes v).0 m))),
  )

  edges-part : relevant_edges N ⊆ present N
  edges-part e m = relevant-present N e ((in-relevant_edges N S e).0 m)

  -- What is computed is right.
  pub trimmed-iff : T (trimmed N) ↔ Trimmed N
  trimmed-iff = (
    λ t.
        let p = (trimmed-whole N).0 t in record {
          nodes = nodes-whole.0 p.0;
          edges = λ e m. (in-relevant_edges N S e).0 (rw p.1 m);
        },
    λ r. (trimmed-whole N).1 (
      nodes-whole.1 r.nodes,
      ⊆-antisym _ _ edges-part (λ e m. (in-relevant_edges N S e).1 (r.edges e m)),
    ),
  )

  -- A network that is not trimmed has a node or a present edge that is not relevant.
  pub untrimmed-iff : T (not (trimmed N)) ↔ Untrimmed N
  untrimmed-iff = (
    λ t.
        go ((T_not (trimmed N)).0 t) (whole-or-missing (relevant_nodes N) (2 ^ N.nodes - 1) nodes-part) (whole-or-missing (relevant_edges N) (present N) edges-part),
    λ u. (T_not (trimmed N)).1 (λ t. let r = trimmed-iff.0 t in elim u [ inl p ↦ p.2 (r.nodes p.0 p.1) | inr p ↦ p.2 (r.edges p.0 p.1) ]),
  )
    where
      go : (T (trimmed N) → ⊥)
          → (relevant_nodes N ≡ 2 ^ N.nodes - 1) ⊎ ((v : ℕ) × (v ∈ (2 ^ N.nodes - 1)) × (v ∈ relevant_nodes N → ⊥))
          → (relevant_edges N ≡ present N) ⊎ ((e : ℕ) × (e ∈ present N) × (e ∈ relevant_edges N → ⊥)) → Untrimmed N
      go lacks (inr p) d = inl (p.0, (in_ones N.nodes p.0).0 p.1, λ r. p.2 ((in-relevant_nodes N S p.0).1 r))
      go lacks (inl e) (inr p) = inr (p.0, p.1, λ r. p.2 ((in-relevant_edges N S p.0).1 r))
      go lacks (inl e) (inl q) = absurd (lacks ((trimmed-whole N).1 (e, q)))

  -- ---- loops

  -- Without loops the nodes decide: an edge between two relevant nodes is relevant.
  pub trimmed-loopless : Loopless N → trimmed N ≡ eqb (relevant_nodes N) (2 ^ N.nodes - 1)
  unfolding trimmed
  trimmed-loopless loopless =
      and-absorb (eqb (relevant_nodes N) (2 ^ N.nodes - 1)) (eqb (relevant_edges N) (present N)) (λ t.
      let node : (v : ℕ) → v < N.nodes → RelevantNode N v = nodes-whole.0 ((T-eqb _ _).0 t) in
      (T-eqb _ _).1 (⊆-antisym _ _ edges-part (λ e m.
      let a : ℕ = first_end N e in
      let b : ℕ = second_end N e in
      let j = joins-stored N e m in
      let ends = S.bounded.ends in
      (in-relevant_edges N S e).1 ((relevant-edge-iff N e a b j).1
      (λ q. loopless e b (m, q, refl), (node a (ends e b a (joins-sym N e a b j)), node b (ends e a b j)))))))

  -- With a loop a network is not trimmed.
  pub trimmed-loop : (Loopless N → ⊥) → trimmed N ≡ false
  unfolding Joins
  trimmed-loop loops =
      same_test (trimmed N) false (λ t.
      loops (λ k v l. loop-relevant N k v (l.0, inl (l.1, l.2)) ((trimmed-iff.0 t).edges k l.0))) absurd
