-- Where nodes are made one, that one is connected to the source exactly if one of them was.
-- Assumes that the source is none of the nodes.
--
--   one s t v            the node t in place of v, where v is one of the nodes s, and else v
use mathlib.Core.Path.{◌≡◌, refl, sym, ap, ◌∙◌}
use mathlib.Core.Bool.{false, cond}
use mathlib.Core.List.{[], ◌∷◌}
use mathlib.Core.Logic.{◌⊎◌, inl, inr, ◌↔◌}
use Prim.Native.Nat.{ℕ, ◌<◌}
use denote.Floats.{is_true}
use lib.ListN.{get_or}
use Rattle.bitset.specs.Members.{has, ◌∈◌, ◌∖◌}
use Rattle.bitset.proofs.Sets.{∈-dec, in-minus}
use Rattle.bitset.proofs.Subsets.{same_test}
use Rattle.network.specs.declared.Network.{Network}
use Rattle.network.specs.Record.{fault_of, first_end, second_end, present}
use Rattle.network.proofs.Rules.{fault-rules}
use Rattle.graph.specs.Paths.{Joins, Leads, Connected}
use Rattle.graph.specs.Cuts.{only, without}
use Rattle.graph.proofs.Walks.{end-met}
use Rattle.graph.proofs.Nodes.{carried}
use Rattle.graph.proofs.Connected.{connected-append, connected-self, connected-along}
use Rattle.contraction.specs.Contracted.{MovedEnd, Contracted}

unfoldable one : ℕ → ℕ → ℕ → ℕ
one s t v = cond (has s v) t v

module _ (s t v : ℕ) where
  one_in : v ∈ s → one s t v ≡ t
  unfolding one
  one_in m = rw (is_true (has s v) m)

  one_out : (v ∈ s → ⊥) → one s t v ≡ v
  unfolding one
  one_out n = rw (same_test (has s v) false n absurd)

  -- An end that has moved is there.
  one-moved : (w : ℕ) → MovedEnd s t v w → w ≡ one s t v
  one-moved w m = elim (∈-dec v s) [ yes i ↦ m.moved i ∙ sym (one_in i) | no n ↦ m.kept n ∙ sym (one_out n) ]

module _ (N : Network) (s : ℕ) (M : Network) (K : Contracted N s M) (server : N.source ∈ s → ⊥) (room : M.sink ∈ s) where
  abbrev t : ℕ
  t = M.sink

  -- It is accepted if the network is, and the nodes are its.
  pub contracted-accepted : fault_of N ≡ 0 → ((v : ℕ) → v ∈ s → v < N.nodes) → fault_of M ≡ 0
  contracted-accepted ok points =
      let rules = (fault-rules N).0 ok in
      let below : (v w : ℕ) → MovedEnd s t v w → v < N.nodes → w < M.nodes = λ v w m h.
      rw K.nodes (elim (∈-dec v s) [ yes i ↦ rw (m.moved i) (points t room) | no n ↦ rw (m.kept n) h ]) in
      (fault-rules M).1 (record {
        size = rw K.nodes rules.size;
        terminals = (
          rw (K.nodes, K.source) rules.terminals.0,
          rw K.nodes (points t room),
          λ e. server (rw (← K.source, e) room),
        );
        ends = λ k h m.
            let present = rw K.edges at m in
            let ends = rules.ends k h present in
            (below _ _ (K.first.moved k present) ends.0, below _ _ (K.second.moved k present) ends.1);
        absent = λ k h m.
            let absent : k ∈ present N → ⊥ = λ i. m (rw K.edges i) in
            let zero = rules.absent k h absent in (
              K.first.kept k absent ∙ zero.0,
              K.second.kept k absent ∙ zero.1,
              ap (λ l. get_or l k 0) K.metres ∙ zero.2,
            );
      })

  module _ (c : ℕ) where
    -- The edges are those of before, with both ends where they have moved.
    kept-edges : present M ∖ c ≡ present N ∖ c
    kept-edges = ap (λ n. n ∖ c) K.edges

    edges-along : (e u v : ℕ) → Joins (without N c) e u v → Joins (without M c) e (one s t u) (one s t v)
    unfolding Joins only
    edges-along e u v j =
        let present = ((in-minus (present N) c e).0 j.0).0 in
        let first : first_end M e ≡ one s t (first_end N e) = one-moved s t (first_end N e) (first_end M e) (K.first.moved e present) in
        let second : second_end M e ≡ one s t (second_end N e) = one-moved s t (second_end N e) (second_end M e) (K.second.moved e present) in (
          rw kept-edges j.0,
          elim j.1 [
            | inl q ↦ inl (first ∙ ap (one s t) q.0, second ∙ ap (one s t) q.1)
            | inr q ↦ inr (first ∙ ap (one s t) q.0, second ∙ ap (one s t) q.1)
          ],
        )

    edges-back : (e x y : ℕ) → Joins (without M c) e x y
        → (u : ℕ) × ((v : ℕ) × (Joins (without N c) e u v × ((x ≡ one s t u) × (y ≡ one s t v))))
    unfolding Joins only
    edges-back e x y j =
        let here : e ∈ (present N ∖ c) = rw kept-edges at j.0 in
        let present = ((in-minus (present N) c e).0 here).0 in
        let first : first_end M e ≡ one s t (first_end N e) = one-moved s t (first_end N e) (first_end M e) (K.first.moved e present) in
        let second : second_end M e ≡ one s t (second_end N e) = one-moved s t (second_end N e) (second_end M e) (K.second.moved e present) in
        elim j.1 [
          | inl q ↦ (first_end N e, (second_end N e, ((here, inl (refl, refl)), (sym q.0 ∙ first, sym q.1 ∙ second))))
          | inr q ↦ (second_end N e, (first_end N e, ((here, inr (refl, refl)), (sym q.1 ∙ second, sym q.0 ∙ first))))
        ]

    abbrev Reached : ℕ → Type 0
    Reached v = Connected (without N c) N.source v

    abbrev Met : Type 0
    Met = (r : ℕ) × ((r ∈ s) × Reached r)

    -- What is reached among the nodes meets them; over an edge more is reached, or they are met.
    over-edge : (e x y : ℕ) → Joins (without M c) e x y → Reached x ⊎ Met → Reached y ⊎ Met
    unfolding Leads
    over-edge e x y j (inr m) = inr m
    over-edge e x y j (inl r) =
        let (u, (v, (k, (from, to)))) = edges-back e x y j in
        elim (∈-dec u s) [
          | yes i ↦ inr (t, (room, rw (from ∙ one_in s t u i) at r))
          | no n ↦
              let here : Reached u = rw (from ∙ one_out s t u n) at r in
              let there : Reached v = connected-append (without N c) N.source u v here (record { edge = e; to = v } ∷ [], (k, refl)) in
              elim (∈-dec v s) [
                | yes i ↦ inr (v, (i, there))
                | no o ↦ inl (rw (to ∙ one_out s t v o) there)
              ]
        ]

    -- The one is connected to the source exactly if one of the nodes is.
    pub contracted-connected : Connected (without M c) M.source t ↔ Met
    contracted-connected = (
      λ (p, h).
          let start : Reached M.source ⊎ Met = inl (rw K.source (connected-self (without N c) N.source)) in
          let end = end-met (without M c) p M.source t h in
          elim (carried (without M c) (λ x. Reached x ⊎ Met) p M.source t h (λ e _ x y j. over-edge e x y j) start t end) [
            | inl r ↦ (t, (room, r))
            | inr m ↦ m
          ],
      λ (r, (i, w)).
          let along = connected-along (without N c) (without M c) (one s t) edges-along N.source r w in
          let start : one s t N.source ≡ M.source = one_out s t N.source server ∙ sym K.source in
          rw (start, one_in s t r i) at along,
    )
