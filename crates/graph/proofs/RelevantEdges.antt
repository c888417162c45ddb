-- An edge is relevant exactly if it is present, its ends differ, and both are relevant.
-- Assumes nothing.
use mathlib.Core.Path.{refl, sym, ◌∙◌}
use mathlib.Core.List.Memᴰ
use mathlib.Core.List.{List, [], ◌∷◌, Memᴰ}
use mathlib.Core.Logic.{inl, inr, ◌↔◌, ◌≢◌, Ne-symm}
use Prim.Native.Nat.{ℕ}
use Rattle.sequences.specs.Distinct.{Distinct}
use Rattle.bitset.specs.Members.{◌∈◌}
use Rattle.network.specs.declared.Network.{Network}
use Rattle.network.specs.Record.{first_end, second_end, present}
use Rattle.graph.specs.Paths.{Joins, Hop, Leads, nodes_from, Simple, edges_of}
use Rattle.graph.specs.Cuts.{RelevantEdge, RelevantNode}
use Rattle.graph.proofs.Walks.{edges-cons, joins-sym, ends-met, edges-present}
use Rattle.graph.proofs.EdgeSets.{joins-stored}
use Rattle.graph.proofs.Minpaths.{minpath-present}
use Rattle.graph.proofs.Loops.{no_loop}
use Rattle.graph.proofs.RelevantNodes.{end-relevant, relevant-escapes, edge-to-escape}

module _ (N : Network) where
  -- A relevant edge is present.
  pub relevant-present : (e : ℕ) → RelevantEdge N e → e ∈ present N
  relevant-present e (r, (m, i)) = minpath-present N r m e i

  -- An edge from source to sink is a minpath.
  direct : (e : ℕ) → Joins N e N.source N.sink → N.source ≢ N.sink → RelevantEdge N e
  unfolding Leads Distinct
  direct e j ne =
      let p : List Hop = record { edge = e; to = N.sink } ∷ [] in (
        edges_of p,
        (
          record {
            steps = p;
            leads = (j, refl);
            simple = (λ m. ne (Memᴰ.eq_of_singleton m), (Memᴰ.not-nil, tt));
            members = refl;
          },
          (edges-cons (record { edge = e; to = N.sink }) [] e).1 (inr refl),
        ),
      )

  -- An edge between two different relevant nodes is relevant.
  between-relevant : (e u v : ℕ) → Joins N e u v → u ≢ v → RelevantNode N u → RelevantNode N v → RelevantEdge N e
  between-relevant e u v j ne (inr (inr m)) k = edge-to-escape N e u v m j (relevant-escapes N u v k ne)
  between-relevant e u v j ne (inl a) (inr (inr m)) =
      edge-to-escape N e v u m (joins-sym N e u v j) (relevant-escapes N v u (inl a) (Ne-symm ne))
  between-relevant e u v j ne (inr (inl a)) (inr (inr m)) =
      edge-to-escape N e v u m (joins-sym N e u v j) (relevant-escapes N v u (inr (inl a)) (Ne-symm ne))
  between-relevant e u v j ne (inl a) (inl b) = absurd (ne (a ∙ sym b))
  between-relevant e u v j ne (inr (inl a)) (inr (inl b)) = absurd (ne (a ∙ sym b))
  between-relevant e u v j ne (inl a) (inr (inl b)) = direct e (rw (a, b) at j) (rw (a, b) at ne)
  between-relevant e u v j ne (inr (inl a)) (inl b) = direct e (rw (a, b) at (joins-sym N e u v j)) (rw (a, b) at (Ne-symm ne))

  -- An edge is relevant exactly if its ends differ and are relevant.
  pub relevant-edge-iff : (e u v : ℕ) → Joins N e u v → RelevantEdge N e ↔ ((u ≢ v) × (RelevantNode N u × RelevantNode N v))
  relevant-edge-iff e u v j = (
    λ r.
        let m = r.1.0 in (
          λ q. no_loop N m.steps N.source N.sink e v m.leads m.simple (rw m.members r.1.1) (rw q at j),
          (end-relevant N e u v r j, end-relevant N e v u r (joins-sym N e u v j)),
        ),
    λ k. between-relevant e u v j k.0 k.1.0 k.1.1,
  )

  -- A simple path over relevant nodes takes relevant edges.
  pub path-relevant : (p : List Hop) (u v : ℕ) → Leads N u p v → Simple u p
      → ((x : ℕ) → Memᴰ x (nodes_from u p) → RelevantNode N x) → (e : ℕ) → e ∈ edges_of p → RelevantEdge N e
  path-relevant p u v h simple on e m =
      let a : ℕ = first_end N e in
      let b : ℕ = second_end N e in
      let j : Joins N e a b = joins-stored N e (edges-present N p u v h e m) in
      (relevant-edge-iff e a b j).1 (
        λ q. no_loop N p u v e b h simple m (rw q at j),
        (on a (ends-met N p u v e a b h m j), on b (ends-met N p u v e b a h m (joins-sym N e a b j))),
      )
