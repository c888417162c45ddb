-- A visit of the sink, the source visited before: whether it has visited all nodes tells whether all are relevant.
-- Assumes a sound network and its table.
use mathlib.Core.Path.{◌≡◌, refl, sym, ◌∙◌}
use mathlib.Core.Bool.{true, false, true≢false}
use mathlib.Core.List.Memᴰ
use mathlib.Core.List.{List}
use mathlib.Core.Logic.Dec
use mathlib.Core.Logic.{◌⊎◌, inl, inr, Ne-symm}
use Prim.Native.Nat.{ℕ, ◌-◌, ◌^◌, ◌<◌}
use native.Mathlib.Decide.{ℕ_discrete}
use borrow.Author.Tests.{ne_eqb}
use lib.Dec.{eqb}
use lib.ListN.{get_or}
use Rattle.std.specs.Prelude.{Option, Some, None}
use Rattle.std.specs.Option.{is_some}
use Rattle.sequences.proofs.Tests.{T-eqb}
use Rattle.bitset.specs.Members.{has, ◌∈◌, ◌∖◌}
use Rattle.bitset.proofs.Subsets.{⊆-antisym, same_test}
use Rattle.bitset.proofs.Sets.{∈-dec, in_insert, in-minus, in-or-minus, in-single, in_ones}
use Rattle.node_set.specs.declared.NodeSet.{NodeSet}
use Rattle.network.specs.declared.Network.{Network}
use Rattle.graph.specs.Paths.{Joins, edges_of}
use Rattle.graph.specs.Cuts.{RelevantNode}
use Rattle.graph.specs.Relevant.{past, relevant_nodes}
use Rattle.graph.proofs.Walks.{joins-sym, end-met, ends-met}
use Rattle.graph.proofs.Nodes.{carried}
use Rattle.graph.proofs.Sound.{Sound}
use Rattle.graph.proofs.RelevantNodes.{Escapes, stays, escapes-over, relevant-node-iff}
use Rattle.graph.proofs.Relevant.{in-past, relevant-lt}
use Rattle.graph.proofs.Trimmed.{nodes-whole}
use Rattle.adjacency.specs.Adjacency.{Adjacency}
use Rattle.adjacency.proofs.Reaching.{adjacency-mutual}
use Rattle.trimmed.specs.Visits.{ClosedBut, Found, Visited, VisitEnds, after_of, back_of}

module _ (N : Network) (S : Sound N) (adjacent : List ℕ) (table : Adjacency N adjacent) where
  -- The set of all nodes.
  abbrev all : ℕ
  all = 2 ^ N.nodes - 1

  -- An adjacent node is a node.
  row_lt : (v w : ℕ) → w ∈ get_or adjacent v 0 → w < N.nodes
  row_lt v w m = let j = ((table v w).0 m).1 in S.bounded.ends j.0 v w j.1

  -- ---- all nodes are visited

  -- What is past c is closed but for c: an edge before an escape is an escape.
  past-closed : (c : ℕ) → ClosedBut adjacent c (has (past N c))
  past-closed c u w m ne i ne' =
      let (e, j) = ((table u w).0 i).1 in
      elim ((in-past N S c u).0 m) [
        | inl q ↦ absurd (ne q)
        | inr k ↦ (in-past N S c w).1 (inr (escapes-over N c e w u (joins-sym N e u w j) (λ q. ne' (sym q)) k))
      ]

  -- A terminal is past every other node.
  terminal-past : (c v : ℕ) → (v ≡ N.source) ⊎ (v ≡ N.sink) → (v ≡ c → ⊥) → v ∈ past N c
  terminal-past c v t ne = (in-past N S c v).1 (inr (stays N c v t (λ e. ne (sym e))))

  -- A node found from the sink, the source visited before, is past every other node.
  found-past : (after : ℕ) → Found adjacent (2 ^ N.source) N.sink after → (v : ℕ) → v ∈ (after ∖ 2 ^ N.source)
      → (c : ℕ) → (v ≡ c → ⊥) → v ∈ past N c
  found-past after f v own c ne = go (∈-dec c (after ∖ 2 ^ N.source))
    where
      go : Dec (c ∈ (after ∖ 2 ^ N.source)) → v ∈ past N c
      go (yes m) =
          f.past-own c m (has (past N c)) (past-closed c)
          (λ w i. terminal-past c w (elim ((in_insert (2 ^ N.source) N.sink w).0 i) [ inl s ↦ inl ((in-single N.source w).0 s) | inr e ↦ inr e ]))
          v own ne
      go (no n) =
          f.past-others c n (has (past N c)) (past-closed c) (λ w i. terminal-past c w (inr ((in-single N.sink w).0 i))) v own ne

  -- So each visited node is relevant.
  found-relevant : (after : ℕ) → Found adjacent (2 ^ N.source) N.sink after → (v : ℕ) → v ∈ after → RelevantNode N v
  found-relevant after f v m =
      elim (in-or-minus (2 ^ N.source) after v m) [
        | inl s ↦ inl ((in-single N.source v).0 s)
        | inr own ↦ (relevant-node-iff N v).1 (λ c ne. elim ((in-past N S c v).0 (found-past after f v own c (Ne-symm ne))) [
          | inl e ↦ absurd (ne (sym e))
          | inr k ↦ k
        ])
      ]

  -- ---- some nodes hang on one

  -- Nodes without a terminal that hang on one other node alone are not relevant: no walk leads from them past it.
  hanging-irrelevant : (holder part : ℕ) → (N.source ∈ part → ⊥) → (N.sink ∈ part → ⊥) → (holder ∈ part → ⊥)
      → ((u w : ℕ) → u ∈ part → w ∈ get_or adjacent u 0 → (w ∈ part) ⊎ (w ≡ holder)) → (k : ℕ) → k ∈ part → RelevantNode N k → ⊥
  hanging-irrelevant holder part off off' other alone k m r =
      let q = (relevant-node-iff N k).0 r holder (λ e. other (rw e m)) in
      let there : q.end ∈ part =
      carried N (λ x. x ∈ part) q.steps k q.end q.leads (λ e i x y j h. go q e i x y j h (ℕ_discrete x y)) m q.end
      (end-met N q.steps k q.end q.leads) in
      elim q.terminal [ inl e ↦ off (rw e at there) | inr e ↦ off' (rw e at there) ]
    where
      go : (q : Escapes N holder k) (e : ℕ) → e ∈ edges_of q.steps → (x y : ℕ) → Joins N e x y → x ∈ part → Dec (x ≡ y) → y ∈ part
      go q e i x y j h (yes d) = rw d at h
      go q e i x y j h (no n) =
          elim (alone x y h ((table x y).1 (n, (e, j)))) [
            | inl l ↦ l
            | inr d ↦ absurd (q.avoids (Memᴰ.cast (sym d) (ends-met N q.steps k q.end e y x q.leads i (joins-sym N e x y j))))
          ]

  -- ---- what the visit tells

  -- Where all nodes are relevant, none is missing from a visit: those missing would hang on the source alone.
  visited-whole : (after back : ℕ) → Visited adjacent (2 ^ N.source) N.sink after back
      → ((v : ℕ) → v < N.nodes → RelevantNode N v) → (k : ℕ) → k < N.nodes → k ∈ after
  visited-whole after back s relevant k h =
      let there : (v : ℕ) → v ∈ after → v ∈ (all ∖ after) → ⊥ = λ v m n. ((in-minus all after v).0 n).1 m in
      let first : N.source ∈ after = s.found.keeps N.source ((in-single N.source N.source).1 refl) in
      let sink : N.sink ∈ after = ((in-minus after (2 ^ N.source) N.sink).0 s.found.visits).0 in
      (Dec.not-not (∈-dec k after)).0 (λ n.
      hanging-irrelevant N.source (all ∖ after) (there N.source first) (there N.sink sink) (there N.source first)
      (λ u w m i. go u w m i (∈-dec w after)) k ((in-minus all after k).1 ((in_ones N.nodes k).1 h, n)) (relevant k h))
    where
      go : (u w : ℕ) → u ∈ (all ∖ after) → w ∈ get_or adjacent u 0 → Dec (w ∈ after)
          → (w ∈ (all ∖ after)) ⊎ (w ≡ N.source)
      go u w m i (yes j) =
          elim (in-or-minus (2 ^ N.source) after w j) [
            | inl e ↦ inr ((in-single N.source w).0 e)
            | inr o ↦ absurd (((in-minus all after u).0 m).1 (s.closed w u o (adjacency-mutual N adjacent table u w i)))
          ]
      go u w m i (no n) = inl ((in-minus all after w).1 ((in_ones N.nodes w).1 (row_lt u w i), n))

  -- Where the visit ends, all nodes are visited exactly if all are relevant.
  pub ends-tell : (after back : ℕ) → VisitEnds adjacent (2 ^ N.source) N.sink after back
      → eqb after all ≡ eqb (relevant_nodes N) all
  ends-tell after back (inl s) =
      let node : (v : ℕ) → v ∈ after → RelevantNode N v = found-relevant after s.found in
      same_test (eqb after all) (eqb (relevant_nodes N) all)
      (λ t. (T-eqb _ _).1 ((nodes-whole N S).1 (λ v h. node v (rw ((T-eqb after all).0 t) ((in_ones N.nodes v).1 h)))))
      (λ t. (T-eqb _ _).1 (⊆-antisym after all (λ v m. (in_ones N.nodes v).1 (relevant-lt N S v (node v m)))
      (λ v m. visited-whole after back s ((nodes-whole N S).0 ((T-eqb _ _).0 t)) v ((in_ones N.nodes v).0 m))))
  ends-tell after back (inr (same, none, h)) =
      let (k, (m, i)) = h.some in
      same_test (eqb after all) (eqb (relevant_nodes N) all)
      (λ t. absurd (S.differ (sym ((in-single N.source N.sink).0 (rw (← same, (T-eqb after all).0 t) ((in_ones N.nodes N.sink).1 S.sink-lt))))))
      (λ t. absurd (hanging-irrelevant h.holder h.part
      (λ j. h.apart N.source j ((in_insert (2 ^ N.source) N.sink N.source).1 (inl ((in-single N.source N.source).1 refl))))
      (λ j. h.apart N.sink j ((in_insert (2 ^ N.source) N.sink N.sink).1 (inr refl)))
      h.other h.alone k m ((nodes-whole N S).0 ((T-eqb _ _).0 t) k (row_lt h.holder k i))))

  -- Where the walk has ended, the visited nodes tell; where it is over, not all are relevant.
  module _ (visited : ℕ) where
    pub some-tells : (a : Option NodeSet) → VisitEnds adjacent (2 ^ N.source) N.sink (after_of (2 ^ N.source) visited a) (back_of a)
        → true ≡ is_some a → eqb visited all ≡ eqb (relevant_nodes N) all
    some-tells (Some back) ends is = ends-tell visited back.0 ends
    some-tells None ends is = absurd (true≢false is)

    pub none-tells : (a : Option NodeSet) → VisitEnds adjacent (2 ^ N.source) N.sink (after_of (2 ^ N.source) visited a) (back_of a)
        → false ≡ is_some a → false ≡ eqb (relevant_nodes N) all
    none-tells (Some back) ends is = absurd (true≢false (sym is))
    none-tells None ends is =
        let lacks : 2 ^ N.source ≡ all → ⊥ =
        λ e. S.differ (sym ((in-single N.source N.sink).0 (rw e ((in_ones N.nodes N.sink).1 S.sink-lt)))) in
        sym (ne_eqb (2 ^ N.source) all lacks) ∙ ends-tell (2 ^ N.source) 0 ends
