-- The relevant part as it is computed is the relevant part.
-- Assumes a sound network.
use mathlib.Core.Path.{◌≡◌, refl, sym, ◌∙◌}
use mathlib.Core.List.Memᴰ
use mathlib.Core.List.{List, Memᴰ}
use mathlib.Core.Logic.{◌⊎◌, inl, inr, ⊎_map, ⊎_elim, ◌↔◌, ◌≢◌, Ne-symm}
use Prim.Native.Nat.{ℕ, zero, suc, ◌-◌, ◌^◌, ◌≤◌, ◌<◌}
use native.Mathlib.Nat.{not-suc-le-zero, le_of_suc-le-suc, eq-or-lt_of_le}
use native.Mathlib.Decide.{ℕ_discrete, dec_lt}
use native.Mathlib.Omega.{arith}
use lib.Bits.{bit_and, and_comm}
use Rattle.bitset.specs.Members.{insert, ◌∖◌, ◌∈◌, ◌⊆◌}
use Rattle.bitset.proofs.Subsets.{⊆-refl, subset-and}
use Rattle.bitset.proofs.Sets.{in_insert, in_and, in-single, in-drop, in_ones}
use Rattle.network.specs.declared.Network.{Network}
use Rattle.network.specs.Record.{first_end, second_end}
use Rattle.graph.specs.Paths.{Hop, Leads, nodes_from}
use Rattle.graph.specs.Cuts.{only, RelevantEdge, RelevantNode}
use Rattle.graph.specs.Reach.{reach_of}
use Rattle.graph.specs.Relevant.{edges_within, past, past_all, relevant_nodes, relevant_edges}
use Rattle.graph.proofs.Walks.{joins-sym, end-met, back, leads-back, nodes-back}
use Rattle.graph.proofs.Nodes.{carried}
use Rattle.graph.proofs.EdgeSets.{joins-stored, in-edges_within}
use Rattle.graph.proofs.Sound.{Sound}
use Rattle.graph.proofs.Inside.{in-reach-within}
use Rattle.graph.proofs.RelevantNodes.{Escapes, stays, escapes-from, relevant-node-iff}
use Rattle.graph.proofs.RelevantEdges.{relevant-present, relevant-edge-iff}

module _ (N : Network) (S : Sound N) where
  -- ---- past a node

  -- A terminal is below the node count.
  terminal-lt : (v : ℕ) → (v ≡ N.source) ⊎ (v ≡ N.sink) → v < N.nodes
  terminal-lt v (inl e) = rw e S.source-lt
  terminal-lt v (inr e) = rw e S.sink-lt

  -- A walk from a node below the node count meets no other number.
  nodes-lt : (p : List Hop) (u v : ℕ) → Leads N u p v → u < N.nodes → (x : ℕ) → Memᴰ x (nodes_from u p) → x < N.nodes
  nodes-lt p u v h l = carried N (λ x. x < N.nodes) p u v h (λ e i x y j k. S.bounded.ends e x y j) l

  -- The other nodes than c.
  in-others : (c x : ℕ) → (x ∈ ((2 ^ N.nodes - 1) ∖ 2 ^ c)) ↔ ((x < N.nodes) × (x ≡ c → ⊥))
  in-others c x =
      let drop = in-drop (2 ^ N.nodes - 1) c x in (
        λ m. let d = drop.0 m in ((in_ones N.nodes x).0 d.0, d.1),
        λ k. drop.1 ((in_ones N.nodes x).1 k.0, k.1),
      )

  -- Source and sink, whichever is not c.
  in-terminals : (c u : ℕ)
      → (u ∈ (insert (2 ^ N.source) N.sink ∖ 2 ^ c)) ↔ (((u ≡ N.source) ⊎ (u ≡ N.sink)) × (u ≡ c → ⊥))
  unfolding ⊎_map
  in-terminals c u = (
    λ m.
        let d = (in-drop (insert (2 ^ N.source) N.sink) c u).0 m in
        (⊎_map (in-single N.source u).0 (λ e. e) ((in_insert (2 ^ N.source) N.sink u).0 d.0), d.1),
    λ k.
        (in-drop (insert (2 ^ N.source) N.sink) c u).1
        ((in_insert (2 ^ N.source) N.sink u).1 (⊎_map (in-single N.source u).1 (λ e. e) k.0), k.1),
  )

  -- What is computed for c are the nodes that escape past c, and c.
  pub in-past : (c v : ℕ) → (v ∈ past N c) ↔ ((v ≡ c) ⊎ Escapes N c v)
  unfolding past
  in-past c v =
      let others : ℕ = (2 ^ N.nodes - 1) ∖ 2 ^ c in
      let start : ℕ = insert (2 ^ N.source) N.sink ∖ 2 ^ c in
      let reached : ℕ = reach_of (only N (edges_within N others)) start in
      let inside : start ⊆ others = λ u m. let t = (in-terminals c u).0 m in (in-others c u).1 (terminal-lt u t.0, t.1) in
      let reach = in-reach-within N S.bounded others start inside v in (
        λ m. elim ((in_insert reached c v).0 m) [
          | inl i ↦
              let (h, (t, p)) = reach.0 i in
              inr (record {
                steps = back h p.steps;
                end = h;
                terminal = ((in-terminals c h).0 t).0;
                leads = leads-back N p.steps h v p.leads;
                avoids = λ j. ((in-others c c).0 (p.stays c ((nodes-back N p.steps h v c p.leads).0 j))).1 refl;
              })
          | inr e ↦ inl e
        ],
        λ k. (in_insert reached c v).1 (elim k [
          | inl e ↦ inr e
          | inr q ↦
              let other : q.end ≡ c → ⊥ = λ e. q.avoids (Memᴰ.cast (sym e) (end-met N q.steps v q.end q.leads)) in
              let come = leads-back N q.steps v q.end q.leads in
              inl (reach.1 (
                q.end,
                (
                  (in-terminals c q.end).1 (q.terminal, other),
                  record {
                    steps = back v q.steps;
                    leads = come;
                    stays = λ x m. (in-others c x).1 (
                      nodes-lt (back v q.steps) q.end v come (terminal-lt q.end q.terminal) x m,
                      λ e. q.avoids (Memᴰ.cast (sym e) ((nodes-back N q.steps v q.end x q.leads).0 m)),
                    );
                  },
                ),
              ))
        ]),
      )

  -- The nodes past every number below n.
  in-past_all : (n v : ℕ) → (v ∈ past_all N n) ↔ ((v < N.nodes) × ((c : ℕ) → c < n → (v ≡ c) ⊎ Escapes N c v))
  unfolding past_all
  in-past_all zero v =
      (λ m. ((in_ones N.nodes v).0 m, λ c h. absurd (not-suc-le-zero h)), λ k. (in_ones N.nodes v).1 k.0)
  in-past_all (suc n) v = (
    λ m.
        let both = (in_and (past_all N n) (past N n) v).0 m in
        let k = (in-past_all n v).0 both.0 in
        (k.0, λ c h. elim (eq-or-lt_of_le (le_of_suc-le-suc h)) [ inl e ↦ rw e ((in-past n v).0 both.1) | inr l ↦ k.1 c l ]),
    λ k.
        (in_and (past_all N n) (past N n) v).1
        ((in-past_all n v).1 (k.0, λ c h. k.1 c (omega arith)), (in-past n v).1 (k.1 n (omega arith))),
  )

  -- ---- which nodes need not be left out

  -- What is past every number below n is past each of them.
  past_all-past : (n c : ℕ) → c < n → past_all N n ⊆ past N c
  past_all-past n c h v m = (in-past c v).1 (((in-past_all n v).0 m).1 c h)

  -- What is past the source is past any node that is not: no escape past the source meets that node.
  past-beyond : (c : ℕ) → (c ∈ past N N.source → ⊥) → past N N.source ⊆ past N c
  past-beyond c off v m =
      (in-past c v).1 (inr (⊎_elim
      (λ (e : v ≡ N.source). stays N c v (inl e) (λ d. off ((in-past N.source c).1 (inl (d ∙ e)))))
      (λ (q : Escapes N N.source v). record {
        steps = q.steps;
        end = q.end;
        terminal = q.terminal;
        leads = q.leads;
        avoids = λ n. off ((in-past N.source c).1 (inr (escapes-from N N.source v c q n)));
      })
      ((in-past N.source v).0 m)))

  -- So the other nodes past the source are the ones to be left out, after the source itself.
  pub past-others : (c : ℕ) → (c ∈ (past N N.source ∖ 2 ^ N.source) → ⊥) → past N N.source ⊆ past N c
  past-others c off = go (ℕ_discrete c N.source)
    where
      go : Dec (c ≡ N.source) → past N N.source ⊆ past N c
      go (yes e) = rw e (⊆-refl (past N N.source))
      go (no n) = past-beyond c (λ m. off ((in-drop (past N N.source) N.source c).1 (m, n)))

  -- What escapes past a node is below the node count, and so is what is past it.
  escapes-lt : (c v : ℕ) → Escapes N c v → v < N.nodes
  escapes-lt c v q =
      let come = leads-back N q.steps v q.end q.leads in
      nodes-lt (back v q.steps) q.end v come (terminal-lt q.end q.terminal) v (end-met N (back v q.steps) q.end v come)

  past-lt : (c v : ℕ) → c < N.nodes → v ∈ past N c → v < N.nodes
  past-lt c v h m = ⊎_elim (λ (e : v ≡ c). rw e h) (escapes-lt c v) ((in-past c v).0 m)

  -- So what is past the source is the first of what is past the source and every node before, and what is past every node the last.
  pub past-all-first : past N N.source ≡ bit_and (past N N.source) (past_all N 0)
  unfolding past_all
  past-all-first =
      sym ((subset-and (past N N.source) (past_all N 0)).0 (λ v m.
      (in-past_all 0 v).1 (past-lt N.source v S.source-lt m, λ c h. absurd (not-suc-le-zero h))))

  pub past-all-whole : bit_and (past N N.source) (past_all N N.nodes) ≡ past_all N N.nodes
  past-all-whole =
      and_comm (past N N.source) (past_all N N.nodes)
      ∙ (subset-and (past_all N N.nodes) (past N N.source)).0 (past_all-past N.nodes N.source S.source-lt)

  -- A relevant node is below the node count.
  pub relevant-lt : (v : ℕ) → RelevantNode N v → v < N.nodes
  relevant-lt v (inl e) = terminal-lt v (inl e)
  relevant-lt v (inr (inl e)) = terminal-lt v (inr e)
  relevant-lt v (inr (inr (r, (m, i)))) = nodes-lt m.steps N.source N.sink m.leads S.source-lt v i

  -- What escapes past every other node escapes past any other number.
  escapes-all : (v : ℕ) → v < N.nodes → ((c : ℕ) → c < N.nodes → (v ≡ c) ⊎ Escapes N c v)
      → (c : ℕ) → c ≢ v → Escapes N c v
  escapes-all v l k c ne = go (dec_lt c N.nodes)
    where
      beyond : (N.nodes ≤ c) → (v ≡ N.source) ⊎ Escapes N N.source v → Escapes N c v
      beyond h (inl e) = stays N c v (inl e) ne
      beyond h (inr q) = record {
        steps = q.steps;
        end = q.end;
        terminal = q.terminal;
        leads = q.leads;
        avoids = λ m. let lt = nodes-lt q.steps v q.end q.leads l c m in omega arith;
      }

      go : Dec (c < N.nodes) → Escapes N c v
      go (yes h) = ⊎_elim (λ e. absurd (ne (sym e))) (λ q. q) (k c h)
      go (no h) = beyond (omega arith) (k N.source S.source-lt)

  -- The relevant nodes are those that are computed.
  pub in-relevant_nodes : (v : ℕ) → (v ∈ relevant_nodes N) ↔ RelevantNode N v
  unfolding relevant_nodes
  in-relevant_nodes v = (
    λ m. let k = (in-past_all N.nodes v).0 m in (relevant-node-iff N v).1 (escapes-all v k.0 k.1),
    λ r. (in-past_all N.nodes v).1 (relevant-lt v r, λ c h. go c (ℕ_discrete v c) ((relevant-node-iff N v).0 r c)),
  )
    where
      go : (c : ℕ) → Dec (v ≡ c) → (c ≢ v → Escapes N c v) → (v ≡ c) ⊎ Escapes N c v
      go c (yes e) k = inl e
      go c (no n) k = inr (k (Ne-symm n))

  -- ---- the relevant edges

  -- The relevant edges are those that are computed.
  pub in-relevant_edges : (e : ℕ) → (e ∈ relevant_edges N) ↔ RelevantEdge N e
  unfolding relevant_edges
  in-relevant_edges e =
      let a : ℕ = first_end N e in
      let b : ℕ = second_end N e in
      let within = in-edges_within N S.bounded (relevant_nodes N) e in (
        λ m.
            let w = within.0 m in
            let j = joins-stored N e w.0 in
            let here = w.1 a b j in
            (relevant-edge-iff N e a b j).1
            (here.0, ((in-relevant_nodes a).0 here.1, (in-relevant_nodes b).0 (w.1 b a (joins-sym N e a b j)).1)),
        λ r.
            within.1 (relevant-present N e r, λ x y j. let k = (relevant-edge-iff N e x y j).0 r in (k.0, (in-relevant_nodes x).1 k.1.0)),
      )
