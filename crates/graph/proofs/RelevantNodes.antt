-- A node is relevant exactly if it escapes to source or sink past every other node.
-- Assumes nothing.
--
--   Escapes N c v    a walk from v to source or sink that does not meet c
use mathlib.Core.Path.{◌≡◌, refl, sym}
use mathlib.Core.List.{List, [], ◌∷◌, ◌++◌, Memᴰ}
use mathlib.Core.Logic.{◌⊎◌, inl, inr, ⊎_swap, ◌↔◌, ◌≢◌, Ne-symm}
use Prim.Native.Nat.{ℕ}
use native.Mathlib.Decide.{ℕ_discrete}
use Rattle.sequences.specs.Distinct.{Distinct}
use Rattle.network.specs.declared.Network.{Network}
use Rattle.graph.specs.Paths.{Joins, Hop, Leads, nodes_from, Simple, edges_of}
use Rattle.graph.specs.Cuts.{OnMinpath, RelevantEdge, RelevantNode}
use Rattle.graph.proofs.Walks.{mem-dec, nodes-append, simple-append, back, joins-sym, end-met, ends-met, leads-append, leads-back, nodes-back, split, shorten}
use Rattle.graph.proofs.Minpaths.{walk-minpath}
use Rattle.graph.proofs.Detours.{led-through}

-- A walk from v to source or sink that does not meet c.
pub record Escapes (N : Network) (c v : ℕ) : Type 0 where
  pub steps : List Hop
  pub end : ℕ
  pub terminal : (end ≡ N.source) ⊎ (end ≡ N.sink)
  pub leads : Leads N v steps end
  pub avoids : Memᴰ c (nodes_from v steps) → ⊥

module _ (N : Network) where
  -- Both ends of a relevant edge lie on a minpath's path.
  end-on-minpath : (e x y : ℕ) → RelevantEdge N e → Joins N e x y → OnMinpath N x
  end-on-minpath e x y (r, (m, i)) j =
      (r, (m, ends-met N m.steps N.source N.sink e x y m.leads (rw m.members i) j))

  -- Both ends of a relevant edge are relevant.
  pub end-relevant : (e x y : ℕ) → RelevantEdge N e → Joins N e x y → RelevantNode N x
  end-relevant e x y r j = inr (inr (end-on-minpath e x y r j))

  -- A terminal escapes past every other node by staying where it is.
  pub stays : (c v : ℕ) → (v ≡ N.source) ⊎ (v ≡ N.sink) → c ≢ v → Escapes N c v
  unfolding Leads
  stays c v t ne = record { steps = []; end = v; terminal = t; leads = refl; avoids = λ m. ne (mathlib.Core.List.Memᴰ.eq_of_singleton m) }

  -- From each node that an escape past c meets, the rest of it is an escape past c.
  pub escapes-from : (c v x : ℕ) (q : Escapes N c v) → Memᴰ x (nodes_from v q.steps) → Escapes N c x
  escapes-from c v x q m =
      let k = split N q.steps v q.end x q.leads m in
      record {
        steps = k.after;
        end = q.end;
        terminal = q.terminal;
        leads = k.leads-on;
        avoids = λ n. q.avoids (elim (mathlib.Core.List.Memᴰ.cases_cons n) [
          | inl e ↦ mathlib.Core.List.Memᴰ.cast e m
          | inr l ↦ rw (← k.whole, nodes-append v k.before k.after) (mathlib.Core.List.Memᴰ.append_right (nodes_from v k.before) l)
        ]);
      }

  -- On a path from source over v to sink another node stands on one side of v at most.
  escapes-along : (p : List Hop) (c v : ℕ) → Leads N N.source p N.sink → Simple N.source p
      → Memᴰ v (nodes_from N.source p) → c ≢ v → Escapes N c v
  escapes-along p c v h simple m ne =
      let k = split N p N.source N.sink v h m in
      let parts = (simple-append N.source k.before k.after).0 (rw k.whole simple) in
      elim (mem-dec c (nodes_from N.source k.before)) [
        | yes i ↦ record {
          steps = k.after;
          end = N.sink;
          terminal = inr refl;
          leads = k.leads-on;
          avoids = λ j. elim (mathlib.Core.List.Memᴰ.cases_cons j) [ inl e ↦ ne e | inr j' ↦ parts.2 c i j' ];
        }
        | no n ↦ record {
          steps = back N.source k.before;
          end = N.source;
          terminal = inl refl;
          leads = leads-back N k.before N.source v k.leads-to;
          avoids = λ j. n ((nodes-back N k.before N.source v c k.leads-to).0 j);
        }
      ]

  -- A relevant node escapes past every other node.
  pub relevant-escapes : (c v : ℕ) → RelevantNode N v → c ≢ v → Escapes N c v
  relevant-escapes c v (inl e) ne = stays c v (inl e) ne
  relevant-escapes c v (inr (inl e)) ne = stays c v (inr e) ne
  relevant-escapes c v (inr (inr (r, (m, i)))) ne = escapes-along m.steps c v m.leads m.simple i ne

  -- An edge from a node of a minpath's path to a node that escapes past it is relevant.
  pub edge-to-escape : (e x y : ℕ) → OnMinpath N x → Joins N e x y → Escapes N x y → RelevantEdge N e
  edge-to-escape e x y (r, (m, i)) j k =
      let met : Memᴰ k.end (nodes_from N.source m.steps) =
      elim k.terminal [
        | inl q ↦ mathlib.Core.List.Memᴰ.head q
        | inr q ↦ mathlib.Core.List.Memᴰ.cast q (end-met N m.steps N.source N.sink m.leads)
      ] in
      let q = led-through N m.steps k.steps N.source N.sink x y k.end e m.leads m.simple i j k.leads met k.avoids in
      (edges_of q.0, (record { steps = q.0; leads = q.1; simple = q.2; members = refl }, q.3))

  -- A walk that avoids c, before an escape past c, is an escape past c.
  escapes-first : (c : ℕ) (p : List Hop) (u v : ℕ) → Leads N u p v → (Memᴰ c (nodes_from u p) → ⊥)
      → Escapes N c v → Escapes N c u
  escapes-first c p u v h off k = record {
    steps = p ++ k.steps;
    end = k.end;
    terminal = k.terminal;
    leads = leads-append N p k.steps u v k.end h k.leads;
    avoids = λ m. elim (mathlib.Core.List.Memᴰ.append_cases (nodes_from u p) (rw (nodes-append u p k.steps) at m)) [
      | inl i ↦ off i
      | inr i ↦ k.avoids (mathlib.Core.List.Memᴰ.tail i)
    ];
  }

  -- An edge from another node than c, before an escape past c, is an escape past c.
  pub escapes-over : (c e u v : ℕ) → Joins N e u v → c ≢ u → Escapes N c v → Escapes N c u
  unfolding Leads
  escapes-over c e u v j ne k = record {
    steps = record { edge = e; to = v } ∷ k.steps;
    end = k.end;
    terminal = k.terminal;
    leads = (j, k.leads);
    avoids = λ m. elim (mathlib.Core.List.Memᴰ.cases_cons m) [ inl q ↦ ne q | inr i ↦ k.avoids i ];
  }

  -- If v escapes past every other node, then each node of a simple path to v escapes past the one before, so that all lie on
  -- minpaths' paths if the first does.
  relevant-along : (p : List Hop) (u v : ℕ) → Leads N u p v → Simple u p → ((c : ℕ) → c ≢ v → Escapes N c v)
      → OnMinpath N u → OnMinpath N v
  unfolding Leads Distinct
  relevant-along [] u v h simple k on = rw h at on
  relevant-along (s ∷ p) u v h simple k on =
      let past : Escapes N u v = k u (λ e. simple.0 (mathlib.Core.List.Memᴰ.cast e (end-met N p s.to v h.1))) in
      let edge : RelevantEdge N s.edge =
      edge-to-escape s.edge u s.to on h.0 (escapes-first u p s.to v h.1 simple.0 past) in
      relevant-along p s.to v h.1 simple.1 k (end-on-minpath s.edge s.to u edge (joins-sym N s.edge u s.to h.0))

  -- An escape past one of the two terminals ends at the other.
  escapes-to : (a b v : ℕ) (k : Escapes N a v) → (k.end ≡ a) ⊎ (k.end ≡ b) → (p : List Hop) × Leads N v p b
  escapes-to a b v k (inl e) = absurd (k.avoids (mathlib.Core.List.Memᴰ.cast (sym e) (end-met N k.steps v k.end k.leads)))
  escapes-to a b v k (inr e) = (k.steps, rw e at k.leads)

  -- A node that escapes past both terminals, and past every other node, lies on a minpath's path.
  escapes-relevant : (v : ℕ) → ((c : ℕ) → c ≢ v → Escapes N c v) → RelevantNode N v
  escapes-relevant v k = go (ℕ_discrete v N.source) (ℕ_discrete v N.sink)
    where
      go : Dec (v ≡ N.source) → Dec (v ≡ N.sink) → RelevantNode N v
      go (yes e) d = inl e
      go (no n) (yes e) = inr (inl e)
      go (no n) (no m) =
          let to-sink : Escapes N N.source v = k N.source (Ne-symm n) in
          let to-source : Escapes N N.sink v = k N.sink (Ne-symm m) in
          let p = escapes-to N.source N.sink v to-sink to-sink.terminal in
          let q = escapes-to N.sink N.source v to-source (⊎_swap to-source.terminal) in
          let come = leads-back N q.0 v N.source q.1 in
          let part = shorten N (back v q.0) N.source v come in
          let r = walk-minpath N (back v q.0 ++ p.0) (leads-append N (back v q.0) p.0 N.source v N.sink come p.1) in
          inr (inr (relevant-along part.steps N.source v part.leads part.simple k (r.0, (r.1.0, mathlib.Core.List.Memᴰ.head refl))))

  -- A node is relevant exactly if it escapes past every other node.
  pub relevant-node-iff : (v : ℕ) → RelevantNode N v ↔ ((c : ℕ) → c ≢ v → Escapes N c v)
  relevant-node-iff v = (λ r c ne. relevant-escapes c v r ne, escapes-relevant v)
