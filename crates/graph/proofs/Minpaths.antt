-- Minpaths: the sink is reached over a set of edges exactly if a minpath lies inside it, and no minpath holds another.
-- Assumes nothing.
use mathlib.Core.Path.{◌≡◌, refl, sym, ap, ap₂, ◌∙◌}
use mathlib.Core.List.Memᴰ
use mathlib.Core.List.{List, [], ◌∷◌}
use mathlib.Core.Logic.{inl, inr, ◌↔◌}
use Prim.Native.Nat.{ℕ}
use Rattle.sequences.specs.Distinct.{Distinct}
use Rattle.bitset.specs.Members.{◌⊆◌, ◌∈◌}
use Rattle.network.specs.Record.{present}
use Rattle.network.specs.declared.Network.{Network}
use Rattle.graph.specs.Paths.{Joins, Hop, Leads, Simple, edges_of, Minpath, Connected}
use Rattle.graph.specs.Cuts.{only}
use Rattle.graph.proofs.Walks.{edges-nil, edges-cons, edges-within, joins-other, end-met, ends-met, shorten, edges-present, leads-only, leads-within}

-- ---- minpaths inside a set of edges

module _ (N : Network) where
  -- The edges of a minpath are present.
  pub minpath-present : (r : ℕ) → Minpath N r → r ⊆ present N
  minpath-present r m = rw (← m.members) (edges-present N m.steps N.source N.sink m.leads)

  -- A walk from source to sink holds a minpath.
  pub walk-minpath : (p : List Hop) → Leads N N.source p N.sink → (r : ℕ) × (Minpath N r × (r ⊆ edges_of p))
  walk-minpath p h =
      let q = shorten N p N.source N.sink h in
      let m : Minpath N (edges_of q.steps) = record { steps = q.steps; leads = q.leads; simple = q.simple; members = refl } in
      (edges_of q.steps, (m, edges-within q.steps p q.within))

  -- The minpaths over a set of present edges are the minpaths that lie inside it.
  pub minpath-only : (h : ℕ) → h ⊆ present N → (r : ℕ) → Minpath (only N h) r ↔ (Minpath N r × (r ⊆ h))
  unfolding only
  minpath-only h l r = (
    λ m.
        let w = (leads-within N h l m.steps N.source N.sink).0 m.leads in
        (record { steps = m.steps; leads = w.0; simple = m.simple; members = m.members }, (rw m.members at w).1),
    λ m.
        record {
          steps = m.0.steps;
          leads = leads-only N h m.0.steps N.source N.sink m.0.leads (rw m.0.members m.1);
          simple = m.0.simple;
          members = m.0.members;
        },
  )

  -- The sink is connected to the source over a set of present edges exactly if some minpath lies inside it.
  pub connected-minpath : (h : ℕ) → h ⊆ present N
      → Connected (only N h) N.source N.sink ↔ ((r : ℕ) × (Minpath N r × (r ⊆ h)))
  unfolding only
  connected-minpath h l = (
    λ c.
        let w = (leads-within N h l c.0 N.source N.sink).0 c.1 in
        let m = walk-minpath c.0 w.0 in
        (m.0, (m.1.0, λ e k. w.1 e (m.1.1 e k))),
    λ m.
        let k = (minpath-only h l m.0).1 m.1 in
        (k.steps, k.leads),
  )

  -- ---- no minpath holds another

  -- Only the first edge of a simple path touches its first node.
  pub first_alone : (s : Hop) (p : List Hop) (u v e y : ℕ) → Leads N u (s ∷ p) v → Simple u (s ∷ p)
      → Joins N e u y → e ∈ edges_of p → ⊥
  unfolding Leads Distinct
  first_alone s p u v e y h d j m = d.0 (ends-met N p s.to v e u y h.1 m j)

  -- Two simple paths with the same ends are the same if one takes no edge that the other does not take.
  paths-same : (p q : List Hop) (u v : ℕ) → Leads N u p v → Simple u p → Leads N u q v → Simple u q
      → edges_of p ⊆ edges_of q → p ≡ q
  unfolding Leads Distinct
  paths-same [] [] u v h d k c l = refl
  paths-same [] (t ∷ q) u v h d k c l = absurd (c.0 (Memᴰ.cast h (end-met N q t.to v k.1)))
  paths-same (s ∷ p) [] u v h d k c l = absurd (edges-nil s.edge (l s.edge ((edges-cons s p s.edge).1 (inr refl))))
  paths-same (s ∷ p) (t ∷ q) u v h d k c l =
      let taken = (edges-cons t q s.edge).0 (l s.edge ((edges-cons s p s.edge).1 (inr refl))) in
      let edge : s.edge ≡ t.edge = elim taken [ inl m ↦ absurd (first_alone t q u v s.edge s.to k c h.0 m) | inr e ↦ e ] in
      let node : s.to ≡ t.to = joins-other N s.edge u s.to t.to h.0 (rw edge k.0) in
      let rest : edges_of p ⊆ edges_of q = λ e m. elim ((edges-cons t q e).0 (l e ((edges-cons s p e).1 (inl m)))) [
        | inl n ↦ n
        | inr a ↦ absurd (first_alone s p u v e s.to h d (rw (a ∙ sym edge) h.0) m)
      ] in
      ap₂ ◌∷◌ (λ i. record { edge = edge i; to = node i })
      (paths-same p q s.to v h.1 d.1 (rw node k.1) (rw node c.1) rest)

  -- No minpath holds another.
  pub minpath-least : (r r' : ℕ) → Minpath N r → Minpath N r' → r ⊆ r' → r ≡ r'
  minpath-least r r' m n l =
      let same = paths-same m.steps n.steps N.source N.sink m.leads m.simple n.leads n.simple in
      sym m.members ∙ ap edges_of (same (rw (m.members, n.members) l)) ∙ n.members
