-- Walks: how they are joined, turned round, split at a node and freed of loops, and what nodes and edges they then have.
-- Assumes nothing.
--
--   taken p              the edges that the steps p take, in order
--   reached p            the nodes that the steps p go to, in order
--   back u p             the steps that lead back along the steps p from u
--   Split N u p v x      the walk p from u to v in two parts: up to the node x, and on from it
--   Shortened N u p v    the walk p from u to v freed of loops: a simple path that makes steps of p alone
use mathlib.Core.Path.{◌≡◌, refl, sym, ap, ◌∙◌}
use mathlib.Core.List.Memᴰ
use mathlib.Core.List.{List, [], ◌∷◌, ◌++◌, map, map-append, Memᴰ}
use mathlib.Core.Logic.Iff
use mathlib.Core.Logic.{◌⊎◌, inl, inr, ⊎_swap, ⊎_map, ◌↔◌}
use Prim.Native.Nat.{ℕ}
use native.Mathlib.Decide.{ℕ_discrete}
use Rattle.sequences.specs.Distinct.{Distinct}
use Rattle.sequences.proofs.Distinct.{distinct_append}
use Rattle.bitset.specs.Members.{◌⊆◌, ◌∈◌}
use Rattle.bitset.proofs.Members.{has-zero}
use Rattle.bitset.proofs.Sets.{in_insert}
use Rattle.network.specs.Record.{present}
use Rattle.network.specs.declared.Network.{Network}
use Rattle.graph.specs.Paths.{Joins, Hop, Leads, nodes_from, Simple, edges_of}
use Rattle.graph.specs.Cuts.{only}

-- ---- lists of nodes

-- Whether an element stands in a list is decided.
pub mem-dec : (x : ℕ) (l : List ℕ) → Dec (Memᴰ x l)
mem-dec x [] = no Memᴰ.not-nil
mem-dec x (y ∷ l) = go (ℕ_discrete x y) (mem-dec x l)
  where
    go : Dec (x ≡ y) → Dec (Memᴰ x l) → Dec (Memᴰ x (y ∷ l))
    go (yes e) d = yes (Memᴰ.head e)
    go (no n) (yes m) = yes (Memᴰ.tail m)
    go (no n) (no k) = no (λ m. elim (Memᴰ.cases_cons m) [ inl e ↦ n e | inr m' ↦ k m' ])

-- ---- the edges and nodes of a list of steps

-- The edges that the steps take, in order.
abbrev pub taken : List Hop → List ℕ
taken p = map (λ (s : Hop). s.edge) p

-- The nodes that the steps go to, in order.
abbrev pub reached : List Hop → List ℕ
reached p = map (λ (s : Hop). s.to) p

-- No steps take no edge.
pub edges-nil : (e : ℕ) → e ∈ edges_of [] → ⊥
unfolding edges_of
edges-nil e m = rw (has-zero e) at m

-- One step more takes one edge more.
pub edges-cons : (s : Hop) (p : List Hop) (e : ℕ) → (e ∈ edges_of (s ∷ p)) ↔ ((e ∈ edges_of p) ⊎ (e ≡ s.edge))
unfolding edges_of
edges-cons s p e = in_insert (edges_of p) s.edge e

-- The members of the edge set are the edges that the steps take.
pub in-edges_of : (p : List Hop) (e : ℕ) → (e ∈ edges_of p) ↔ Memᴰ e (taken p)
in-edges_of [] e = (λ m. absurd (edges-nil e m), λ m. absurd (Memᴰ.not-nil m))
in-edges_of (s ∷ p) e = (
  λ m. elim ((edges-cons s p e).0 m) [ inl m' ↦ Memᴰ.tail ((in-edges_of p e).0 m') | inr q ↦ Memᴰ.head q ],
  λ m. (edges-cons s p e).1 (elim (Memᴰ.cases_cons m) [ inl q ↦ inr q | inr m' ↦ inl ((in-edges_of p e).1 m') ]),
)

-- The edges of joined steps are those of both parts.
pub edges-append : (p q : List Hop) (e : ℕ) → (e ∈ edges_of (p ++ q)) ↔ ((e ∈ edges_of p) ⊎ (e ∈ edges_of q))
edges-append p q e =
    let same = map-append (λ (s : Hop). s.edge) p q in (
      λ m. ⊎_map (in-edges_of p e).1 (in-edges_of q e).1 (Memᴰ.append_cases (taken p) (rw same at ((in-edges_of (p ++ q) e).0 m))),
      λ c. (in-edges_of (p ++ q) e).1 (rw same (elim c [
        | inl m ↦ Memᴰ.append_left (taken q) ((in-edges_of p e).0 m)
        | inr m ↦ Memᴰ.append_right (taken p) ((in-edges_of q e).0 m)
      ])),
    )

-- Steps that are all among others take no further edge.
pub edges-within : (p q : List Hop) → ((s : Hop) → Memᴰ s p → Memᴰ s q) → edges_of p ⊆ edges_of q
edges-within p q h e m =
    let r = Memᴰ.of_map (λ (s : Hop). s.edge) p ((in-edges_of p e).0 m) in
    (in-edges_of q e).1 (Memᴰ.cast (sym r.2) (Memᴰ.map (λ (s : Hop). s.edge) (h r.0 r.1)))

-- Steps that are all among others go to no further node.
pub reached-within : (p q : List Hop) → ((s : Hop) → Memᴰ s p → Memᴰ s q)
    → (x : ℕ) → Memᴰ x (reached p) → Memᴰ x (reached q)
reached-within p q h x m =
    let r = Memᴰ.of_map (λ (s : Hop). s.to) p m in
    Memᴰ.cast (sym r.2) (Memᴰ.map (λ (s : Hop). s.to) (h r.0 r.1))

-- The nodes of joined steps are those of the first part, and then those that the second goes to.
pub nodes-append : (u : ℕ) (p q : List Hop) → nodes_from u (p ++ q) ≡ nodes_from u p ++ reached q
nodes-append u p q = rw (map-append (λ (s : Hop). s.to) p q)

-- Joined steps are simple exactly if the first part is, and the second goes to new nodes alone, to each once.
pub simple-append : (u : ℕ) (p q : List Hop)
    → Simple u (p ++ q) ↔ (Simple u p × Distinct (reached q) × ((y : ℕ) → Memᴰ y (nodes_from u p) → Memᴰ y (reached q) → ⊥))
simple-append u p q = rw (map-append (λ (s : Hop). s.to) p q) (distinct_append (nodes_from u p) (reached q))

-- The steps that lead back along the steps p from u.
unfoldable pub back : ℕ → List Hop → List Hop
back u [] = []
back u (s ∷ p) = back s.to p ++ (record { edge = s.edge; to = u } ∷ [])

-- The way back takes the same edges.
pub edges-back : (p : List Hop) (u e : ℕ) → (e ∈ edges_of (back u p)) ↔ (e ∈ edges_of p)
unfolding back
edges-back [] u e = Iff.rfl
edges-back (s ∷ p) u e =
    let turned : Hop = record { edge = s.edge; to = u } in
    let ih = edges-back p s.to e in (
      λ m. (edges-cons s p e).1 (elim ((edges-append (back s.to p) (turned ∷ []) e).0 m) [
        | inl m' ↦ inl (ih.0 m')
        | inr n ↦ elim ((edges-cons turned [] e).0 n) [ inl z ↦ absurd (edges-nil e z) | inr q ↦ inr q ]
      ]),
      λ m. (edges-append (back s.to p) (turned ∷ []) e).1 (elim ((edges-cons s p e).0 m) [
        | inl m' ↦ inl (ih.1 m')
        | inr q ↦ inr ((edges-cons turned [] e).1 (inr q))
      ]),
    )

-- ---- walks

module _ (N : Network) where
  -- An edge joins its ends in either order.
  pub joins-sym : (e u v : ℕ) → Joins N e u v → Joins N e v u
  unfolding Joins ⊎_swap
  joins-sym e u v j = (j.0, ⊎_swap j.1)

  -- An edge and one of its ends fix its other end.
  pub joins-other : (e u x y : ℕ) → Joins N e u x → Joins N e u y → x ≡ y
  unfolding Joins
  joins-other e u x y j k =
      elim j.1 [
        | inl p ↦ elim k.1 [ inl q ↦ sym p.1 ∙ q.1 | inr q ↦ sym p.1 ∙ q.1 ∙ sym p.0 ∙ q.0 ]
        | inr p ↦ elim k.1 [ inl q ↦ sym p.0 ∙ q.0 ∙ sym p.1 ∙ q.1 | inr q ↦ sym p.0 ∙ q.0 ]
      ]

  -- An edge touches no node but its two ends.
  pub joins-ends : (e u v x y : ℕ) → Joins N e u v → Joins N e x y → (x ≡ u) ⊎ (x ≡ v)
  unfolding Joins
  joins-ends e u v x y j k =
      elim j.1 [
        | inl p ↦ elim k.1 [ inl q ↦ inl (sym q.0 ∙ p.0) | inr q ↦ inr (sym q.1 ∙ p.1) ]
        | inr p ↦ elim k.1 [ inl q ↦ inr (sym q.0 ∙ p.0) | inr q ↦ inl (sym q.1 ∙ p.1) ]
      ]

  -- A walk meets the node that it leads to.
  pub end-met : (p : List Hop) (u v : ℕ) → Leads N u p v → Memᴰ v (nodes_from u p)
  unfolding Leads
  end-met [] u v h = Memᴰ.head (sym h)
  end-met (s ∷ p) u v h = Memᴰ.tail (end-met p s.to v h.1)

  -- A walk meets both ends of each edge that it takes.
  pub ends-met : (p : List Hop) (u v e x y : ℕ) → Leads N u p v → e ∈ edges_of p → Joins N e x y → Memᴰ x (nodes_from u p)
  unfolding Leads
  ends-met [] u v e x y h m j = absurd (edges-nil e m)
  ends-met (s ∷ p) u v e x y h m j =
      elim ((edges-cons s p e).0 m) [
        | inl m' ↦ Memᴰ.tail (ends-met p s.to v e x y h.1 m' j)
        | inr q ↦ elim (joins-ends s.edge u s.to x y h.0 (rw q at j)) [
          | inl a ↦ Memᴰ.head a
          | inr a ↦ Memᴰ.tail (Memᴰ.head a)
        ]
      ]

  -- A walk to v and a walk on from v make one walk.
  pub leads-append : (p q : List Hop) (u v w : ℕ) → Leads N u p v → Leads N v q w → Leads N u (p ++ q) w
  unfolding Leads
  leads-append [] q u v w h k = rw h k
  leads-append (s ∷ p) q u v w h k = (h.0, leads-append p q s.to v w h.1 k)

  -- A walk can be walked back.
  pub leads-back : (p : List Hop) (u v : ℕ) → Leads N u p v → Leads N v (back u p) u
  unfolding Leads back
  leads-back [] u v h = sym h
  leads-back (s ∷ p) u v h =
      leads-append (back s.to p) (record { edge = s.edge; to = u } ∷ []) v s.to u
      (leads-back p s.to v h.1) (joins-sym s.edge u s.to h.0, refl)

  -- The way back meets the same nodes.
  pub nodes-back : (p : List Hop) (u v x : ℕ) → Leads N u p v
      → Memᴰ x (nodes_from v (back u p)) ↔ Memᴰ x (nodes_from u p)
  unfolding Leads back
  nodes-back [] u v x h = rw h (Iff.rfl)
  nodes-back (s ∷ p) u v x h =
      let ih = nodes-back p s.to v x h.1 in
      rw (map-append (λ (t : Hop). t.to) (back s.to p) (record { edge = s.edge; to = u } ∷ [])) (
        λ m. elim (Memᴰ.append_cases (nodes_from v (back s.to p)) m) [
          | inl m' ↦ Memᴰ.tail (ih.0 m')
          | inr n ↦ Memᴰ.head (Memᴰ.eq_of_singleton n)
        ],
        λ m. elim (Memᴰ.cases_cons m) [
          | inl q ↦ Memᴰ.append_right (nodes_from v (back s.to p)) (Memᴰ.head q)
          | inr m' ↦ Memᴰ.append_left (u ∷ []) (ih.1 m')
        ],
      )

-- The walk p from u to v in two parts: up to the node x, and on from it.
pub record Split (N : Network) (u : ℕ) (p : List Hop) (v x : ℕ) : Type 0 where
  pub before : List Hop
  pub after : List Hop
  pub whole : before ++ after ≡ p
  pub leads-to : Leads N u before x
  pub leads-on : Leads N x after v

-- The walk p from u to v freed of loops: a simple path that makes steps of p alone.
pub record Shortened (N : Network) (u : ℕ) (p : List Hop) (v : ℕ) : Type 0 where
  pub steps : List Hop
  pub leads : Leads N u steps v
  pub simple : Simple u steps
  pub within : (s : Hop) → Memᴰ s steps → Memᴰ s p

module _ (N : Network) where
  -- A walk splits at every node that it meets.
  pub split : (p : List Hop) (u v x : ℕ) → Leads N u p v → Memᴰ x (nodes_from u p) → Split N u p v x
  unfolding Leads
  split [] u v x h m =
      let e = Memᴰ.eq_of_singleton m in
      record { before = []; after = []; whole = refl; leads-to = sym e; leads-on = e ∙ h }
  split (s ∷ p) u v x h m =
      elim (Memᴰ.cases_cons m) [
        | inl e ↦ record { before = []; after = s ∷ p; whole = refl; leads-to = sym e; leads-on = rw e h }
        | inr m' ↦
            let r = split p s.to v x h.1 m' in
            record {
              before = s ∷ r.before;
              after = r.after;
              whole = ap (λ q. s ∷ q) r.whole;
              leads-to = (h.0, r.leads-to);
              leads-on = r.leads-on;
            }
      ]

  -- What is left of a simple path from a node of it on is simple.
  pub simple-after : (p q : List Hop) (u v : ℕ) → Leads N u p v → Simple u (p ++ q) → Simple v q
  unfolding Distinct
  simple-after p q u v h d = let r = (simple-append u p q).0 d in (r.2 v (end-met N p u v h), r.1)

  -- A walk contains a simple path with the same ends: loops are dropped from the end of the walk on.
  pub shorten : (p : List Hop) (u v : ℕ) → Leads N u p v → Shortened N u p v
  unfolding Leads Distinct
  shorten [] u v h = record { steps = []; leads = h; simple = (Memᴰ.not-nil, tt); within = λ s m. m }
  shorten (s ∷ p) u v h = go (shorten p s.to v h.1) (mem-dec u (nodes_from s.to (shorten p s.to v h.1).steps))
    where
      go : (r : Shortened N s.to p v) → Dec (Memᴰ u (nodes_from s.to r.steps)) → Shortened N u (s ∷ p) v
      go r (yes m) =
          let k = split r.steps s.to v u r.leads m in
          record {
            steps = k.after;
            leads = k.leads-on;
            simple = simple-after k.before k.after s.to u k.leads-to (rw k.whole r.simple);
            within = λ t n. Memᴰ.tail (r.within t (rw k.whole at (Memᴰ.append_right k.before n)));
          }
      go r (no n) = record {
        steps = s ∷ r.steps;
        leads = (h.0, r.leads);
        simple = (n, r.simple);
        within = λ t m. elim (Memᴰ.cases_cons m) [ inl e ↦ Memᴰ.head e | inr m' ↦ Memᴰ.tail (r.within t m') ];
      }

  -- ---- the walks of a part of a network

  -- A walk takes present edges alone.
  pub edges-present : (p : List Hop) (u v : ℕ) → Leads N u p v → edges_of p ⊆ present N
  unfolding Leads Joins
  edges-present [] u v h e m = absurd (edges-nil e m)
  edges-present (s ∷ p) u v h e m =
      elim ((edges-cons s p e).0 m) [ inl m' ↦ edges-present p s.to v h.1 e m' | inr q ↦ rw q h.0.0 ]

  -- A walk whose edges all lie in g is a walk of the network with the edges g.
  pub leads-only : (g : ℕ) (p : List Hop) (u v : ℕ) → Leads N u p v → edges_of p ⊆ g → Leads (only N g) u p v
  unfolding Leads Joins only
  leads-only g [] u v h k = h
  leads-only g (s ∷ p) u v h k = (
    (k s.edge ((edges-cons s p s.edge).1 (inr refl)), h.0.1),
    leads-only g p s.to v h.1 (λ e m. k e ((edges-cons s p e).1 (inl m))),
  )

module _ (N : Network) (h : ℕ) where
  -- A walk over edges of h is one over the edges of any larger set.
  pub leads-mono : (g : ℕ) → h ⊆ g → (p : List Hop) (u v : ℕ) → Leads (only N h) u p v → Leads (only N g) u p v
  unfolding only
  leads-mono g l p u v w = leads-only (only N h) g p u v w (λ e m. l e (edges-present (only N h) p u v w e m))

  -- The walks over a set of present edges are the walks that take those alone.
  pub leads-within : h ⊆ present N → (p : List Hop) (u v : ℕ) → Leads (only N h) u p v ↔ (Leads N u p v × (edges_of p ⊆ h))
  unfolding only
  leads-within l p u v = (
    λ w. (leads-mono (present N) l p u v w, edges-present (only N h) p u v w),
    λ w. leads-only N h p u v w.0 w.1,
  )
