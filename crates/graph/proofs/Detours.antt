-- Detours: a simple path can be led through an edge beside it whose far end reaches the path elsewhere.
-- Assumes nothing.
use mathlib.Core.Path.{◌≡◌, refl, sym}
use mathlib.Core.List.Memᴰ
use mathlib.Core.List.{List, [], ◌∷◌, ◌++◌, Memᴰ}
use mathlib.Core.Logic.{◌⊎◌, inl, inr, ⊎_swap}
use Prim.Native.Nat.{ℕ}
use Rattle.sequences.specs.Distinct.{Distinct}
use Rattle.bitset.specs.Members.{◌⊆◌, ◌∈◌}
use Rattle.network.specs.declared.Network.{Network}
use Rattle.graph.specs.Paths.{Joins, Hop, Leads, nodes_from, Simple, edges_of}
use Rattle.graph.proofs.Walks.{mem-dec, reached, edges-cons, edges-append, reached-within, nodes-append, simple-append, back, edges-back, leads-append, leads-back, nodes-back, split, simple-after, shorten}
use Rattle.graph.proofs.Nodes.{nodes-within, simple-back}

-- ---- the first node on a list

-- The part of the steps p from u on up to the first node that stands in l.
record Approach (N : Network) (l : List ℕ) (u : ℕ) (p : List Hop) : Type 0 where
  end : ℕ
  steps : List Hop
  leads : Leads N u steps end
  simple : Simple u steps
  within : (v : ℕ) → Memᴰ v (nodes_from u steps) → Memᴰ v (nodes_from u p)
  met : Memᴰ end l
  first : (v : ℕ) → Memᴰ v (nodes_from u steps) → Memᴰ v l → v ≡ end

module _ (N : Network) (l : List ℕ) where
  -- No step is taken from a node of l.
  stay : (u : ℕ) (p : List Hop) → Memᴰ u l → Approach N l u p
  unfolding Leads Distinct
  stay u p m = record {
    end = u;
    steps = [];
    leads = refl;
    simple = (Memᴰ.not-nil, tt);
    within = λ v k. Memᴰ.head (Memᴰ.eq_of_singleton k);
    met = m;
    first = λ v k i. Memᴰ.eq_of_singleton k;
  }

  -- A simple path to a node of l has a first node of l.
  approach : (u : ℕ) (p : List Hop) {t : ℕ} → Leads N u p t → Simple u p → Memᴰ t l → Approach N l u p
  unfolding Leads Distinct
  approach u [] h simple m = stay u [] (Memᴰ.cast h m)
  approach u (s ∷ p) h simple m = go (mem-dec u l) (approach s.to p h.1 simple.1 m)
    where
      go : Dec (Memᴰ u l) → Approach N l s.to p → Approach N l u (s ∷ p)
      go (yes k) r = stay u (s ∷ p) k
      go (no n) r = record {
        end = r.end;
        steps = s ∷ r.steps;
        leads = (h.0, r.leads);
        simple = (λ k. simple.0 (r.within u k), r.simple);
        within = λ v k. elim (Memᴰ.cases_cons k) [ inl e ↦ Memᴰ.head e | inr k' ↦ Memᴰ.tail (r.within v k') ];
        met = r.met;
        first = λ v k i. elim (Memᴰ.cases_cons k) [ inl e ↦ absurd (n (Memᴰ.cast (sym e) i)) | inr k' ↦ r.first v k' i ];
      }

-- ---- a detour

-- A simple path d from a to b on which no other node stands in l.
record Detour (N : Network) (l : List ℕ) (a b : ℕ) (d : List Hop) : Type 0 where
  leads : Leads N a d b
  simple : Simple a d
  meets : (v : ℕ) → Memᴰ v (nodes_from a d) → Memᴰ v l → (v ≡ a) ⊎ (v ≡ b)

-- A simple path from u to t that takes every edge of d, and meets only nodes of p and of d.
record Bypass (N : Network) (u : ℕ) (p : List Hop) (t a : ℕ) (d : List Hop) : Type 0 where
  steps : List Hop
  leads : Leads N u steps t
  simple : Simple u steps
  edges : edges_of d ⊆ edges_of steps
  within : (v : ℕ) → Memᴰ v (nodes_from u steps) → Memᴰ v (nodes_from u p) ⊎ Memᴰ v (nodes_from a d)

module _ (N : Network) where
  -- A detour can be walked back.
  detour-back : (l : List ℕ) (a b : ℕ) (d : List Hop) → Detour N l a b d → Detour N l b a (back a d)
  unfolding ⊎_swap
  detour-back l a b d r = record {
    leads = leads-back N d a b r.leads;
    simple = simple-back N d a b r.leads r.simple;
    meets = λ v m i. ⊎_swap (r.meets v ((nodes-back N d a b v r.leads).0 m) i);
  }

  -- A detour from the first node of a path to another takes the place of the part between the two.
  replace : (p d : List Hop) (u t b : ℕ) → Leads N u p t → Simple u p → Detour N (nodes_from u p) u b d
      → Memᴰ b (nodes_from u p) → Bypass N u p t u d
  unfolding Distinct
  replace p d u t b h simple r m =
      let k = split N p u t b h m in
      let on : (v : ℕ) → Memᴰ v (reached k.after) → Memᴰ v (reached p) =
      reached-within k.after p (λ s i. rw k.whole at (Memᴰ.append_right k.before i)) in
      let rest : Simple b k.after = simple-after N k.before k.after u b k.leads-to (rw k.whole simple) in
      record {
        steps = d ++ k.after;
        leads = leads-append N d k.after u b t r.leads k.leads-on;
        simple = (simple-append u d k.after).1 (
          r.simple,
          rest.1,
          λ v i j. elim (r.meets v i (Memᴰ.tail (on v j))) [
            | inl e ↦ simple.0 (Memᴰ.cast (sym e) (on v j))
            | inr e ↦ rest.0 (Memᴰ.cast (sym e) j)
          ],
        );
        edges = λ e i. (edges-append d k.after e).1 (inl i);
        within = λ v i. elim (Memᴰ.append_cases (nodes_from u d) (rw (nodes-append u d k.after) at i)) [
          | inl j ↦ inr j
          | inr j ↦ inl (Memᴰ.tail (on v j))
        ];
      }

  -- The same for a detour to the first node of a path.
  replace-back : (p d : List Hop) (u t a : ℕ) → Leads N u p t → Simple u p → Detour N (nodes_from u p) a u d
      → Memᴰ a (nodes_from u p) → Bypass N u p t a d
  replace-back p d u t a h simple r m =
      let q = replace p (back a d) u t a h simple (detour-back (nodes_from u p) a u d r) m in
      record {
        steps = q.steps;
        leads = q.leads;
        simple = q.simple;
        edges = λ e i. q.edges e ((edges-back d a e).1 i);
        within = λ v i. elim (q.within v i) [ inl j ↦ inl j | inr j ↦ inr ((nodes-back N d a u v r.leads).0 j) ];
      }

  -- A detour past the first node of a path leaves the first step as it was.
  bypass-later : (s : Hop) (p d : List Hop) (u t a b : ℕ) → Leads N u (s ∷ p) t → Simple u (s ∷ p)
      → Detour N (nodes_from u (s ∷ p)) a b d → Memᴰ a (reached (s ∷ p)) → Memᴰ b (reached (s ∷ p))
      → Bypass N s.to p t a d → Bypass N u (s ∷ p) t a d
  unfolding Leads Distinct
  bypass-later s p d u t a b h simple r m n q = record {
    steps = s ∷ q.steps;
    leads = (h.0, q.leads);
    simple = (λ i. elim (q.within u i) [ inl j ↦ simple.0 j | inr j ↦ new (r.meets u j (Memᴰ.head refl)) ], q.simple);
    edges = λ e i. (edges-cons s q.steps e).1 (inl (q.edges e i));
    within = λ v i. elim (Memᴰ.cases_cons i) [
      | inl e ↦ inl (Memᴰ.head e)
      | inr j ↦ elim (q.within v j) [ inl k ↦ inl (Memᴰ.tail k) | inr k ↦ inr k ]
    ];
  }
    where
      new : (u ≡ a) ⊎ (u ≡ b) → ⊥
      new (inl e) = simple.0 (Memᴰ.cast e m)
      new (inr e) = simple.0 (Memᴰ.cast e n)

  -- A detour between two nodes of a path takes the place of the part between the two.
  bypass : (p d : List Hop) (u t a b : ℕ) → Leads N u p t → Simple u p → Detour N (nodes_from u p) a b d
      → Memᴰ a (nodes_from u p) → Memᴰ b (nodes_from u p) → Bypass N u p t a d
  unfolding Leads Distinct
  bypass [] d u t a b h simple r m n =
      let e : a ≡ u = Memᴰ.eq_of_singleton m in
      rw e (replace [] d u t b h simple (rw e at r) n)
  bypass (s ∷ p) d u t a b h simple r m n =
      elim (Memᴰ.cases_cons m) [
        | inl e ↦ rw e (replace (s ∷ p) d u t b h simple (rw e at r) n)
        | inr m' ↦
            elim (Memᴰ.cases_cons n) [
              | inl e ↦ replace-back (s ∷ p) d u t a h simple (rw e at r) m
              | inr n' ↦
                  bypass-later s p d u t a b h simple r m' n'
                  (bypass p d s.to t a b h.1 simple.1
                  (record { leads = r.leads; simple = r.simple; meets = λ v i j. r.meets v i (Memᴰ.tail j) }) m' n')
            ]
      ]

  -- The step over an edge to a path's side, and on to the first node of the path: a detour.
  side-detour : (l : List ℕ) (q : List Hop) (x y e : ℕ) → Joins N e x y → (Memᴰ x (nodes_from y q) → ⊥) → (r : Approach N l y q)
      → Detour N l x r.end (record { edge = e; to = y } ∷ r.steps)
  unfolding Leads Distinct
  side-detour l q x y e j off r = record {
    leads = (j, r.leads);
    simple = (λ m. off (r.within x m), r.simple);
    meets = λ v m i. elim (Memᴰ.cases_cons m) [ inl k ↦ inl k | inr k ↦ inr (r.first v k i) ];
  }

  -- If x stands on a simple path, and y, at the other end of e, has a walk to the path that avoids x, then a simple path takes e.
  pub led-through : (p q : List Hop) (u t x y z e : ℕ) → Leads N u p t → Simple u p → Memᴰ x (nodes_from u p) → Joins N e x y
      → Leads N y q z → Memᴰ z (nodes_from u p) → (Memᴰ x (nodes_from y q) → ⊥)
      → (r : List Hop) × Leads N u r t × Simple u r × (e ∈ edges_of r)
  led-through p q u t x y z e h simple m j walk n off =
      let k = shorten N q y z walk in
      let r = approach N (nodes_from u p) y k.steps k.leads k.simple n in
      let d = side-detour (nodes_from u p) k.steps x y e j (λ i. off (nodes-within y k.steps q k.within x i)) r in
      let b = bypass p (record { edge = e; to = y } ∷ r.steps) u t x r.end h simple d m r.met in
      (b.steps, b.leads, b.simple, b.edges e ((edges-cons (record { edge = e; to = y }) r.steps e).1 (inr refl)))
