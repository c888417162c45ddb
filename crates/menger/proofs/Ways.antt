-- Ways to a node by steps that a relation allows: the nodes that have one, each with a simple way among them.
-- Assumes that the edges have numbers below 64 and ends below the node count.
--
--   Along P u p v        the steps p lead from u to v, each as P allows: P e x y says that the edge e may be passed from x to y
--   Way P s t u          a simple way from u to t by allowed steps, over nodes of s alone
--   Closure P t          a set of nodes that no allowed step enters, with t in it, and with a way to t for each of them
use mathlib.Core.Path.{◌≡◌, refl, ◌∙◌}
use mathlib.Core.Bool.{false}
use mathlib.Core.List.Memᴰ
use mathlib.Core.List.{List, [], ◌∷◌, Memᴰ}
use mathlib.Core.Logic.{◌⊎◌, inl, inr}
use Prim.Native.Nat.{ℕ, zero, suc, ◌+◌, ◌^◌, ◌≤◌, ◌<◌}
use native.Mathlib.Nat.{not-suc-le-zero, le_of_suc-le-suc, eq-or-lt_of_le}
use native.Mathlib.Omega.{arith}
use Rattle.sequences.specs.Distinct.{Distinct}
use Rattle.bitset.specs.Members.{has, ◌∈◌, insert, size}
use Rattle.bitset.proofs.Subsets.{same_test}
use Rattle.bitset.proofs.Size.{size-le, size-insert}
use Rattle.bitset.proofs.Sets.{∈-dec, in_insert, in-single}
use Rattle.network.specs.declared.Network.{Network}
use Rattle.network.specs.Record.{present, first_end, second_end}
use Rattle.graph.specs.Paths.{Joins, Hop, Leads, nodes_from, Simple, edges_of}
use Rattle.graph.specs.Reach.{Bounded}
use Rattle.graph.proofs.Walks.{edges-nil, edges-cons, joins-sym}
use Rattle.graph.proofs.EdgeSets.{joins-stored, edge-lt}

-- `Leads N` is this for `Joins N`.
unfoldable pub Along : (ℕ → ℕ → ℕ → Type 0) → ℕ → List Hop → ℕ → Type 0
Along P u [] v = u ≡ v
Along P u (s ∷ p) v = P s.edge u s.to × Along P s.to p v

pub record Way (P : ℕ → ℕ → ℕ → Type 0) (s t u : ℕ) : Type 0 where
  pub steps : List Hop
  pub along : Along P u steps t
  pub simple : Simple u steps
  pub inside : (x : ℕ) → Memᴰ x (nodes_from u steps) → x ∈ s

pub record Closure (P : ℕ → ℕ → ℕ → Type 0) (t : ℕ) : Type 0 where
  pub set : ℕ
  pub target : t ∈ set
  pub closed : (e u v : ℕ) → P e u v → v ∈ set → u ∈ set
  pub ways : (u : ℕ) → u ∈ set → Way P set t u

-- Allowed steps along edges are a walk.
pub along-leads : (N : Network) (P : ℕ → ℕ → ℕ → Type 0) → ((e u v : ℕ) → P e u v → Joins N e u v)
    → (p : List Hop) (u v : ℕ) → Along P u p v → Leads N u p v
unfolding Along Leads
along-leads N P joins [] u v a = a
along-leads N P joins (s ∷ p) u v a = (joins s.edge u s.to a.0, along-leads N P joins p s.to v a.1)

-- Each edge that allowed steps take may be passed.
pub along-edge : (P : ℕ → ℕ → ℕ → Type 0) (p : List Hop) (u v e : ℕ) → Along P u p v → e ∈ edges_of p → (x : ℕ) × ((y : ℕ) × P e x y)
unfolding Along
along-edge P [] u v e a m = absurd (edges-nil e m)
along-edge P (s ∷ p) u v e a m =
    elim ((edges-cons s p e).0 m) [ inl n ↦ along-edge P p s.to v e a.1 n | inr q ↦ (u, (s.to, rw q a.0)) ]

-- Steps that are allowed by one relation are so by any wider one.
pub along-wider : (P Q : ℕ → ℕ → ℕ → Type 0) → ((e u v : ℕ) → P e u v → Q e u v) → (p : List Hop) (u v : ℕ) → Along P u p v → Along Q u p v
unfolding Along
along-wider P Q wider [] u v a = a
along-wider P Q wider (s ∷ p) u v a = (wider s.edge u s.to a.0, along-wider P Q wider p s.to v a.1)

-- An allowed step into s from outside.
record Entry (P : ℕ → ℕ → ℕ → Type 0) (s : ℕ) : Type 0 where
  edge : ℕ
  from : ℕ
  to : ℕ
  allowed : P edge from to
  outside : from ∈ s → ⊥
  inside : to ∈ s

-- The relation allows to pass edges of the network alone, and of each of them it is decided whether it does.
module _ (N : Network) (B : Bounded N) (P : ℕ → ℕ → ℕ → Type 0)
    (joins : (e u v : ℕ) → P e u v → Joins N e u v) (decide : (e u v : ℕ) → Joins N e u v → Dec (P e u v)) where
  -- ---- looking for a step into a set

  -- Over an edge, one way.
  entry-one : (s e a b : ℕ) → Joins N e a b → Entry P s ⊎ (P e a b → b ∈ s → a ∈ s)
  entry-one s e a b j = go (decide e a b j) (∈-dec b s) (∈-dec a s)
    where
      go : Dec (P e a b) → Dec (b ∈ s) → Dec (a ∈ s) → Entry P s ⊎ (P e a b → b ∈ s → a ∈ s)
      go (no n) i o = inr (λ q m. absurd (n q))
      go (yes q) (no n) o = inr (λ _ m. absurd (n m))
      go (yes q) (yes i) (yes m) = inr (λ _ _. m)
      go (yes q) (yes i) (no o) = inl (record { edge = e; from = a; to = b; allowed = q; outside = o; inside = i })

  -- Over an edge, either way.
  entry-over : (s e : ℕ) → Entry P s ⊎ ((u v : ℕ) → P e u v → v ∈ s → u ∈ s)
  unfolding Joins
  entry-over s e = there (∈-dec e (present N))
    where
      a : ℕ
      a = first_end N e

      b : ℕ
      b = second_end N e

      both : Entry P s ⊎ (P e a b → b ∈ s → a ∈ s) → Entry P s ⊎ (P e b a → a ∈ s → b ∈ s) → Entry P s ⊎ ((u v : ℕ) → P e u v → v ∈ s → u ∈ s)
      both (inl found) y = inl found
      both (inr x) (inl found) = inl found
      both (inr x) (inr y) = inr (λ u v q m. elim (joins e u v q).1 [
        | inl k ↦ rw (← k.0) (x (rw (k.0, k.1) q) (rw k.1 m))
        | inr k ↦ rw (← k.1) (y (rw (k.0, k.1) q) (rw k.0 m))
      ])

      there : Dec (e ∈ present N) → Entry P s ⊎ ((u v : ℕ) → P e u v → v ∈ s → u ∈ s)
      there (yes m) =
          let j = joins-stored N e m in
          both (entry-one s e a b j) (entry-one s e b a (joins-sym N e a b j))
      there (no n) = inr (λ u v q m. absurd (n (joins e u v q).0))

  -- Over the edges below n.
  entry-below : (s n : ℕ) → Entry P s ⊎ ((e u v : ℕ) → e < n → P e u v → v ∈ s → u ∈ s)
  entry-below s zero = inr (λ e u v h. absurd (not-suc-le-zero h))
  entry-below s (suc n) = go (entry-below s n) (entry-over s n)
    where
      go : Entry P s ⊎ ((e u v : ℕ) → e < n → P e u v → v ∈ s → u ∈ s) → Entry P s ⊎ ((u v : ℕ) → P n u v → v ∈ s → u ∈ s)
          → Entry P s ⊎ ((e u v : ℕ) → e < suc n → P e u v → v ∈ s → u ∈ s)
      go (inl found) y = inl found
      go (inr x) (inl found) = inl found
      go (inr x) (inr y) = inr (λ e u v h q. elim (eq-or-lt_of_le (le_of_suc-le-suc h)) [ inl k ↦ y u v (rw k at q) | inr l ↦ x e u v l q ])

  -- Over any edge: there is a step into the set, or the set is closed.
  entry : (s : ℕ) → Entry P s ⊎ ((e u v : ℕ) → P e u v → v ∈ s → u ∈ s)
  unfolding Joins
  entry s = elim (entry-below s 64) [ inl found ↦ inl found | inr none ↦ inr (λ e u v q. none e u v (edge-lt N B e (joins e u v q).0) q) ]

  -- ---- growing the set

  module _ (t : ℕ) where
    -- The node from which a step enters has a way too: that step, and on. It is simple, as the rest stays in the set.
    enter : (s : ℕ) (k : Entry P s) → ((u : ℕ) → u ∈ s → Way P s t u) → (u : ℕ) → u ∈ insert s k.from → Way P (insert s k.from) t u
    unfolding Along Distinct
    enter s k ways u m = elim ((in_insert s k.from u).0 m) [
      | inl i ↦
          let w = ways u i in
          record { steps = w.steps; along = w.along; simple = w.simple; inside = λ x n. (in_insert s k.from x).1 (inl (w.inside x n)) }
      | inr e ↦
          let w = ways k.to k.inside in
          record {
            steps = record { edge = k.edge; to = k.to } ∷ w.steps;
            along = (rw e k.allowed, w.along);
            simple = (λ n. k.outside (w.inside k.from (rw e at n)), w.simple);
            inside = λ x n. (in_insert s k.from x).1 (elim (Memᴰ.cases_cons n) [ inl q ↦ inr (q ∙ e) | inr i ↦ inl (w.inside x i) ]);
          }
    ]

    -- Such a node is one more below the node count.
    entered : (s : ℕ) (k : Entry P s) → size N.nodes (insert s k.from) ≡ suc (size N.nodes s)
    entered s k =
        size-insert N.nodes s k.from
        (B.ends k.edge k.to k.from (joins-sym N k.edge k.from k.to (joins k.edge k.from k.to k.allowed)))
        (same_test (has s k.from) false k.outside absurd)

    -- From a set with ways, one node after the other is taken in, at most as many as are missing.
    grow : (n s : ℕ) → N.nodes ≤ n + size N.nodes s → t ∈ s → ((u : ℕ) → u ∈ s → Way P s t u) → Closure P t
    grow zero s h m ways = go (entry s)
      where
        go : Entry P s ⊎ ((e u v : ℕ) → P e u v → v ∈ s → u ∈ s) → Closure P t
        go (inl k) = absurd (omega (arith, entered s k, size-le N.nodes (insert s k.from)))
        go (inr closed) = record { set = s; target = m; closed = closed; ways = ways }
    grow (suc n) s h m ways = go (grow n) (entry s)
      where
        go : ((r : ℕ) → N.nodes ≤ n + size N.nodes r → t ∈ r → ((u : ℕ) → u ∈ r → Way P r t u) → Closure P t)
            → Entry P s ⊎ ((e u v : ℕ) → P e u v → v ∈ s → u ∈ s) → Closure P t
        go more (inl k) =
            more (insert s k.from) (omega (arith, entered s k)) ((in_insert s k.from t).1 (inl m)) (enter s k ways)
        go more (inr closed) = record { set = s; target = m; closed = closed; ways = ways }

    -- Around each node there is such a set.
    pub closure : Closure P t
    unfolding Along Distinct
    closure = grow N.nodes (2 ^ t) (omega arith) ((in-single t t).1 refl) (λ u m. record {
      steps = [];
      along = (in-single t u).0 m;
      simple = (Memᴰ.not-nil, tt);
      inside = λ x n. rw (Memᴰ.eq_of_singleton n) m;
    })
