-- Sets of edges: those chosen by a test, as the edges at a node, those within a set of nodes and those that leave it, and what is reached
-- over a set.
-- Assumes that the edges have numbers below 64 and ends below the node count.
use mathlib.Core.Path.{refl}
use mathlib.Core.Bool.{Bool, not, xor, ◌&&◌, ◌||◌}
use mathlib.Core.List.{List}
use mathlib.Core.Logic.{inl, inr, ◌↔◌, ◌≢◌, Ne-symm}
use Prim.Native.Nat.{ℕ, zero, suc, ◌^◌, ◌<◌}
use native.Mathlib.Nat.{not-suc-le-zero, le_of_suc-le-suc, eq-or-lt_of_le}
use native.Mathlib.Omega.{arith}
use lib.Dec.{T, eqb}
use Rattle.bitset.specs.Members.{has, ◌⊆◌, ◌∈◌}
use Rattle.bitset.proofs.Members.{has-zero}
use Rattle.sequences.proofs.Tests.{T_and, T-or, T_not, T-xor, T-eqb}
use Rattle.bitset.proofs.Sets.{in-add_if, member-lt}
use Rattle.network.specs.declared.Network.{Network}
use Rattle.network.specs.Record.{has_edge, first_end, second_end, present}
use Rattle.graph.specs.Paths.{Joins, Hop, Leads, edges_of}
use Rattle.graph.specs.Cuts.{only}
use Rattle.graph.specs.Reach.{reach_of, Bounded}
use Rattle.graph.specs.SourceSides.{Crosses}
use Rattle.graph.specs.Relevant.{chosen, edges_at, two_in, edges_within, crossing_of}
use Rattle.graph.proofs.Walks.{leads-within}
use Rattle.graph.proofs.Reach.{bounded-only, in-reach-single}

-- The chosen numbers are those below n that pass the test.
pub in-chosen : (f : ℕ → Bool) (n k : ℕ) → (k ∈ chosen f n) ↔ ((k < n) × T (f k))
unfolding chosen
in-chosen f zero k = (λ m. absurd (rw (has-zero k) at m), λ c. absurd (not-suc-le-zero c.0))
in-chosen f (suc n) k = (
  λ m. elim ((in-add_if (f n) (chosen f n) n k).0 m) [
    | inl i ↦ let c = (in-chosen f n k).0 i in (omega arith, c.1)
    | inr i ↦ (omega arith, rw i.1 i.0)
  ],
  λ c. (in-add_if (f n) (chosen f n) n k).1 (elim (eq-or-lt_of_le (le_of_suc-le-suc c.0)) [
    | inl e ↦ inr (rw e at c.1, e)
    | inr l ↦ inl ((in-chosen f n k).1 (l, c.1))
  ]),
)

-- The test of two different members is right.
pub in-two_in : (u a b : ℕ) → T (two_in u a b) ↔ ((a ≢ b) × (a ∈ u) × (b ∈ u))
unfolding two_in
in-two_in u a b =
    let differ = T_not (eqb a b) in
    let outer = T_and (not (eqb a b)) (has u a && has u b) in
    let inner = T_and (has u a) (has u b) in (
      λ t. let both = inner.0 (outer.0 t).1 in (λ e. differ.0 (outer.0 t).0 ((T-eqb a b).1 e), both.0, both.1),
      λ k. outer.1 (differ.1 (λ t. k.0 ((T-eqb a b).0 t)), inner.1 (k.1, k.2)),
    )

-- A present edge joins its stored ends.
pub joins-stored : (N : Network) (e : ℕ) → e ∈ present N → Joins N e (first_end N e) (second_end N e)
unfolding Joins
joins-stored N e m = (m, inl (refl, refl))

-- A present edge crosses exactly if one of its stored ends is in s.
crosses-stored : (N : Network) (s e : ℕ) → e ∈ present N → T (xor (has s (first_end N e)) (has s (second_end N e))) ↔ Crosses N s e
unfolding Joins
crosses-stored N s e m =
    let a : ℕ = first_end N e in
    let b : ℕ = second_end N e in (
      λ t. elim ((T-xor (has s a) (has s b)).0 t) [
        | inl k ↦ record { near = a; far = b; joins = (m, inl (refl, refl)); near-in = k.0; far-out = k.1 }
        | inr k ↦ record { near = b; far = a; joins = (m, inr (refl, refl)); near-in = k.0; far-out = k.1 }
      ],
      λ k. (T-xor (has s a) (has s b)).1 (elim k.joins.1 [
        | inl q ↦ inl (rw q.0 k.near-in, rw q.1 k.far-out)
        | inr q ↦ inr (rw q.1 k.near-in, rw q.0 k.far-out)
      ]),
    )

module _ (N : Network) (B : Bounded N) where
  -- A present edge has a number below 64.
  pub edge-lt : (e : ℕ) → e ∈ present N → e < 64
  edge-lt e m = member-lt 64 (present N) e B.edges m

  -- The edges at c are those that join c to some node.
  pub in-edges_at : (c e : ℕ) → (e ∈ edges_at N c) ↔ ((x : ℕ) × Joins N e c x)
  unfolding edges_at Joins
  in-edges_at c e =
      let a : ℕ = first_end N e in
      let b : ℕ = second_end N e in
      let test = in-chosen (λ k. has_edge N k && (eqb (first_end N k) c || eqb (second_end N k) c)) 64 e in (
        λ m.
            let t = (T_and (has_edge N e) (eqb a c || eqb b c)).0 (test.0 m).1 in
            elim ((T-or (eqb a c) (eqb b c)).0 t.1) [
              | inl q ↦ (b, (t.0, inl ((T-eqb a c).0 q, refl)))
              | inr q ↦ (a, (t.0, inr (refl, (T-eqb b c).0 q)))
            ],
        λ j.
            test.1 (
              edge-lt e j.1.0,
              (T_and (has_edge N e) (eqb a c || eqb b c)).1 (
                j.1.0,
                (T-or (eqb a c) (eqb b c)).1
                    (elim j.1.1 [ inl q ↦ inl ((T-eqb a c).1 q.0) | inr q ↦ inr ((T-eqb b c).1 q.1) ]),
              ),
            ),
      )

  -- The edges within u are the present edges that join two different nodes of u.
  pub in-edges_within : (u e : ℕ) → (e ∈ edges_within N u) ↔ ((e ∈ present N) × ((x y : ℕ) → Joins N e x y → (x ≢ y) × (x ∈ u)))
  unfolding edges_within Joins
  in-edges_within u e =
      let a : ℕ = first_end N e in
      let b : ℕ = second_end N e in
      let two = in-two_in u a b in
      let test = in-chosen (λ k. has_edge N k && two_in u (first_end N k) (second_end N k)) 64 e in (
        λ m.
            let t = (T_and (has_edge N e) (two_in u a b)).0 (test.0 m).1 in
            let ends = two.0 t.1 in (
              t.0,
              λ x y j. elim j.1 [
                | inl q ↦ (rw (q.0, q.1) at ends.0, rw (← q.0) ends.1)
                | inr q ↦ (rw (q.0, q.1) at (Ne-symm ends.0), rw (← q.1) ends.2)
              ],
            ),
        λ w.
            let there = w.1 a b (w.0, inl (refl, refl)) in
            test.1 (
              edge-lt e w.0,
              (T_and (has_edge N e) (two_in u a b)).1 (w.0, two.1 (there.0, there.1, (w.1 b a (w.0, inr (refl, refl))).1)),
            ),
      )

  -- The edges of g that cross are those with one end in s and one outside.
  pub in-crossing_of : (g : ℕ) → g ⊆ present N → (s e : ℕ) → (e ∈ crossing_of N g s) ↔ ((e ∈ g) × Crosses N s e)
  unfolding crossing_of
  in-crossing_of g l s e =
      let test = in-chosen (λ k. has g k && xor (has s (first_end N k)) (has s (second_end N k))) 64 e in
      let both = T_and (has g e) (xor (has s (first_end N e)) (has s (second_end N e))) in (
        λ m. let t = both.0 (test.0 m).1 in (t.0, (crosses-stored N s e (l e t.0)).0 t.1),
        λ k. test.1 (edge-lt e (l e k.0), both.1 (k.0, (crosses-stored N s e (l e k.0)).1 k.1)),
      )

  -- What h reaches over the edges of g are the nodes to which a walk from h takes edges of g alone.
  pub in-reach-over : (g : ℕ) → g ⊆ present N → (h v : ℕ)
      → (v ∈ reach_of (only N g) (2 ^ h)) ↔ ((p : List Hop) × (Leads N h p v × (edges_of p ⊆ g)))
  in-reach-over g l h v =
      let reach = in-reach-single (only N g) (bounded-only N B g l) h v in (
        λ m. let w = reach.0 m in (w.0, (leads-within N g l w.0 h v).0 w.1),
        λ w. reach.1 (w.0, (leads-within N g l w.0 h v).1 w.1),
      )
