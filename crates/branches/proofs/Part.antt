-- The relevant part as a network: its walks, what lies beside a set in it, and its edges at a node.
-- Assumes a sound network.
use mathlib.Core.Path.{◌≡◌, refl, sym, ap, ap₂, ◌∙◌}
use mathlib.Core.Bool.{Bool, true, false, xor, ◌&&◌, ◌||◌}
use mathlib.Core.Logic.{inl, inr, ◌↔◌, ◌≢◌}
use Prim.Native.Nat.{ℕ, ◌^◌}
use lib.Bits.{bit_or, bit_xor}
use lib.Dec.{T, eqb, ltb, ltb→lt, lt→ltb}
use Rattle.bitset.specs.Members.{has, ◌⊆◌, insert, ◌∈◌}
use Rattle.bitset.proofs.Members.{same-members, has-xor, has-insert}
use Rattle.bitset.proofs.Subsets.{same_test, ⊆-insert}
use Rattle.sequences.proofs.Tests.{T_and, T-eqb}
use Rattle.bitset.proofs.Sets.{in_insert, in-single, same_set, in-or}
use Rattle.network.specs.declared.Network.{Network}
use Rattle.network.specs.Record.{first_end, second_end, present}
use Rattle.graph.specs.Paths.{Joins}
use Rattle.graph.specs.Cuts.{only}
use Rattle.graph.specs.Reach.{round, reach_of, Bounded}
use Rattle.graph.specs.Relevant.{chosen, edges_at, edges_within, reach_in, relevant_nodes, relevant_edges, crossing_of, boundary_of}
use Rattle.graph.proofs.Walks.{joins-sym, joins-other, joins-ends}
use Rattle.graph.proofs.Reach.{in-round, round_mono, bounded-only}
use Rattle.graph.proofs.EdgeSets.{in-chosen, joins-stored, in-edges_within}
use Rattle.graph.proofs.Sound.{Sound}
use Rattle.branches.specs.Enumeration.{relevant_network}

module _ (N : Network) (S : Sound N) where
  -- The edges of the relevant part are present.
  part-present : relevant_edges N ⊆ present N
  unfolding relevant_edges
  part-present e m = ((in-edges_within N S.bounded (relevant_nodes N) e).0 m).0

  -- The relevant part stays within the bounds of the network.
  pub part-bounded : Bounded (relevant_network N)
  part-bounded = bounded-only N S.bounded (relevant_edges N) part-present

  -- The edges of the relevant part are those that join two different relevant nodes.
  pub part-joins : (e x y : ℕ) → Joins (relevant_network N) e x y ↔ (Joins N e x y × (x ≢ y) × (x ∈ relevant_nodes N) × (y ∈ relevant_nodes N))
  unfolding relevant_edges Joins only
  part-joins e x y =
      let within = in-edges_within N S.bounded (relevant_nodes N) e in (
        λ j.
            let w = within.0 j.0 in
            let here : Joins N e x y = (w.0, j.1) in
            let ends = w.1 x y here in
            (here, ends.0, ends.1, (w.1 y x (joins-sym N e x y here)).1),
        λ k. (
          within.1 (
            k.0.0,
            λ a b j. elim (joins-ends N e x y a b k.0 j) [
              | inl q ↦ (λ r. k.1 (sym q ∙ r ∙ joins-other N e x b y (rw q at j) k.0), rw q k.2)
              | inr q ↦ (λ r. k.1 (sym (sym q ∙ r ∙ joins-other N e y b x (rw q at j) (joins-sym N e x y k.0))), rw q k.3)
            ],
          ),
          k.0.1,
        ),
      )

  -- Among relevant nodes it has the same edges.
  part-within : (u : ℕ) → u ⊆ relevant_nodes N → edges_within (relevant_network N) u ≡ edges_within N u
  unfolding relevant_edges Joins only
  part-within u sub =
      same_set (λ e.
      let all = in-edges_within N S.bounded (relevant_nodes N) e in
      let here = in-edges_within N S.bounded u e in
      let there = in-edges_within (relevant_network N) part-bounded u e in (
        λ m. let w = there.0 m in here.1 ((all.0 w.0).0, λ x y j. w.1 x y (w.0, j.1)),
        λ m.
            let w = here.0 m in
            there.1 (all.1 (w.0, λ x y j. let ends = w.1 x y j in (ends.0, sub x ends.1)), λ x y j. w.1 x y (w.0, j.1)),
      ))

  -- Among relevant nodes the same is reached in it.
  pub part-reach_in : (u h : ℕ) → u ⊆ relevant_nodes N → reach_in (relevant_network N) u h ≡ reach_in N u h
  unfolding reach_in only
  part-reach_in u h sub = ap (λ (g : ℕ). reach_of (only N g) (2 ^ h)) (part-within u sub)

  -- What lies beside s with v lies beside s or beside v.
  pub beside-insert : (s v : ℕ) → round (relevant_network N) (insert s v) ≡ bit_or (round (relevant_network N) s) (round (relevant_network N) (2 ^ v))
  beside-insert s v =
      let M : Network = relevant_network N in
      let all = in-round M part-bounded.edges (insert s v) in
      let old = in-round M part-bounded.edges s in
      let new = in-round M part-bounded.edges (2 ^ v) in
      same_set (λ k. (
        λ m. (in-or (round M s) (round M (2 ^ v)) k).1 (elim ((all k).0 m) [
          | inl i ↦ elim ((in_insert s v k).0 i) [ inl l ↦ inl ((old k).1 (inl l)) | inr q ↦ inr ((new k).1 (inl ((in-single v k).1 q))) ]
          | inr w ↦ elim ((in_insert s v w.1.0).0 w.1.1.0) [
            | inl l ↦ inl ((old k).1 (inr (w.0, (w.1.0, (l, w.1.1.1)))))
            | inr q ↦ inr ((new k).1 (inr (w.0, (w.1.0, ((in-single v w.1.0).1 q, w.1.1.1)))))
          ]
        ]),
        λ m. elim ((in-or (round M s) (round M (2 ^ v)) k).0 m) [
          | inl i ↦ round_mono M part-bounded s (insert s v) (⊆-insert s v) k i
          | inr i ↦ round_mono M part-bounded (2 ^ v) (insert s v) (λ j l. (in_insert s v j).1 (inr ((in-single v j).0 l))) k i
        ],
      ))

-- ---- the boundary

-- A number is chosen if it is below n and passes the test.
has_chosen : (f : ℕ → Bool) (n k : ℕ) → has (chosen f n) k ≡ ltb k n && f k
has_chosen f n k =
    same_test (has (chosen f n) k) (ltb k n && f k)
    (λ m. let p = (in-chosen f n k).0 m in (T_and (ltb k n) (f k)).1 (lt→ltb k n p.0, p.1))
    (λ t. let p = (T_and (ltb k n) (f k)).0 t in (in-chosen f n k).1 (ltb→lt k n p.0, p.1))

-- Where the end that is v changes sides, an edge changes between crossing and not crossing: a and b say which ends were in, p and q which is v.
toggled : (p q a b : Bool) → (T p → T a → ⊥) → (T q → T b → ⊥) → (T p → T q → ⊥) → xor (a || p) (b || q) ≡ xor (xor a b) (p || q)
unfolding xor
toggled true true a b na nb apart = absurd (apart tt tt)
toggled true false true b na nb apart = absurd (na tt tt)
toggled true false false true na nb apart = refl
toggled true false false false na nb apart = refl
toggled false true a true na nb apart = absurd (nb tt tt)
toggled false true true false na nb apart = refl
toggled false true false false na nb apart = refl
toggled false false true true na nb apart = refl
toggled false false true false na nb apart = refl
toggled false false false true na nb apart = refl
toggled false false false false na nb apart = refl

-- Of two tests that are asked only where another holds, just one holds there.
xor-where : (c a b : Bool) → xor (c && a) (c && b) ≡ c && xor a b
unfolding xor
xor-where true a b = refl
xor-where false a b = refl

-- Two tests that are asked only where another holds may be equal there alone.
same-where : (c a b : Bool) → (T c → a ≡ b) → c && a ≡ c && b
same-where true a b same = same tt
same-where false a b same = refl

module _ (N : Network) (S : Sound N) where
  -- The relevant part has no loop.
  part-loopless : (e : ℕ) → e ∈ relevant_edges N → first_end N e ≢ second_end N e
  unfolding relevant_edges
  part-loopless e m =
      let w = (in-edges_within N S.bounded (relevant_nodes N) e).0 m in
      (w.1 (first_end N e) (second_end N e) (joins-stored N e w.0)).0

  -- With v the edges at v change: those that crossed do so no more, and the others now do.
  pub boundary-insert : (s v : ℕ) → (v ∈ s → ⊥) → boundary_of N (insert s v) ≡ bit_xor (boundary_of N s) (edges_at (relevant_network N) v)
  unfolding boundary_of crossing_of edges_at only
  boundary-insert s v out = same-members (boundary_of N (insert s v)) (bit_xor (boundary_of N s) (edges_at (relevant_network N) v)) (λ k.
      let r : Bool = has (relevant_edges N) k in
      let a : ℕ = first_end N k in
      let b : ℕ = second_end N k in
      let old : Bool = xor (has s a) (has s b) in
      let new : Bool = xor (has (insert s v) a) (has (insert s v) b) in
      let at : Bool = eqb a v || eqb b v in
      let away : (x : ℕ) → T (eqb x v) → T (has s x) → ⊥ = λ x p i. out (rw ((T-eqb x v).0 p) at i) in
      let toggles : k ∈ relevant_edges N → new ≡ xor old at =
      λ m. rw (has-insert s v a, has-insert s v b) (toggled (eqb a v) (eqb b v) (has s a) (has s b) (away a) (away b)
      (λ p q. part-loopless k m ((T-eqb a v).0 p ∙ sym ((T-eqb b v).0 q)))) in
      has_chosen (λ j. has (relevant_edges N) j && xor (has (insert s v) (first_end N j)) (has (insert s v) (second_end N j))) 64 k
      ∙ ap (λ (t : Bool). ltb k 64 && t) (same-where r new (xor old at) toggles)
      ∙ sym (
      has-xor (boundary_of N s) (edges_at (relevant_network N) v) k
      ∙ ap₂ xor
      (has_chosen (λ j. has (relevant_edges N) j && xor (has s (first_end N j)) (has s (second_end N j))) 64 k)
      (has_chosen (λ j. has (relevant_edges N) j && (eqb (first_end N j) v || eqb (second_end N j) v)) 64 k)
      ∙ xor-where (ltb k 64) (r && old) (r && at)
      ∙ ap (λ (t : Bool). ltb k 64 && t) (xor-where r old at)
      ))
