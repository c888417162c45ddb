-- A table as it is filled, edge by edge: it is right for the network with the edges that are gone through.
-- Assumes that the ends of the edge have a place in the table.
--
--   Filled Right N all t left    the table t has a row for each node, and it is right for the edges of `all` but those that are left
use mathlib.Core.Path.{◌≡◌, refl, sym, ap, ◌∙◌}
use mathlib.Core.List.{List}
use mathlib.Core.Logic.{◌⊎◌, inl, inr, ◌↔◌}
use Prim.Native.Nat.{ℕ, zero, suc, ◌<◌}
use native.Mathlib.Decide.{ℕ_discrete}
use native.Mathlib.Omega.{arith}
use borrow.Author.Tests.{eq-eqb, ne_eqb}
use lib.ListN.{length, get_or, length-set, replicate}
use lib.Seq.{get_or-set_same, get_or-set_other}
use Rattle.bitset.specs.Members.{insert, ◌∈◌, ◌⊆◌, ◌∖◌}
use Rattle.bitset.proofs.Members.{has-zero}
use Rattle.bitset.proofs.Subsets.{⊆-refl}
use Rattle.bitset.proofs.Sets.{in_insert}
use Rattle.bitset.proofs.Scans.{Less, gone-first, gone-next, gone-last}
use Rattle.node_set.specs.Width.{node_width}
use Rattle.network.specs.declared.Network.{Network}
use Rattle.network.specs.Record.{first_end, second_end, present}
use Rattle.graph.specs.Paths.{Joins}
use Rattle.graph.specs.Cuts.{only}
use Rattle.graph.proofs.Walks.{joins-sym}
use Rattle.graph.proofs.EdgeSets.{joins-stored}
use Rattle.graph.proofs.Sound.{Sound}
use Rattle.adjacency.specs.Adjacency.{Adjacency, with_member, linked}

-- ---- tables

-- Two members more leave a table as long as it was.
pub with-both-length : (t : List ℕ) (a b x y : ℕ) → length (with_member (with_member t a x) b y) ≡ length t
with-both-length t a b x y = length-set (with_member t a x) b (insert (get_or (with_member t a x) b 0) y) ∙ length-set t a (insert (get_or t a 0) x)

-- A table with a member more has this one more, and no other.
in-with-member : (t : List ℕ) (a b : ℕ) → a < length t
    → (v w : ℕ) → (w ∈ get_or (with_member t a b) v 0) ↔ ((w ∈ get_or t v 0) ⊎ ((v ≡ a) × (w ≡ b)))
in-with-member t a b h v w = go (ℕ_discrete v a)
  where
    go : Dec (v ≡ a) → (w ∈ get_or (with_member t a b) v 0) ↔ ((w ∈ get_or t v 0) ⊎ ((v ≡ a) × (w ≡ b)))
    go (yes e) = rw (e, get_or-set_same t a (insert (get_or t a 0) b) 0 h) (
      λ m. elim ((in_insert (get_or t a 0) b w).0 m) [ inl i ↦ inl i | inr q ↦ inr (refl, q) ],
      λ c. (in_insert (get_or t a 0) b w).1 (elim c [ inl i ↦ inl i | inr q ↦ inr q.1 ]),
    )
    go (no n) = rw (get_or-set_other t a v (insert (get_or t a 0) b) 0 n) (
      λ m. inl m,
      λ c. elim c [ inl i ↦ i | inr q ↦ absurd (n q.0) ],
    )

-- Two members more.
pub in-with-both : (t : List ℕ) (a b x y : ℕ) → a < length t → b < length t
    → (v w : ℕ) → (w ∈ get_or (with_member (with_member t a x) b y) v 0) ↔ ((w ∈ get_or t v 0) ⊎ (((v ≡ a) × (w ≡ x)) ⊎ ((v ≡ b) × (w ≡ y))))
in-with-both t a b x y h l v w =
    let one = in-with-member t a x h v w in
    let two = in-with-member (with_member t a x) b y (rw (length-set t a (insert (get_or t a 0) x)) l) v w in (
      λ m. elim (two.0 m) [
        | inl i ↦ elim (one.0 i) [ inl k ↦ inl k | inr q ↦ inr (inl q) ]
        | inr q ↦ inr (inr q)
      ],
      λ c. two.1 (elim c [
        | inl k ↦ inl (one.1 (inl k))
        | inr q ↦ elim q [ inl p ↦ inl (one.1 (inr p)) | inr p ↦ inr p ]
      ]),
    )

-- A list of zeros has zeros alone.
pub zeros : (n v : ℕ) → ◌≡◌ {A = ℕ} (get_or (replicate n 0) v 0) 0
zeros zero v = refl
zeros (suc n) zero = refl
zeros (suc n) (suc v) = zeros n v

-- Two nodes are put into each other's rows, one node into none.
module _ (t : List ℕ) (a b : ℕ) where
  pub linked-two : (a ≡ b → ⊥) → linked t a b ≡ with_member (with_member t a b) b a
  unfolding linked
  linked-two n = rw (ne_eqb a b n, linked)

  pub linked-one : a ≡ b → linked t a b ≡ t
  unfolding linked
  linked-one e = rw (eq-eqb a b e, linked)

-- A table with two nodes linked is as long as it was.
pub linked-length : (t : List ℕ) (a b : ℕ) → length (linked t a b) ≡ length t
linked-length t a b = go (ℕ_discrete a b)
  where
    go : Dec (a ≡ b) → length (linked t a b) ≡ length t
    go (yes e) = ap length (linked-one t a b e)
    go (no n) = ap length (linked-two t a b n) ∙ with-both-length t a b b a

-- ---- tables that are filled

-- The table t has a row for each node, and it is right for the edges of `all` but those that are left.
pub record Filled (Right : Network → List ℕ → Type 0) (N : Network) (all : ℕ) (t : List ℕ) (left : ℕ) : Type 0 where
  pub within : left ⊆ all
  pub rows : length t ≡ node_width
  pub right : Right (only N (all ∖ left)) t

module _ (Right : Network → List ℕ → Type 0) (N : Network) (all : ℕ) where
  -- At first all are left.
  pub filled-first : Right (only N 0) (replicate node_width 0) → Filled Right N all (replicate node_width 0) all
  filled-first none = record { within = ⊆-refl all; rows = refl; right = rw (gone-first all) none }

  -- Where the table is made right with the edge k too, one less is left.
  pub filled_next : (k left left' : ℕ) (t t' made : List ℕ) → Less left k left' → Filled Right N all t left
      → t' ≡ made → length made ≡ length t → Right (only N (insert (all ∖ left) k)) made → Filled Right N all t' left'
  filled_next k left left' t t' made less filled puts same right = record {
    within = λ j m. filled.within j ((less.rest j).0 m).0;
    rows = ap length puts ∙ same ∙ filled.rows;
    right = rw (gone-next all left k left' filled.within less, puts) right;
  }

  -- Where none is left, it is right for all.
  pub filled-last : (left : ℕ) (t : List ℕ) → ((j : ℕ) → j ∈ left → ⊥) → Filled Right N all t left → Right (only N all) t
  filled-last left t none filled = rw (gone-last all left none) at filled.right

-- ---- edges

-- The ends of an edge of a sound network have a place in the table.
pub ends-fit : (N : Network) → Sound N → (k : ℕ) → k ∈ present N → (first_end N k < node_width) × (second_end N k < node_width)
ends-fit N S k m =
    let j = joins-stored N k m in
    let first = S.bounded.ends k (second_end N k) (first_end N k) (joins-sym N k (first_end N k) (second_end N k) j) in
    let second = S.bounded.ends k (first_end N k) (second_end N k) j in
    (omega (arith, S.small), omega (arith, S.small))

-- An edge more joins what was joined, and its ends to each other.
pub joins-insert : (N : Network) (s k e v w : ℕ) → Joins (only N (insert s k)) e v w
    ↔ (Joins (only N s) e v w ⊎ ((e ≡ k) × (((v ≡ first_end N k) × (w ≡ second_end N k)) ⊎ ((v ≡ second_end N k) × (w ≡ first_end N k)))))
unfolding Joins only
joins-insert N s k e v w = (
  λ j. elim ((in_insert s k e).0 j.0) [
    | inl m ↦ inl (m, j.1)
    | inr q ↦ inr (
      q,
      elim j.1 [
        | inl p ↦ inl (rw q at (sym p.0), rw q at (sym p.1))
        | inr p ↦ inr (rw q at (sym p.1), rw q at (sym p.0))
      ],
    )
  ],
  λ c. elim c [
    | inl j ↦ ((in_insert s k e).1 (inl j.0), j.1)
    | inr q ↦ (
      (in_insert s k e).1 (inr q.0),
      elim q.1 [
        | inl p ↦ inl (rw q.0 (sym p.0), rw q.0 (sym p.1))
        | inr p ↦ inr (rw q.0 (sym p.1), rw q.0 (sym p.0))
      ],
    )
  ],
)

module _ (N : Network) where
  -- No edge is gone through, and the table is empty.
  pub adjacency-first : (t : List ℕ) → ((v : ℕ) → get_or t v 0 ≡ 0) → Adjacency (only N 0) t
  unfolding Joins only
  adjacency-first t empty v w = rw (empty v) (λ m. absurd (rw (has-zero w) at m), λ j. absurd (rw (has-zero j.1.0) at j.1.1.0))

  -- One edge k more is gone through: its ends are linked.
  module _ (s k : ℕ) (t : List ℕ) (first : first_end N k < length t) (second : second_end N k < length t) (old : Adjacency (only N s) t) where
    pub adjacency-next : Adjacency (only N (insert s k)) (linked t (first_end N k) (second_end N k))
    adjacency-next v w = go (ℕ_discrete (first_end N k) (second_end N k))
      where
        -- What was adjacent is.
        before : w ∈ get_or t v 0 → (v ≡ w → ⊥) × ((e : ℕ) × Joins (only N (insert s k)) e v w)
        before i = let j = (old v w).0 i in (j.0, (j.1.0, (joins-insert N s k j.1.0 v w).1 (inl j.1.1)))

        go : Dec (first_end N k ≡ second_end N k)
            → (w ∈ get_or (linked t (first_end N k) (second_end N k)) v 0) ↔ ((v ≡ w → ⊥) × ((e : ℕ) × Joins (only N (insert s k)) e v w))
        go (yes same_end) = rw (linked-one t (first_end N k) (second_end N k) same_end) (
          before,
          λ j. elim ((joins-insert N s k j.1.0 v w).0 j.1.1) [
            | inl i ↦ (old v w).1 (j.0, (j.1.0, i))
            | inr q ↦ absurd (j.0 (elim q.1 [
              | inl p ↦ p.0 ∙ same_end ∙ sym p.1
              | inr p ↦ p.0 ∙ sym same_end ∙ sym p.1
            ]))
          ],
        )
        go (no differ) =
            let both = in-with-both t (first_end N k) (second_end N k) (second_end N k) (first_end N k) first second v w in
            rw (linked-two t (first_end N k) (second_end N k) differ) (
              λ m. elim (both.0 m) [
                | inl i ↦ before i
                | inr q ↦ (
                  λ d. differ (elim q [ inl p ↦ sym p.0 ∙ d ∙ p.1 | inr p ↦ sym p.1 ∙ sym d ∙ p.0 ]),
                  (k, (joins-insert N s k k v w).1 (inr (refl, q))),
                )
              ],
              λ j. both.1 (elim ((joins-insert N s k j.1.0 v w).0 j.1.1) [
                | inl i ↦ inl ((old v w).1 (j.0, (j.1.0, i)))
                | inr q ↦ inr q.1
              ]),
            )
