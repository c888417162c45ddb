-- Counting the members of a list that pass a test; and what a permutation keeps: the length, and the members.
-- Assumes nothing.
use mathlib.Core.Path.{◌≡◌, refl}
use mathlib.Core.Logic.{◌⊎◌, inl, inr}
use mathlib.Core.Bool.{Bool, true, false}
use mathlib.Core.List.Memᴰ
use mathlib.Core.List.{List, [], ◌∷◌, ◌++◌, map, Memᴰ}
use Prim.Native.Nat.{ℕ, zero, suc, ◌+◌, ◌≤◌, ◌<◌, zero-le}
use native.Mathlib.Nat.{le_refl, not-suc-le-zero, le_of_suc-le-suc}
use native.Mathlib.Omega.{arith}
use borrow.Author.Tests.{eq-eqb, eqb-true}
use lib.Dec.{T, eqb}
use lib.ListN.{length, get_or, set}
use lib.Seq.{lt-length-set}
use Rattle.sequences.specs.Counts.{bit, count_if, Permutation}

-- A test that implies another counts no more than it.
pub bit-mono : (a b : Bool) → (T a → T b) → bit a ≤ bit b
bit-mono false b f = zero-le
bit-mono true true f = le_refl 1
bit-mono true false f = absurd (f tt)

module _ {A : Type 0} (p : A → Bool) where
  -- Nothing in the empty list passes.
  pub count-nil : count_if p [] ≡ 0
  unfolding count_if
  count-nil = refl

  -- A member in front counts if it passes.
  pub count-cons : (x : A) (l : List A) → count_if p (x ∷ l) ≡ bit (p x) + count_if p l
  unfolding count_if
  count-cons x l = go (p x)
    where
      go : (b : Bool) → elim b [ true ↦ suc (count_if p l) | false ↦ count_if p l ] ≡ bit b + count_if p l
      go true = omega arith
      go false = omega arith

  -- The counts of two lists add up.
  pub count-append : (l m : List A) → count_if p (l ++ m) ≡ count_if p l + count_if p m
  count-append [] m = rw count-nil (omega arith)
  count-append (x ∷ l) m = rw (count-cons x (l ++ m), count-cons x l, count-append l m) (omega arith)

  -- What stands at i no longer counts once another is put there, and the other does.
  pub count_set : (l : List A) (i : ℕ) (x d : A) → i < length l → count_if p (set l i x) + bit (p (get_or l i d)) ≡ count_if p l + bit (p x)
  count_set [] i x d h = absurd (not-suc-le-zero h)
  count_set (y ∷ l) zero x d h = rw (count-cons x l, count-cons y l) (omega arith)
  count_set (y ∷ l) (suc i) x d h =
      let rest = count_set l i x d (le_of_suc-le-suc h) in
      rw (count-cons y (set l i x), count-cons y l) (omega arith)

  -- No more pass than there are.
  pub count-le : (l : List A) → count_if p l ≤ length l
  count-le [] = rw count-nil zero-le
  count-le (x ∷ l) = rw (count-cons x l) (at (p x) (count-le l))
    where
      at : (b : Bool) → count_if p l ≤ length l → bit b + count_if p l ≤ suc (length l)
      at true h = omega arith
      at false h = omega arith

  -- A member that passes is counted.
  pub count-member : (l : List A) {a : A} → Memᴰ a l → p a ≡ true → 0 < count_if p l
  count-member [] m t = absurd (Memᴰ.not-nil m)
  count-member (x ∷ l) {a} m t = rw (count-cons x l) (go (λ m'. count-member l m' t) (Memᴰ.cases_cons m))
    where
      go : (Memᴰ a l → 0 < count_if p l) → (a ≡ x) ⊎ Memᴰ a l → 0 < bit (p x) + count_if p l
      go rest (inl e) = rw (← e, t) (omega arith)
      go rest (inr m') = omega (arith, rest m')

  -- What is counted is a member that passes.
  pub member-counted : (l : List A) → 0 < count_if p l → (a : A) × Memᴰ a l × (p a ≡ true)
  member-counted [] h = absurd (not-suc-le-zero (rw count-nil at h))
  member-counted (x ∷ l) h = go (member-counted l) (p x) refl (rw (count-cons x l) at h)
    where
      go : (0 < count_if p l → (a : A) × Memᴰ a l × (p a ≡ true)) → (b : Bool) → p x ≡ b → 0 < bit b + count_if p l
          → (a : A) × Memᴰ a (x ∷ l) × (p a ≡ true)
      go rest true e k = (x, Memᴰ.head refl, e)
      go rest false e k = let (a, m, t) = rest (omega arith) in (a, Memᴰ.tail m, t)

-- The values that pass are those of the members whose value passes.
pub count_map : {A B : Type 0} (p : B → Bool) (f : A → B) (l : List A) → count_if p (map f l) ≡ count_if (λ x. p (f x)) l
count_map p f [] = rw (count-nil p, count-nil (λ x. p (f x)))
count_map p f (x ∷ l) = rw (count-cons p (f x) (map f l), count-cons (λ y. p (f y)) x l, count_map p f l)

module _ {A : Type 0} where
  -- What stands at j is kept where it is copied to i.
  get_or-set-from : (l : List A) (i j : ℕ) (d : A) → get_or (set l i (get_or l j d)) j d ≡ get_or l j d
  get_or-set-from [] i j d = refl
  get_or-set-from (x ∷ l) zero zero d = refl
  get_or-set-from (x ∷ l) zero (suc j) d = refl
  get_or-set-from (x ∷ l) (suc i) zero d = refl
  get_or-set-from (x ∷ l) (suc i) (suc j) d = get_or-set-from l i j d

  -- A permutation keeps a member that a test tells from all others.
  pub permutation_keeps : (l m : List A) → Permutation l m → (is : A → Bool) (a : A) → is a ≡ true → ((b : A) → is b ≡ true → a ≡ b)
      → Memᴰ a l → Memᴰ a m
  permutation_keeps l m h is a here only i =
      let (b, n, t) = member-counted is m (rw (← h is) (count-member is l i here)) in
      Memᴰ.cast (only b t) n

  -- To put x at j, once what stood there has moved to i, is to permute what comes of putting x at i. If x stood at i, the two change places.
  pub permutation-move : (l : List A) (i j : ℕ) (x d : A) → i < length l → j < length l → Permutation (set (set l i (get_or l j d)) j x) (set l i x)
  permutation-move l i j x d h k p =
      let moved = count_set p l i (get_or l j d) d h in
      let after = count_set p (set l i (get_or l j d)) j x d (lt-length-set l i (get_or l j d) k) in
      omega (arith, rw (get_or-set-from l i j d) at after, count_set p l i x d h)

-- A permutation of numbers keeps its members.
pub permutation-mem : (l m : List ℕ) → Permutation l m → {a : ℕ} → Memᴰ a l → Memᴰ a m
permutation-mem l m h {a} = permutation_keeps l m h (eqb a) a (eq-eqb a a refl) (eqb-true a)
