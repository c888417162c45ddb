-- Lists that are related place by place; and rising lists: an earlier place holds a smaller number, and two with the same members are equal;
-- so are rows that rise.
-- Assumes nothing.
use mathlib.Core.Path.{◌≡◌, refl, sym, ap, ap₂, ◌∙◌}
use mathlib.Core.Bool.{Bool, true, false}
use mathlib.Core.List.Memᴰ
use mathlib.Core.List.Pairwise
use mathlib.Core.List.{List, [], ◌∷◌, Pairwise, Pairwise-singleton, rel_of_Pairwise-cons, Memᴰ}
use mathlib.Core.Logic.Iff
use mathlib.Core.Logic.{◌⊎◌, inl, inr, ◌↔◌, ∥∥₁_elim}
use Prim.Native.Nat.{ℕ, zero, suc, ◌≤◌, ◌<◌}
use native.Mathlib.Nat.{not-suc-le-zero, le_of_suc-le-suc, lt_trans, lt_of_lt_of_le}
use native.Mathlib.Bridge.{le_prop}
use native.Mathlib.Omega.{arith}
use borrow.Author.Tests.{ltb-true, ltb-false}
use lib.Dec.{ltb}
use lib.ListN.{length, get_or}
use Rattle.sequences.specs.Rising.{Rising, RisingRows, placed, arranged}
use Rattle.sequences.specs.Words.{tabulate, onto}
use Rattle.sequences.proofs.Places.{mem-at, at_mem, mem-place, length-tabulate, get_or-tabulate}
use Rattle.sequences.proofs.Words.{get_or-onto}

-- Of two rising lists with the same members, the first numbers are equal.
first-same : (x y : ℕ) (l k : List ℕ) → Rising (x ∷ l) → Rising (y ∷ k) → ((c : ℕ) → Memᴰ c (x ∷ l) ↔ Memᴰ c (y ∷ k)) → x ≡ y
first-same x y l k p q same = go (Memᴰ.cases_cons ((same x).0 (Memᴰ.head refl))) (Memᴰ.cases_cons ((same y).1 (Memᴰ.head refl)))
  where
    go : (x ≡ y) ⊎ Memᴰ x k → (y ≡ x) ⊎ Memᴰ y l → x ≡ y
    go (inl e) n = e
    go (inr m) (inl e) = sym e
    go (inr m) (inr n) = absurd (omega (arith, rel_of_Pairwise-cons p ∣ n ∣₁, rel_of_Pairwise-cons q ∣ m ∣₁))

-- What stands after the first number of a rising list stands after an equal first number of a list with the same members.
rest-member : (x y c : ℕ) (l k : List ℕ) → x ≡ y → Rising (x ∷ l) → (Memᴰ c (x ∷ l) → Memᴰ c (y ∷ k)) → Memᴰ c l → Memᴰ c k
rest-member x y c l k first p to m =
    elim (Memᴰ.cases_cons (to (Memᴰ.tail m))) [
      | inl e ↦ absurd (omega (arith, rel_of_Pairwise-cons p ∣ m ∣₁))
      | inr n ↦ n
    ]

-- Two rising lists with the same members are equal.
pub rising-unique : (l k : List ℕ) → Rising l → Rising k → ((c : ℕ) → Memᴰ c l ↔ Memᴰ c k) → l ≡ k
rising-unique [] [] p q same = refl
rising-unique [] (y ∷ k) p q same = absurd (Memᴰ.not-nil ((same y).1 (Memᴰ.head refl)))
rising-unique (x ∷ l) [] p q same = absurd (Memᴰ.not-nil ((same x).0 (Memᴰ.head refl)))
rising-unique (x ∷ l) (y ∷ k) p q same =
    let e : x ≡ y = first-same x y l k p q same in
    ap₂ ◌∷◌ e (rising-unique l k (Pairwise.of_cons p) (Pairwise.of_cons q) (λ c.
    (rest-member x y c l k e p (same c).0, rest-member y x c k l (sym e) q (same c).1)))

-- In a rising list an earlier place holds a smaller number.
pub rising-places : (l : List ℕ) → Rising l → (i j : ℕ) → i < j → j < length l → get_or l i 0 < get_or l j 0
rising-places [] r i j h k = absurd (not-suc-le-zero k)
rising-places (x ∷ l) r i zero h k = absurd (not-suc-le-zero h)
rising-places (x ∷ l) r zero (suc j) h k = rel_of_Pairwise-cons r ∣ mem-at l j 0 (le_of_suc-le-suc k) ∣₁
rising-places (x ∷ l) r (suc i) (suc j) h k = rising-places l (Pairwise.of_cons r) i j (le_of_suc-le-suc h) (le_of_suc-le-suc k)

-- If what stands at each place is related to what stands at every later one, each number is related to all that come after it.
pub places-pairwise : (R : ℕ → ℕ → Type 0) → ((x y : ℕ) → IsProp (R x y)) → (l : List ℕ)
    → ((i j : ℕ) → i < j → j < length l → R (get_or l i 0) (get_or l j 0)) → Pairwise R l
places-pairwise R prop [] r = Pairwise.nil
places-pairwise R prop (x ∷ l) r =
    Pairwise.cons
    (λ y m. ∥∥₁_elim m (prop x y) (at_mem (R x) l (λ j h. r 0 (suc j) (omega arith) (omega arith))))
    (places-pairwise R prop l (λ i j h k. r (suc i) (suc j) (omega arith) (omega arith)))

-- A table of rising values rises, and its members are the values.
table-rises : (n : ℕ) (f : ℕ → ℕ) → ((i j : ℕ) → i < j → j < n → f i < f j) → Rising (tabulate n f)
table-rises n f rises = places-pairwise ◌<◌ (λ x y. le_prop) (tabulate n f) (λ i j h k.
    let l : j < n = rw (length-tabulate n f) at k in
    rw (get_or-tabulate n f i (lt_trans h l), get_or-tabulate n f j l) (rises i j h l))

mem-table : (n : ℕ) (f : ℕ → ℕ) (c : ℕ) → Memᴰ c (tabulate n f) ↔ ((i : ℕ) × (i < n) × (f i ≡ c))
mem-table n f c =
    let place = mem-place (tabulate n f) c in (
      λ m.
          let (i, h, e) = place.0 m in
          let l : i < n = rw (length-tabulate n f) at h in
          (i, l, sym (get_or-tabulate n f i l) ∙ e),
      λ (i, h, e). place.1 (i, rw (length-tabulate n f) h, get_or-tabulate n f i h ∙ e),
    )

-- Rising rows, n of f and m of g, in which the same numbers stand, are equally many and equal.
pub rows-unique : (f g : ℕ → ℕ) (n m : ℕ)
    → ((i j : ℕ) → i < j → j < n → f i < f j) → ((i j : ℕ) → i < j → j < m → g i < g j)
    → ((c : ℕ) → ((i : ℕ) × (i < n) × (f i ≡ c)) ↔ ((i : ℕ) × (i < m) × (g i ≡ c)))
    → (n ≡ m) × ((i : ℕ) → i < n → f i ≡ g i)
rows-unique f g n m rises rises' same =
    let e : tabulate n f ≡ tabulate m g = rising-unique (tabulate n f) (tabulate m g) (table-rises n f rises) (table-rises m g rises')
    (λ c. Iff.trans (mem-table n f c) (Iff.trans (same c) (Iff.symm (mem-table m g c)))) in
    let counts : n ≡ m = sym (length-tabulate n f) ∙ ap length e ∙ length-tabulate m g in
    (counts, λ i h. sym (get_or-tabulate n f i h) ∙ ap (λ (l : List ℕ). get_or l i 0) e ∙ get_or-tabulate m g i (rw counts at h))

-- A rising list of the numbers that have P, as rows.
pub rising-rows : (P : ℕ → Type 0) (l : List ℕ) → Rising l → ((x : ℕ) → Memᴰ x l ↔ P x) → RisingRows P (length l) l
rising-rows P l r same = record {
  rising = rising-places l r;
  members = λ x. Iff.trans (Iff.symm (mem-place l x)) (same x);
}

-- Written onto any rows it stays one.
pub rows-onto : (P : ℕ → Type 0) (l lent : List ℕ) → RisingRows P (length l) l → RisingRows P (length l) (onto l lent)
rows-onto P l lent whole =
    let row : (i : ℕ) → i < length l → get_or (onto l lent) i 0 ≡ get_or l i 0 = get_or-onto l lent in record {
      rising = λ i j h m. rw (row i (lt_trans h m), row j m) (whole.rising i j h m);
      members = λ x. Iff.trans (
        λ p. (p.0, p.1, sym (row p.0 p.1) ∙ p.2),
        λ p. (p.0, p.1, row p.0 p.1 ∙ p.2),
      )
          (whole.members x);
    }

-- ---- numbers in rising order

-- What is put at its place comes to the members.
in-placed : (x : ℕ) (l : List ℕ) (a : ℕ) → Memᴰ a (placed x l) ↔ ((a ≡ x) ⊎ Memᴰ a l)
unfolding placed
in-placed x [] a = (Memᴰ.cases_cons, λ c. elim c [ inl e ↦ Memᴰ.head e | inr m ↦ Memᴰ.tail m ])
in-placed x (y ∷ l) a = go (ltb y x) refl (ltb x y) refl (in-placed x l a)
  where
    go : (b : Bool) → ltb y x ≡ b → (d : Bool) → ltb x y ≡ d → Memᴰ a (placed x l) ↔ ((a ≡ x) ⊎ Memᴰ a l)
        → Memᴰ a (elim b [ true ↦ y ∷ placed x l | false ↦ elim d [ true ↦ x ∷ y ∷ l | false ↦ y ∷ l ] ]) ↔ ((a ≡ x) ⊎ Memᴰ a (y ∷ l))
    go true p d q rest = (
      λ m. elim (Memᴰ.cases_cons m) [
        | inl e ↦ inr (Memᴰ.head e)
        | inr n ↦ elim (rest.0 n) [ inl e ↦ inl e | inr i ↦ inr (Memᴰ.tail i) ]
      ],
      λ c. elim c [
        | inl e ↦ Memᴰ.tail (rest.1 (inl e))
        | inr m ↦ elim (Memᴰ.cases_cons m) [ inl e ↦ Memᴰ.head e | inr i ↦ Memᴰ.tail (rest.1 (inr i)) ]
      ],
    )
    go false p true q rest = (Memᴰ.cases_cons, λ c. elim c [ inl e ↦ Memᴰ.head e | inr m ↦ Memᴰ.tail m ])
    go false p false q rest =
        let same : x ≡ y = omega (arith, ltb-false y x p, ltb-false x y q) in
        (λ m. inr m, λ c. elim c [ inl e ↦ Memᴰ.head (e ∙ same) | inr m ↦ m ])

-- A rising list still rises with it.
placed-rising : (x : ℕ) (l : List ℕ) → Rising l → Rising (placed x l)
unfolding placed
placed-rising x [] r = Pairwise-singleton ◌<◌ x
placed-rising x (y ∷ l) r = go (ltb y x) refl (ltb x y) refl (placed-rising x l (Pairwise.of_cons r))
  where
    above : (a : ℕ) → Memᴰ a l → y < a
    above a m = rel_of_Pairwise-cons r ∣ m ∣₁

    from : (a : ℕ) → Memᴰ a (y ∷ l) → y ≤ a
    from a m = elim (Memᴰ.cases_cons m) [ inl e ↦ omega arith | inr i ↦ omega (arith, above a i) ]

    after : y < x → (a : ℕ) → Memᴰ a (placed x l) → y < a
    after h a m = elim ((in-placed x l a).0 m) [ inl e ↦ omega arith | inr i ↦ above a i ]

    go : (b : Bool) → ltb y x ≡ b → (d : Bool) → ltb x y ≡ d → Rising (placed x l)
        → Rising (elim b [ true ↦ y ∷ placed x l | false ↦ elim d [ true ↦ x ∷ y ∷ l | false ↦ y ∷ l ] ])
    go true p d q rest = Pairwise.cons (λ a m. ∥∥₁_elim m le_prop (after (ltb-true y x p) a)) rest
    go false p true q rest = Pairwise.cons (λ a m. ∥∥₁_elim m le_prop (λ n. lt_of_lt_of_le (ltb-true x y q) (from a n))) r
    go false p false q rest = r

-- The numbers in rising order are the numbers.
pub in-arranged : (l : List ℕ) (a : ℕ) → Memᴰ a (arranged l) ↔ Memᴰ a l
unfolding arranged
in-arranged [] a = (λ m. m, λ m. m)
in-arranged (x ∷ l) a = (
  λ m. elim ((in-placed x (arranged l) a).0 m) [ inl e ↦ Memᴰ.head e | inr i ↦ Memᴰ.tail ((in-arranged l a).0 i) ],
  λ m. (in-placed x (arranged l) a).1 (elim (Memᴰ.cases_cons m) [ inl e ↦ inl e | inr i ↦ inr ((in-arranged l a).1 i) ]),
)

-- They rise.
pub arranged-rising : (l : List ℕ) → Rising (arranged l)
unfolding arranged
arranged-rising [] = Pairwise.nil
arranged-rising (x ∷ l) = placed-rising x (arranged l) (arranged-rising l)

-- So they are any rising list of the same numbers.
pub arranged-unique : (l k : List ℕ) → Rising k → ((a : ℕ) → Memᴰ a k ↔ Memᴰ a l) → arranged l ≡ k
arranged-unique l k r same = rising-unique (arranged l) k (arranged-rising l) r (λ a. Iff.trans (in-arranged l a) (Iff.symm (same a)))
