-- The laws of lists made from lists.
-- Assumes nothing.
use mathlib.Core.Path.{◌≡◌, refl, ap, ◌∙◌}
use mathlib.Core.Bool.{Bool, true, false}
use mathlib.Core.List.Memᴰ
use mathlib.Core.List.Pairwise
use mathlib.Core.List.{List, [], ◌∷◌, Pairwise-cons, Mem, Memᴰ}
use mathlib.Core.Logic.{inl, inr, ◌↔◌, ∥∥₁_elim}
use Prim.Native.Nat.{ℕ, ◌≤◌, ◌<◌}
use native.Mathlib.Bridge.{le_prop}
use native.Mathlib.Omega.{arith}
use denote.Floats.{passes}
use lib.Dec.{T}
use lib.ListN.{length, get_or, drop, get_or-append, length-append, length-drop}
use lib.Seq.{drop_at}
use Rattle.sequences.specs.Rising.{Rising}
use Rattle.sequences.specs.Words.{every, passing, onto}
use Rattle.sequences.proofs.Tests.{T-then}

-- A test of every member of a list holds exactly if it holds of each.
pub T-every : {A : Type 0} (f : A → Bool) (l : List A) → T (every f l) ↔ ((k : A) → Memᴰ k l → T (f k))
unfolding every
T-every f [] = (λ t k m. absurd (Memᴰ.not-nil m), λ all. tt)
T-every f (j ∷ l) = (
  λ t k m.
      let p = (T-then (f j) (every f l)).0 t in
      elim (Memᴰ.cases_cons m) [ inl e ↦ rw e p.0 | inr n ↦ (T-every f l).0 p.1 k n ],
  λ all. (T-then (f j) (every f l)).1 (all j (Memᴰ.head refl), (T-every f l).1 (λ k m. all k (Memᴰ.tail m))),
)

-- ---- the numbers that pass a test

module _ (f : ℕ → Bool) where
  -- A number is among those that pass exactly if it is in the list and passes.
  pub mem-passing : (l : List ℕ) (c : ℕ) → Memᴰ c (passing f l) ↔ (Memᴰ c l × T (f c))
  unfolding passing
  mem-passing [] c = (λ m. absurd (Memᴰ.not-nil m), λ p. absurd (Memᴰ.not-nil p.0))
  mem-passing (x ∷ l) c = go (f x) refl (mem-passing l c)
    where
      go : (b : Bool) → f x ≡ b → Memᴰ c (passing f l) ↔ (Memᴰ c l × T (f c))
          → Memᴰ c (elim b [ true ↦ x ∷ passing f l | false ↦ passing f l ]) ↔ (Memᴰ c (x ∷ l) × T (f c))
      go true e rest = (
        λ m. elim (Memᴰ.cases_cons m) [
          | inl q ↦ (Memᴰ.head q, rw q (passes (f x) e))
          | inr n ↦ let p = rest.0 n in (Memᴰ.tail p.0, p.1)
        ],
        λ p. elim (Memᴰ.cases_cons p.0) [ inl q ↦ Memᴰ.head q | inr n ↦ Memᴰ.tail (rest.1 (n, p.1)) ],
      )
      go false e rest = (
        λ m. let p = rest.0 m in (Memᴰ.tail p.0, p.1),
        λ p. elim (Memᴰ.cases_cons p.0) [ inl q ↦ absurd (rw (q, e) at p.1) | inr n ↦ rest.1 (n, p.1) ],
      )

  -- Of a rising list, the numbers that pass rise.
  pub passing-rising : (l : List ℕ) → Rising l → Rising (passing f l)
  unfolding passing
  passing-rising [] r = Pairwise.nil
  passing-rising (x ∷ l) r = go (f x) (passing-rising l (Pairwise-cons.0 r).1)
    where
      above : (y : ℕ) → Mem y (passing f l) → x < y
      above y m = ∥∥₁_elim m le_prop (λ n. (Pairwise-cons.0 r).0 y ∣ ((mem-passing l y).0 n).0 ∣₁)

      go : (b : Bool) → Rising (passing f l) → Rising (elim b [ true ↦ x ∷ passing f l | false ↦ passing f l ])
      go true rest = Pairwise.cons above rest
      go false rest = rest

-- ---- a list written onto rows

-- Below the length of a list that was written onto lent rows stands what stands in the list.
pub get_or-onto : (l lent : List ℕ) (i : ℕ) → i < length l → get_or (onto l lent) i 0 ≡ get_or l i 0
get_or-onto l lent i h = get_or-append l (drop (length l) lent) 0 i h

-- Past it stands what stood there.
pub drop-onto : (l lent : List ℕ) (n : ℕ) → length l ≡ n → drop n (onto l lent) ≡ drop n lent
drop-onto l lent n count = drop_at l (drop (length l) lent) n count ∙ ap (λ (m : ℕ). drop m lent) count

-- Where it fits, there are as many rows as before.
pub length-onto : (l lent : List ℕ) → length l ≤ length lent → length (onto l lent) ≡ length lent
length-onto l lent fits = omega (arith, length-append l (drop (length l) lent), length-drop (length l) lent)
