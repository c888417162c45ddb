-- What the members of a set are, after each operation on the number that holds it; and that a set is no more than its members.
-- Assumes nothing.
use mathlib.Core.Path.{◌≡◌, refl, sym, ◌∙◌}
use mathlib.Core.Bool.{Bool, true, false, not, xor, ◌&&◌, ◌||◌, and_comm, and_self_left, and-true, and-false, or-true, or-false}
use Prim.Native.Nat.{ℕ, zero, suc, ◌+◌, ◌-◌, ◌/◌, ◌%◌, ◌^◌, ◌≤◌, ◌<◌}
use native.Mathlib.Nat.{div-one, zero-div, div-eq_of_lt, le_of_suc-le-suc, not-suc-le-zero, lt_of_lt_of_le, mod-lt, pow-suc, zero-lt-suc, mul-mod_left, mul-div_cancel, zero-sub, sub-zero}
use native.Mathlib.Numerals.{one-add}
use native.Mathlib.Omega.{arith}
use borrow.Author.Tests.{eq-eqb, eqb-true, lt-ltb}
use lib.Arith.{lt-one}
use lib.Dec.{eqb, ltb, eqb-zero-suc, eqb-suc-zero, eqb-suc-suc, leb-suc-zero, leb-suc-suc}
use lib.Pow.{pow-lt, pow_mono, pow_pos, shr-shr}
use lib.Bits.{bit_and, bit_or, bit_xor, and_shr, or_shr, xor_shr, and_mod, or_mod, xor_mod, and_mask, xor_add_and, or_disjoint, or_lt}
use Rattle.sequences.specs.Counts.{bit}
use Rattle.bitset.specs.Members.{has, insert, ◌∖◌}

-- A law of 0 and of 1 is a law of every digit.
on-digits : (P : ℕ → Type 0) → P 0 → P 1 → (x : ℕ) → x < 2 → P x
on-digits P p q zero h = p
on-digits P p q (suc zero) h = q
on-digits P p q (suc (suc x)) h = absurd (not-suc-le-zero (le_of_suc-le-suc (le_of_suc-le-suc h)))

-- The number 0 is a member exactly if the lowest digit is 1.
pub has_first : (s : ℕ) → has s 0 ≡ eqb (s % 2) 1
unfolding has
has_first s = rw div-one

-- The lowest digit counts the member 0.
pub first-digit : (s : ℕ) → s % 2 ≡ bit (has s 0)
first-digit s = rw (has_first s) (on-digits (λ x. x ≡ bit (eqb x 1)) refl refl (s % 2) (mod-lt s (zero-lt-suc 1)))

-- The members past 0 are those of the half, each one further up.
pub has-next : (s k : ℕ) → has s (suc k) ≡ has (s / 2) k
unfolding has
has-next s k = rw (shr-shr s 1 k, one-add)

-- A set below 2 ^ w has no member at or past w.
pub has-bounded : (w : ℕ) {s : ℕ} → s < 2 ^ w → (k : ℕ) → w ≤ k → has s k ≡ false
unfolding has
has-bounded w h k l = rw (div-eq_of_lt (lt_of_lt_of_le h (pow_mono l)))

-- Two sets below 2 ^ w with the same members below w are equal.
pub same-members-below : (w : ℕ) {s t : ℕ} → s < 2 ^ w → t < 2 ^ w → ((k : ℕ) → k < w → has s k ≡ has t k) → s ≡ t
same-members-below zero h l same = lt-one h ∙ sym (lt-one l)
same-members-below (suc w) {s} {t} h l same =
    let digit : s % 2 ≡ t % 2 = rw (first-digit s, first-digit t, same 0 (zero-lt-suc w)) in
    let half : s / 2 ≡ t / 2 =
    same-members-below w (omega (arith, pow-suc 2 w)) (omega (arith, pow-suc 2 w))
    (λ k m. rw (← has-next s k, ← has-next t k) (same (suc k) (omega arith))) in
    omega arith

-- Every number is below the power of two that it names.
pub lt-pow : (n : ℕ) → n < 2 ^ n
lt-pow zero = zero-lt-suc 0
lt-pow (suc n) = omega (arith, pow-suc 2 n, lt-pow n)

-- Two sets with the same members are equal.
pub same-members : (s t : ℕ) → ((k : ℕ) → has s k ≡ has t k) → s ≡ t
same-members s t same =
    same-members-below (s + t) (lt_of_lt_of_le (lt-pow s) (pow_mono (omega arith))) (lt_of_lt_of_le (lt-pow t) (pow_mono (omega arith))) (λ k l. same k)

-- The empty set has no member.
pub has-zero : (k : ℕ) → has 0 k ≡ false
unfolding has
has-zero k = rw (zero-div (2 ^ k))

-- The power 2 ^ k is the set of k alone.
pub has-power : (k j : ℕ) → has (2 ^ k) j ≡ eqb j k
has-power zero zero = has_first 1
has-power zero (suc j) = rw (has-next 1 j, has-zero j, eqb-suc-zero j)
has-power (suc k) zero = rw (has_first (2 ^ suc k), pow-suc 2 k, mul-mod_left (2 ^ k) 2, eqb-zero-suc k)
has-power (suc k) (suc j) =
    rw (has-next (2 ^ suc k) j, pow-suc 2 k, mul-div_cancel (2 ^ k) (zero-lt-suc 1), has-power k j, eqb-suc-suc j k)

-- An operation on numbers that works digit by digit, and at digits is f, is f on members.
module _ (op : ℕ → ℕ → ℕ) (f : Bool → Bool → Bool)
    (shr : (a b k : ℕ) → op a b / 2 ^ k ≡ op (a / 2 ^ k) (b / 2 ^ k))
    (low : (a b k : ℕ) → op a b % 2 ^ k ≡ op (a % 2 ^ k) (b % 2 ^ k))
    (at : (x : ℕ) → x < 2 → (y : ℕ) → y < 2 → eqb (op x y) 1 ≡ f (eqb x 1) (eqb y 1)) where
  has-op : (s t k : ℕ) → has (op s t) k ≡ f (has s k) (has t k)
  unfolding has
  has-op s t k =
      rw (shr s t k, low (s / 2 ^ k) (t / 2 ^ k) 1)
      (at (s / 2 ^ k % 2) (mod-lt (s / 2 ^ k) (zero-lt-suc 1)) (t / 2 ^ k % 2) (mod-lt (t / 2 ^ k) (zero-lt-suc 1)))

-- The members of both.
pub has-and : (s t k : ℕ) → has (bit_and s t) k ≡ has s k && has t k
has-and = has-op bit_and ◌&&◌ and_shr and_mod
    (on-digits _ (λ y h. refl) (on-digits _ refl refl))

-- The members of either.
pub has-or : (s t k : ℕ) → has (bit_or s t) k ≡ has s k || has t k
has-or = has-op bit_or ◌||◌ or_shr or_mod (on-digits _ (on-digits _ refl refl) (on-digits _ refl refl))

-- The members of exactly one.
pub has-xor : (s t k : ℕ) → has (bit_xor s t) k ≡ xor (has s k) (has t k)
unfolding xor
has-xor = has-op bit_xor xor xor_shr xor_mod (on-digits _ (on-digits _ refl refl) (on-digits _ refl refl))

-- To take off the common members is to work digit by digit.
minus-xor : (s t : ℕ) → s ∖ t ≡ bit_xor s (bit_and s t)
unfolding ◌∖◌
minus-xor s t =
    let common : bit_and s (bit_and s t) ≡ bit_and s t =
    same-members (bit_and s (bit_and s t)) (bit_and s t)
    (λ k. rw (has-and s (bit_and s t) k, has-and s t k) (and_self_left (has s k) (has t k))) in
    omega (arith, xor_add_and s (bit_and s t))

-- Of two tests, the first alone holds exactly if just one of it and of both does.
xor-and : (a b : Bool) → xor a (a && b) ≡ a && not b
unfolding xor
xor-and true true = refl
xor-and true false = refl
xor-and false b = refl

-- The members that t lacks.
pub has-minus : (s t k : ℕ) → has (s ∖ t) k ≡ has s k && not (has t k)
has-minus s t k = rw (minus-xor s t, has-xor s (bit_and s t) k, has-and s t k) (xor-and (has s k) (has t k))

-- To show a statement of the test that j is k, show it of true, where j is k, and of false.
pub eqb-cases : (j k : ℕ) (P : Bool → Type 0) → (j ≡ k → P true) → P false → P (eqb j k)
eqb-cases j k P same other = go (eqb j k) refl
  where
    go : (b : Bool) → eqb j k ≡ b → P b
    go true e = same (eqb-true j k e)
    go false e = other

-- To insert k is to join the set of k alone.
pub insert-or : (s k : ℕ) → insert s k ≡ bit_or s (2 ^ k)
unfolding insert
insert-or s k = go (has s k) refl
  where
    go : (b : Bool) → has s k ≡ b → elim b [ true ↦ s | false ↦ s + 2 ^ k ] ≡ bit_or s (2 ^ k)
    go true e =
        same-members s (bit_or s (2 ^ k)) (λ j.
        rw (has-or s (2 ^ k) j, has-power k j)
        (eqb-cases j k (λ b. has s j ≡ has s j || b) (λ q. rw (q, e)) (sym (or-false (has s j)))))
    go false e =
        sym (or_disjoint s (2 ^ k) (same-members (bit_and s (2 ^ k)) 0 (λ j.
        rw (has-and s (2 ^ k) j, has-power k j, has-zero j)
        (eqb-cases j k (λ b. has s j && b ≡ false) (λ q. rw (q, e)) (and-false (has s j))))))

-- The members after an insertion.
pub has-insert : (s k j : ℕ) → has (insert s k) j ≡ has s j || eqb j k
has-insert s k j = rw (insert-or s k, has-or s (2 ^ k) j, has-power k j)

-- What was inserted is a member.
pub has-inserted : (s k : ℕ) → has (insert s k) k ≡ true
has-inserted s k = rw (has-insert s k k, eq-eqb k k refl) (or-true (has s k))

-- An insertion below the width stays within it.
pub insert-lt : (w : ℕ) {s k : ℕ} → s < 2 ^ w → k < w → insert s k < 2 ^ w
insert-lt w {s} {k} h l = rw (insert-or s k) (or_lt w s (2 ^ k) h (pow-lt l))

-- The complement within w has the members below w that s lacks.
pub has-complement : (w : ℕ) {s : ℕ} → s < 2 ^ w → (j : ℕ) → has ((2 ^ w - 1) - s) j ≡ ltb j w && not (has s j)
has-complement zero {s} h j = rw (zero-sub s, has-zero j, leb-suc-zero j)
has-complement (suc w) {s} h zero =
    let flip : ((2 ^ suc w - 1) - s) % 2 ≡ 1 - s % 2 = omega (arith, pow-suc 2 w) in
    rw (has_first ((2 ^ suc w - 1) - s), has_first s, flip, lt-ltb 0 (suc w) (zero-lt-suc w))
    (on-digits (λ x. eqb (1 - x) 1 ≡ not (eqb x 1)) refl refl (s % 2) (mod-lt s (zero-lt-suc 1)))
has-complement (suc w) {s} h (suc j) =
    let half : ((2 ^ suc w - 1) - s) / 2 ≡ (2 ^ w - 1) - s / 2 = omega (arith, pow-suc 2 w) in
    rw (has-next ((2 ^ suc w - 1) - s) j, has-next s j, half, leb-suc-suc (suc j) w)
    (has-complement w (omega (arith, pow-suc 2 w)) j)

-- The members of 2 ^ n - 1 are all numbers below n.
pub has-ones : (n j : ℕ) → has (2 ^ n - 1) j ≡ ltb j n
has-ones n j =
    rw (← sub-zero (2 ^ n - 1), has-complement n (pow_pos n) j, has-zero j, and-true (ltb j n))

-- The lowest w digits hold the members below w.
pub has-mod : (w s j : ℕ) → has (s % 2 ^ w) j ≡ ltb j w && has s j
has-mod w s j = rw (← and_mask s w, has-and s (2 ^ w - 1) j, has-ones w j, and_comm (has s j))
