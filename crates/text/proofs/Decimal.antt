-- The digits of a number: one alone below 10, and otherwise those of its tenth and one more; and how many there are.
-- Assumes nothing.
use mathlib.Core.Path.{◌≡◌, refl}
use mathlib.Core.Bool.{Bool, true, false}
use mathlib.Core.List.{[], ◌∷◌, ◌++◌}
use Prim.Native.Nat.{ℕ, zero, suc, ◌/◌, ◌%◌, ◌^◌, ◌≤◌, ◌<◌}
use native.Mathlib.Nat.{le_refl, not-suc-le-zero, pow-suc}
use native.Mathlib.Omega.{arith}
use borrow.Author.Tests.{ltb-true, ltb-false, lt-ltb, le-ltb}
use lib.Dec.{ltb}
use lib.ListN.{length, length-append}
use Rattle.text.specs.Text.{digit, digits, decimal}

-- Below 10 there is one digit.
digits-small : (d n : ℕ) → n < 10 → digits (suc d) n ≡ digit n ∷ []
unfolding digits
digits-small d n h = rw (lt-ltb n 10 h, digits)

-- From 10 on the last digit comes after those of the tenth.
digits-large : (d n : ℕ) → 10 ≤ n → digits (suc d) n ≡ digits d (n / 10) ++ digit (n % 10) ∷ []
unfolding digits
digits-large d n h = rw (le-ltb n 10 h, digits)

-- Of more digits than a number has, it does not matter how many are asked for.
digits-enough : (d e n : ℕ) → n < d → n < e → digits d n ≡ digits e n
digits-enough zero e n h l = absurd (not-suc-le-zero h)
digits-enough (suc d) zero n h l = absurd (not-suc-le-zero l)
digits-enough (suc d) (suc e) n h l = go (λ m. digits-enough d e (n / 10) (omega arith) (omega arith)) (ltb n 10) refl
  where
    go : (10 ≤ n → digits d (n / 10) ≡ digits e (n / 10)) → (b : Bool) → ltb n 10 ≡ b → digits (suc d) n ≡ digits (suc e) n
    go tenth true q = rw (digits-small d n (ltb-true n 10 q), digits-small e n (ltb-true n 10 q))
    go tenth false q =
        let m : 10 ≤ n = ltb-false n 10 q in
        rw (digits-large d n m, digits-large e n m, tenth m)

-- Below 10 a number is its one digit.
pub decimal-small : (n : ℕ) → n < 10 → decimal n ≡ digit n ∷ []
unfolding decimal
decimal-small n h = digits-small n n h

-- From 10 on a number is its tenth and one more digit.
pub decimal-large : (n : ℕ) → 10 ≤ n → decimal n ≡ decimal (n / 10) ++ digit (n % 10) ∷ []
unfolding decimal
decimal-large n h = rw (digits-large n n h, digits-enough n (suc (n / 10)) (n / 10) (omega arith) (omega arith))

-- Below 100 there are two digits.
pub decimal-two : (n : ℕ) → 10 ≤ n → n < 100 → decimal n ≡ digit (n / 10) ∷ digit (n % 10) ∷ []
decimal-two n h k = rw (decimal-large n h, decimal-small (n / 10) (omega arith))

-- A number below 10 ^ d has at most d digits, if d is not 0.
pub length-decimal : (d n : ℕ) → n < 10 ^ suc d → length (decimal n) ≤ suc d
length-decimal zero n h = rw (decimal-small n h) (le_refl 1)
length-decimal (suc d) n h = go (λ m. length-decimal d (n / 10) (omega (arith, pow-suc 10 (suc d)))) (ltb n 10) refl
  where
    go : (10 ≤ n → length (decimal (n / 10)) ≤ suc d) → (b : Bool) → ltb n 10 ≡ b → length (decimal n) ≤ suc (suc d)
    go tenth true q = rw (decimal-small n (ltb-true n 10 q)) (omega arith)
    go tenth false q =
        let m : 10 ≤ n = ltb-false n 10 q in
        rw (decimal-large n m, length-append) (omega (arith, tenth m))
