-- The text of a number, digit by digit, and of a list of numbers, number by number.
-- Assumes nothing.
use mathlib.Core.Path.{◌≡◌, refl, ap}
use mathlib.Core.List.{List, [], ◌∷◌, ◌++◌}
use Prim.Native.Nat.{ℕ, ◌+◌, ◌/◌, ◌%◌, ◌≤◌, ◌<◌}
use native.Mathlib.Omega.{arith}
use lib.ListN.{length, length-append}
use Rattle.bitset.specs.Members.{members}
use Rattle.text.specs.Ascii.{bytes}
use Rattle.text.specs.Text.{digit, decimal, spaced, numbers}
use Rattle.text.specs.declared.Page.{Page}
use Rattle.text.specs.Written.{Appended}
use Rattle.text.proofs.Decimal.{decimal-small, decimal-large}
use Rattle.text.proofs.Written.{Left, left-all, left-text}

-- Below 10 the one digit of a number is left to be written.
pub left-small : (p : Page) (n : ℕ) → n < 10 → Left p (decimal n) p (digit n ∷ [])
left-small p n h = rw (decimal-small n h) (left-all p (digit n ∷ []))

-- From 10 on the last digit is left, when the tenth is written.
pub left-large : {p q : Page} {n : ℕ} → 10 ≤ n → Appended p (decimal (n / 10)) q → Left p (decimal n) q (digit (n % 10) ∷ [])
left-large {p} {q} {n} h w = rw (decimal-large n h) (left-text (left-all p (decimal (n / 10) ++ digit (n % 10) ∷ [])) w)

-- No numbers, no text.
pub spaced-nil : spaced [] ≡ []
unfolding spaced
spaced-nil = refl

-- The first number comes after a space.
spaced-cons : {l m : List ℕ} {k : ℕ} → l ≡ k ∷ m → spaced l ≡ bytes " " ++ decimal k ++ spaced m
unfolding spaced
spaced-cons e = ap spaced e

-- The text's length is that of the first number and its space, and that of the others.
pub length-spaced : {l m : List ℕ} {k : ℕ} → l ≡ k ∷ m → length (spaced l) ≡ 1 + length (decimal k) + length (spaced m)
length-spaced {l} {m} {k} e = rw (spaced-cons e, length-append) (omega arith)

-- Of some numbers the first is left after its space, and then the others.
pub left-number : {p q : Page} {t l m : List ℕ} {k : ℕ} → l ≡ k ∷ m → Left p t q (spaced l) → Left p t q (bytes " " ++ decimal k ++ spaced m)
left-number e u = rw (spaced-cons e) at u

-- When no number is left, nothing is.
pub left-nothing : {p q : Page} {t l : List ℕ} → l ≡ [] → Left p t q (spaced l) → Left p t q []
left-nothing e u = rw (e, spaced-nil) at u

-- The text of no numbers is a hyphen.
pub numbers-nil : {l : List ℕ} → l ≡ [] → numbers l ≡ bytes "-"
unfolding numbers
numbers-nil e = ap numbers e

-- The text of some numbers is the first, and each further one after a space.
pub numbers-cons : {l m : List ℕ} {k : ℕ} → l ≡ k ∷ m → numbers l ≡ decimal k ++ spaced m
unfolding numbers
numbers-cons e = ap numbers e

-- The text's length is that of the first number, and that of the others.
pub length-numbers : {l m : List ℕ} {k : ℕ} → l ≡ k ∷ m → length (numbers l) ≡ length (decimal k) + length (spaced m)
length-numbers {l} {m} {k} e = rw (numbers-cons e) (length-append (decimal k) (spaced m))

-- Of a set without members a hyphen is left.
pub left-hyphen : {p : Page} {s left : ℕ} → left ≡ s → members 64 left ≡ [] → Left p (numbers (members 64 s)) p (bytes "-")
left-hyphen {p} same e = rw (← same, numbers-nil e) (left-all p (bytes "-"))

-- Of any other set the lowest member is left, and then the others.
pub left-lowest : {p : Page} {s left k : ℕ} {m : List ℕ} → left ≡ s → members 64 left ≡ k ∷ m
    → Left p (numbers (members 64 s)) p (decimal k ++ spaced m)
left-lowest {p} {k = k} {m} same e = rw (← same, numbers-cons e) (left-all p (decimal k ++ spaced m))
