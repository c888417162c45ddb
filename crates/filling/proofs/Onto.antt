-- A list written onto the first of the lent rows.
-- Assumes that there are enough rows.
use mathlib.Core.Path.{◌≡◌, sym, ap, ◌∙◌}
use mathlib.Core.List.{List, ◌++◌, append_assoc}
use Prim.Native.Nat.{ℕ, ◌≤◌}
use native.Mathlib.Nat.{zero-add}
use native.Mathlib.Omega.{arith}
use lib.ListN.{length, take, drop}
use lib.Seq.{sets, sets-eq, take_at, length-take-le}
use Rattle.sequences.specs.Words.{onto}

-- To store a list from the first row on is to write it onto the rows.
pub sets-onto : (l lent : List ℕ) → length l ≤ length lent → sets lent 0 l ≡ onto l lent
sets-onto l lent fits = sets-eq l lent 0 (rw (zero-add (length l)) fits) ∙ ap (λ (n : ℕ). l ++ drop n lent) (zero-add (length l))

-- A list that was stored into the first m rows, lent on alone, stands in front of all rows; copied from there it is written onto others.
pub kept-onto : (l lent others : List ℕ) (n m : ℕ) → n ≡ length l → n ≤ m → m ≤ length lent → {now copied : List ℕ}
    → now ≡ sets (take m lent) 0 l → copied ≡ take n (now ++ drop m lent) → copied ++ drop n others ≡ onto l others
kept-onto l lent others n m count h k {now} {copied} stored copy =
    let room : length (take m lent) ≡ m = length-take-le m lent k in
    let fits : length l ≤ length (take m lent) = omega arith in
    let front : copied ≡ l = copy ∙ rw (stored ∙ sets-onto l (take m lent) fits, append_assoc) (take_at l _ n (sym count)) in
    ap (λ (x : List ℕ). x ++ drop n others) front ∙ ap (λ (i : ℕ). l ++ drop i others) count
