-- No line is longer than `max_line` bytes, and no list longer than `max_text`.
-- Assumes nothing.
use mathlib.Core.Path.{refl}
use mathlib.Core.Bool.{Bool, true, false}
use mathlib.Core.List.{List, [], ◌∷◌}
use Prim.Native.Nat.{ℕ, zero, suc, ◌+◌, ◌*◌, ◌^◌, ◌≤◌, ◌<◌, zero-le}
use native.Mathlib.Nat.{le_refl}
use native.Mathlib.Omega.{arith}
use lib.Dec.{ltb}
use lib.ListN.{length, length-append}
use Rattle.bitset.specs.Members.{has, members_from, members}
use Rattle.node_set.specs.Width.{node_width}
use Rattle.text.specs.Ascii.{bytes}
use Rattle.text.specs.Text.{digits, decimal, spaced, numbers, line_of, word_line, row_lines, list_text, max_numbers, max_line, max_rows, max_text}
use Rattle.text.specs.declared.Page.{Page}
use Rattle.text.specs.Written.{HasRoom}
use Rattle.text.proofs.Decimal.{length-decimal}
use Rattle.text.proofs.NumberTexts.{spaced-nil, length-spaced, length-numbers, numbers-nil}
use Rattle.text.proofs.Lines.{length-line, length-word}

-- The bytes of the n numbers from k on, each after a space.
room : ℕ → ℕ → ℕ
room k zero = 0
room k (suc n) = 1 + length (decimal k) + room (suc k) n

-- No set of these numbers takes more bytes than all of them.
spaced-bound : (s k n : ℕ) → length (spaced (members_from s k n)) ≤ room k n
unfolding members_from room
spaced-bound s k zero = rw spaced-nil (le_refl 0)
spaced-bound s k (suc n) = go (ltb s (2 ^ k)) (has s k) (spaced-bound s (suc k) n)
  where
    go : (a b : Bool) → length (spaced (members_from s (suc k) n)) ≤ room (suc k) n
        → length (spaced (elim a [ true ↦ [] | false ↦ elim b [ true ↦ k ∷ members_from s (suc k) n | false ↦ members_from s (suc k) n ] ]))
        ≤ 1 + length (decimal k) + room (suc k) n
    go true b h = rw spaced-nil zero-le
    go false true h = omega (arith, length-spaced {l = k ∷ members_from s (suc k) n} refl)
    go false false h = omega arith

-- The text of a list has a byte less than each of its numbers after a space, and one byte if there are none.
numbers-bound : (l : List ℕ) (n : ℕ) → 1 ≤ n → length (spaced l) ≤ n + 1 → length (numbers l) ≤ n
numbers-bound [] n h m = rw (numbers-nil {l = []} refl) h
numbers-bound (k ∷ l) n h m = omega (arith, length-numbers {l = k ∷ l} refl, length-spaced {l = k ∷ l} refl)

-- All edges and all nodes make the longest line.
pub line-bound : (c s : ℕ) → length (line_of c s) ≤ max_line
unfolding room decimal digits
line-bound c s =
    omega (arith, length-line c s, numbers-bound (members 64 c) (max_numbers 64) (omega arith) (spaced-bound c 0 64), numbers-bound (members node_width s) (max_numbers node_width) (omega arith) (spaced-bound s 0 node_width))

-- A line of a short word and a number of 64 bits is far shorter.
pub word_bound : (t : List ℕ) (n : ℕ) → length t < 8 → n < 2 ^ 64 → length (word_line t n) ≤ 29
word_bound t n h l = omega (arith, length-word t n, length-decimal 19 n (omega arith))

-- So the lines of some rows have at most so many bytes each.
pub rows_bound : (cuts sides : List ℕ) → length (row_lines cuts sides) ≤ length cuts * max_line
unfolding row_lines
rows_bound [] sides = zero-le
rows_bound (c ∷ cuts) [] = zero-le
rows_bound (c ∷ cuts) (s ∷ sides) = rw length-append (omega (arith, line-bound c s, rows_bound cuts sides))

-- A list of at most `max_rows` rows fits into `max_text` bytes.
pub text-bound : (cuts sides : List ℕ) → length cuts ≤ max_rows → length (list_text cuts sides) ≤ max_text
unfolding list_text
text-bound cuts sides h =
    rw length-append (omega (arith, word_bound (bytes "cuts") (length cuts) (omega arith) (omega arith), rows_bound cuts sides))

-- A page of `max_text` bytes has room for it.
pub room-word : {p : Page} (t : List ℕ) (n : ℕ) → length t < 8 → n < 2 ^ 64 → p.len + max_text ≤ length p.bytes.now → HasRoom p (word_line t n)
room-word t n h l r = record { within = omega (arith, r, word_bound t n h l) }
