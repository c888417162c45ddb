-- A whole list, made of the line of its count and the lines of its rows.
-- Assumes that there are at most `max_rows` rows, and `max_text` bytes for them.
use mathlib.Core.Path.{◌≡◌, sym, ◌∙◌}
use mathlib.Core.List.{List, ◌++◌}
use Prim.Native.Nat.{ℕ, ◌+◌, ◌≤◌, min}
use native.Mathlib.Decide.{dec_le}
use native.Mathlib.Omega.{arith}
use lib.ListN.{length, take, length-take}
use lib.Seq.{take_all}
use Rattle.text.specs.Text.{count_line, row_lines, list_text, max_rows, max_text}
use Rattle.text.specs.declared.Page.{Page}
use Rattle.text.specs.Written.{HasRoom, Appended, Printed}
use Rattle.text.proofs.Written.{appended-printed}
use Rattle.text.proofs.Bound.{text-bound}

-- The first n elements are all that there are of them.
take_min : (l : List ℕ) (n k : ℕ) → k ≡ min n (length l) → take k l ≡ take n l
take_min l n k e = go (dec_le n (length l))
  where
    go : Dec (n ≤ length l) → take k l ≡ take n l
    go (yes h) = let f : k ≡ n = omega arith in rw f
    go (no h) = take_all k l (omega arith) ∙ sym (take_all n l (omega arith))

-- With k rows, the fewer of n and all that there may be, the list of the first n is the line of the count k and the lines of k rows.
module _ (cuts sides : List ℕ) (n k : ℕ) (e : k ≡ min n max_rows) (c : length cuts ≡ max_rows) (s : length sides ≡ max_rows) where
  list-lines : list_text (take n cuts) (take n sides) ≡ count_line k ++ row_lines (take k cuts) (take k sides)
  unfolding list_text
  list-lines =
      let count : length (take n cuts) ≡ k = omega (arith, length-take n cuts) in
      rw (count, take_min cuts n k (omega arith), take_min sides n k (omega arith))

  -- A page of `max_text` bytes has room for them.
  pub room-list : {p : Page} → p.len + max_text ≤ length p.bytes.now → HasRoom p (count_line k ++ row_lines (take k cuts) (take k sides))
  room-list room =
      rw (← list-lines) (record { within = omega (arith, room, text-bound (take n cuts) (take n sides) (omega (arith, length-take n cuts))) })

  -- When they are written from the start on, the list is printed.
  pub list-printed : {p q : Page} → p.len ≡ 0 → p.len + max_text ≤ length p.bytes.now
      → Appended p (count_line k ++ row_lines (take k cuts) (take k sides)) q
      → Printed (list_text (take n cuts) (take n sides)) p.bytes.now q.bytes.now q.len
  list-printed start room w = rw list-lines (appended-printed start (room-list room) w)
