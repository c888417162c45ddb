-- How long the lines are.
-- Assumes nothing.
use mathlib.Core.Path.{◌≡◌}
use mathlib.Core.List.{List}
use Prim.Native.Nat.{ℕ, ◌+◌}
use lib.ListN.{length, length-append}
use Rattle.bitset.specs.Members.{members}
use Rattle.node_set.specs.Width.{node_width}
use Rattle.text.specs.Text.{decimal, numbers, line_up_to, line_of, word_line}

-- A row's line has the two sets, three bytes between them and one at the end.
pub length-line : (c s : ℕ) → length (line_of c s) ≡ length (numbers (members 64 c)) + 3 + length (numbers (members node_width s)) + 1
unfolding line_up_to
length-line c s = simp length-append

-- A line of a word and a number has a byte between them and one at the end.
pub length-word : (t : List ℕ) (n : ℕ) → length (word_line t n) ≡ length t + 1 + length (decimal n) + 1
unfolding word_line
length-word t n = simp length-append
