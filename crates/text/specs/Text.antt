-- What is printed of a list, as lists of bytes.
-- To believe.
--
--   digit d          the byte of the digit d
--   digits d n       the last d digits of n, without leading zeros
--   decimal n        the decimal digits of n, without leading zeros
--   spaced l         each number of l in decimal, after a space
--   numbers l        the numbers of l in decimal with single spaces between them; a hyphen if there are none
--   line_up_to most c s   the line of the cut c and its near side s, where so many points are the most: cables, space, bar, space, points
--   line_of c s      the same with the most that there may be
--   word_line word n  the line of a word, a space and the number n
--   count_line n     the line that says how many cuts there are: the word cuts and n
--   refusal_line n   the line that says why there is no list: the word refused and n
--   row_lines cuts sides    the lines of the rows, each cut beside its side, as far as there are both
--   list_text cuts sides    a whole list: the line of the count, then the lines of the rows
--   max_numbers w    how long the numbers below w can be, for 10 ≤ w ≤ 100  [working]
--   max_line         how long a row's line can be  [working]
--   max_rows         how many rows are printed
--   max_text         how long the text of so many rows can be  [working]
use Rattle.std.specs.Prelude.{true, false, List, [], ◌∷◌, ◌++◌, ℕ, zero, suc, ◌+◌, ◌-◌, ◌*◌, ◌/◌, ◌%◌, ltb, length}
use Prim.Native.Char.{code}
use Rattle.bitset.specs.Members.{members}
use Rattle.node_set.specs.Width.{node_width}
use Rattle.text.specs.Ascii.{bytes}

-- The byte of the digit d.
abbrev pub digit : ℕ → ℕ
digit d = code "0" + d

-- The last d digits of n, without leading zeros.
unfoldable pub digits : ℕ → ℕ → List ℕ
digits zero n = []
digits (suc d) n = elim (ltb n 10) [ true ↦ digit n ∷ [] | false ↦ digits d (n / 10) ++ digit (n % 10) ∷ [] ]

-- No number n has more than n + 1 digits.
unfoldable pub decimal : ℕ → List ℕ
decimal n = digits (suc n) n

-- Each number of the list after a space.
unfoldable pub spaced : List ℕ → List ℕ
spaced [] = []
spaced (k ∷ l) = bytes " " ++ decimal k ++ spaced l

unfoldable pub numbers : List ℕ → List ℕ
numbers [] = bytes "-"
numbers (k ∷ l) = decimal k ++ spaced l

-- There are at most 64 cables.
unfoldable pub line_up_to : ℕ → ℕ → ℕ → List ℕ
line_up_to most c s = numbers (members 64 c) ++ bytes " | " ++ numbers (members most s) ++ bytes "\n"

abbrev pub line_of : ℕ → ℕ → List ℕ
line_of = line_up_to node_width

-- A word, a space and a number.
unfoldable pub word_line : List ℕ → ℕ → List ℕ
word_line word n = word ++ bytes " " ++ decimal n ++ bytes "\n"

abbrev pub count_line : ℕ → List ℕ
count_line n = word_line (bytes "cuts") n

abbrev pub refusal_line : ℕ → List ℕ
refusal_line n = word_line (bytes "refused") n

unfoldable pub row_lines : List ℕ → List ℕ → List ℕ
row_lines [] sides = []
row_lines (c ∷ cuts) [] = []
row_lines (c ∷ cuts) (s ∷ sides) = line_of c s ++ row_lines cuts sides

unfoldable pub list_text : List ℕ → List ℕ → List ℕ
list_text cuts sides = count_line (length cuts) ++ row_lines cuts sides

-- All of them with single spaces between them: ten of one digit, the others of two.
abbrev pub max_numbers : ℕ → ℕ
max_numbers w = 3 * w - 11

-- All cables, all points, the bar with its spaces and the end of the line.
abbrev pub max_line : ℕ
max_line = max_numbers 64 + 3 + max_numbers node_width + 1

abbrev pub max_rows : ℕ
max_rows = 2048

-- So many lines of rows, and the line of the count, at most 29 bytes.
abbrev pub max_text : ℕ
max_text = max_rows * max_line + 29
