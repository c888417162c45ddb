-- Lists of numbers in rising order.
-- To believe.
--
--   Rising l         every number of l is below all that come after it
--   RisingRows P n rows  the first n rows are the numbers that have P, rising
--   placed x l       a rising list l with the number x at its place  [computed: in-arranged, arranged-rising (sequences/proofs/Rising)]
--   arranged l       the numbers of l in rising order, each once  [computed: in-arranged, arranged-rising (sequences/proofs/Rising)]
use Rattle.std.specs.Prelude.{true, false, ◌↔◌, ◌≡◌, ℕ, ◌<◌, ltb, get_or}
use mathlib.Core.List.{List, [], ◌∷◌, Pairwise}

abbrev pub Rising : List ℕ → Type 0
Rising = Pairwise ◌<◌

pub record RisingRows (P : ℕ → Type 0) (n : ℕ) (rows : List ℕ) : Type 0 where
  pub rising : (i j : ℕ) → i < j → j < n → get_or rows i 0 < get_or rows j 0
  pub members : (x : ℕ) → ((i : ℕ) × (i < n) × (get_or rows i 0 ≡ x)) ↔ P x

-- Before the first number that is not below it, unless that is the same number.
unfoldable pub placed : ℕ → List ℕ → List ℕ
placed x [] = x ∷ []
placed x (y ∷ l) = elim (ltb y x) [ true ↦ y ∷ placed x l | false ↦ elim (ltb x y) [ true ↦ x ∷ y ∷ l | false ↦ y ∷ l ] ]

unfoldable pub arranged : List ℕ → List ℕ
arranged [] = []
arranged (x ∷ l) = placed x (arranged l)
