-- Sums, how many members of a list pass a test, of how many numbers something holds, lists that differ in the order of their members
-- alone, and how often each number stands in a list.
-- To believe.
--
--   sum l                the sum of the numbers of l
--   sum_below n f        f 0 + f 1 + .. + f (n - 1)  [working]
--   bit b                1 if b holds, else 0  [working]
--   count_if p l         how many members of l pass the test p
--   Permutation l m      each test is passed by as many members of l as of m; so each member stands in both equally often  [working]
--   Exactly w P n        P holds of exactly n of the numbers below w
--   tally n l            for each number below n, how often it stands in l
use Rattle.std.specs.Prelude.{◌≡◌, Bool, true, false, ◌↔◌, ℕ, zero, suc, ◌+◌, ◌<◌, eqb, length}
use mathlib.Core.List.{List, [], ◌∷◌, Memᴰ}
use Rattle.sequences.specs.Rising.{Rising}
use Rattle.sequences.specs.Words.{tabulate}

unfoldable pub sum : List ℕ → ℕ
sum [] = 0
sum (x ∷ l) = x + sum l

unfoldable pub sum_below : ℕ → (ℕ → ℕ) → ℕ
sum_below zero f = 0
sum_below (suc n) f = f n + sum_below n f

abbrev pub bit : Bool → ℕ
bit true = 1
bit false = 0

module _ {A : Type 0} where
  unfoldable pub count_if : (A → Bool) → List A → ℕ
  count_if p [] = 0
  count_if p (x ∷ l) = elim (p x) [ true ↦ suc (count_if p l) | false ↦ count_if p l ]

  abbrev pub Permutation : List A → List A → Type 0
  Permutation l m = (p : A → Bool) → count_if p l ≡ count_if p m

-- They are the members of a list, each once, as many as it is long.
pub record Exactly (w : ℕ) (P : ℕ → Type 0) (n : ℕ) : Type 0 where
  pub list : List ℕ
  pub rising : Rising list
  pub members : (m : ℕ) → Memᴰ m list ↔ ((m < w) × P m)
  pub count : length list ≡ n

unfoldable pub tally : ℕ → List ℕ → List ℕ
tally n l = tabulate n (λ w. count_if (eqb w) l)
