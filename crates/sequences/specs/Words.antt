-- Lists made from lists or from a function, and a test of all members.
-- To believe.
--
--   range k n        the n numbers from k on
--   tabulate n f     f 0, f 1, .., f (n - 1)
--   every f l        the test f holds of every member of l  [computed: T-every (sequences/proofs/Words)]
--   passing f l      the numbers of l that pass the test f, in their order
--                    [computed: mem-passing, passing-rising (sequences/proofs/Words)]
--   onto l lent      lent rows or bytes after l was written onto the first of them
use Rattle.std.specs.Prelude.{Bool, true, false, List, [], ◌∷◌, ◌++◌, ℕ, zero, suc, length, drop}

unfoldable pub range : ℕ → ℕ → List ℕ
range k zero = []
range k (suc n) = k ∷ range (suc k) n

unfoldable pub tabulate : ℕ → (ℕ → ℕ) → List ℕ
tabulate zero f = []
tabulate (suc n) f = f 0 ∷ tabulate n (λ k. f (suc k))

unfoldable pub every : {A : Type 0} → (A → Bool) → List A → Bool
every f [] = true
every f (k ∷ l) = elim (f k) [ true ↦ every f l | false ↦ false ]

unfoldable pub passing : (ℕ → Bool) → List ℕ → List ℕ
passing f [] = []
passing f (x ∷ l) = elim (f x) [ true ↦ x ∷ passing f l | false ↦ passing f l ]

abbrev pub onto : List ℕ → List ℕ → List ℕ
onto l lent = l ++ drop (length l) lent
