-- Lists of sets of which none holds another: what a list holds, its unions with another list, and the list tidied up. (In 000's words the
-- lists joined are the product, and the lists united the sum.)
-- To believe.
--
--   HoldsOne l h         some set of the list l lies inside h
--   inside s t           whether the set s lies inside t  [computed: inside-iff (clutters/proofs/Clutters)]
--   alone l s            whether no other set of l lies inside s  [computed: in-tidy (clutters/proofs/Clutters)]
--   tidy l               the sets of l that hold no other of them, rising, each once  [computed: in-tidy, tidy-rising (clutters/proofs/Clutters)]
--   unions l m           the unions of one set of l and one of m  [computed: in-unions (clutters/proofs/Clutters)]
use Rattle.std.specs.Prelude.{Bool, not, ◌||◌, ℕ, eqb}
use mathlib.Core.List.{List, [], ◌∷◌, ◌++◌, map, Memᴰ}
use Rattle.std.specs.Int.Bits.{bit_and, bit_or}
use Rattle.sequences.specs.Rising.{arranged}
use Rattle.sequences.specs.Words.{every, passing}
use Rattle.bitset.specs.Families.{Holds}

abbrev pub HoldsOne : List ℕ → ℕ → Type 0
HoldsOne l = Holds (λ s. Memᴰ s l)

unfoldable pub inside : ℕ → ℕ → Bool
inside s t = eqb (bit_and s t) s

unfoldable pub alone : List ℕ → ℕ → Bool
alone l s = every (λ t. not (inside t s) || eqb t s) l

unfoldable pub tidy : List ℕ → List ℕ
tidy l = arranged (passing (alone l) l)

unfoldable pub unions : List ℕ → List ℕ → List ℕ
unions [] m = []
unions (s ∷ l) m = map (bit_or s) m ++ unions l m
