-- Minpaths that share no edge, and the fewest edges of a list of rows, as they are computed for a given list.
-- Computed: explained by apart_test-apart, fewest_test-fewest (menger/proofs/Tests).
--
--   minpath_test N r     whether r is a minpath: over it the source reaches the sink, and without any of its members it does not
--                        [computed: minpath_test-iff (menger/proofs/Tests)]
--   apart_test N l       whether the sets of l are minpaths no two of which share an edge
--   fewest_test cuts k   whether some row of the list has k edges, and none has fewer
use Rattle.std.specs.Prelude.{Bool, true, not, ◌&&◌, List, [], ◌∷◌, ℕ, ◌^◌, eqb, ltb}
use Rattle.std.specs.Int.Bits.{bit_and}
use Rattle.sequences.specs.Counts.{count_if}
use Rattle.sequences.specs.Words.{every}
use Rattle.bitset.specs.Members.{◌∖◌, members, size}
use Rattle.network.specs.declared.Network.{Network}
use Rattle.network.specs.Record.{present}
use Rattle.graph.specs.CutTests.{reaches}

unfoldable pub minpath_test : Network → ℕ → Bool
minpath_test N r = eqb (bit_and r (present N)) r && (reaches N r && every (λ e. not (reaches N (r ∖ 2 ^ e))) (members 64 r))

unfoldable pub apart_test : Network → List ℕ → Bool
apart_test N [] = true
apart_test N (r ∷ l) = minpath_test N r && (every (λ s. eqb (bit_and r s) 0) l && apart_test N l)

unfoldable pub fewest_test : List ℕ → ℕ → Bool
fewest_test cuts k = ltb 0 (count_if (λ c. eqb (size 64 c) k) cuts) && every (λ c. not (ltb (size 64 c) k)) cuts
