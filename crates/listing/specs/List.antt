-- The complete list of the mincuts of a network, and what the list call answers and leaves in the lent rows.
-- To believe.
--
--   mincuts N                the mincuts of N, rising: the complete list  [computed: mincuts-complete (listing/proofs/Meaning)]
--   source_sides N           their source sides, each at the place of its mincut
--   Listed                       what a call that lists answers: the refusal's number, 0 if there is none, and the count of rows listed, 0 on
--                            refusal
--   listed a                     the answer a as these two numbers
--   listed_under r N             the answer of a call that lists N under the refusal r
--   cut_rows_under r N cuts      the lent cut rows after it
--   side_rows_under r N sides    the lent side rows after it
--   list_refusal N cuts sides    the list call's refusal for a network and lent rows, 0 if there is none
--   listed_by N cuts sides       its answer
--   cut_rows_after N cuts sides  the lent cut rows afterwards
--   side_rows_after N cuts sides  the lent side rows afterwards
--   Listing N cuts sides r n cuts' sides'     the call, lent `cuts` and `sides`, gives the refusal r and the count n and leaves cuts' and sides'
--   ListMeans N cuts sides r n cuts' sides'     what it means that the call, lent `cuts` and `sides`, gave the refusal r and the count n
--                            and left cuts' and sides'
use Rattle.std.specs.Prelude.{not, List, Result, map, ◌↔◌, ◌≡◌, ℕ, ltb, eqb, length}
use Rattle.sequences.specs.Words.{passing, onto}
use Rattle.bitset.specs.Members.{subsets}
use Rattle.network.specs.declared.Network.{Network}
use Rattle.network.specs.declared.refusal.Refusal.{Refusal}
use Rattle.network.specs.Refusals.{refusal_of, answer_of}
use Rattle.network.specs.Record.{◌when◌, ◌then◌, unless_refused, fault_of, Stored, present}
use Rattle.graph.specs.Lists.{CompleteList, Outnumber}
use Rattle.graph.specs.CutTests.{mincut_test}
use Rattle.graph.specs.Relevant.{source_side_of}

-- ---- the complete list

unfoldable pub mincuts : Network → List ℕ
mincuts N = passing (mincut_test N) (subsets 64 (present N))

abbrev pub source_sides : Network → List ℕ
source_sides N = map (source_side_of N) (mincuts N)

-- ---- a call that lists, under its refusal

pub record Listed : Type 0 where
  pub refusal : ℕ
  pub count : ℕ

abbrev pub listed : Result ℕ Refusal → Listed
listed a = record { refusal = refusal_of a; count = answer_of 0 a }

abbrev pub listed_under : ℕ → Network → Listed
listed_under r N = record { refusal = r; count = unless_refused r (length (mincuts N)) 0 }

-- The complete list, and past it what the rows held; on refusal all that they held.
abbrev pub cut_rows_under : ℕ → Network → List ℕ → List ℕ
cut_rows_under r N cuts = unless_refused r (onto (mincuts N) cuts) cuts

abbrev pub side_rows_under : ℕ → Network → List ℕ → List ℕ
side_rows_under r N sides = unless_refused r (onto (source_sides N) sides) sides

-- ---- the list call

-- The record's first fault, then 11: cut rows and side rows differ in number; 12: more minimal cuts than rows lent
unfoldable pub list_refusal : Network → List ℕ → List ℕ → ℕ
list_refusal N cuts sides =
    fault_of N
    then 11 when not (eqb (length cuts) (length sides))
    then 12 when ltb (length cuts) (length (mincuts N))

unfoldable pub listed_by : Network → List ℕ → List ℕ → Listed
listed_by N cuts sides = listed_under (list_refusal N cuts sides) N

unfoldable pub cut_rows_after : Network → List ℕ → List ℕ → List ℕ
cut_rows_after N cuts sides = cut_rows_under (list_refusal N cuts sides) N cuts

unfoldable pub side_rows_after : Network → List ℕ → List ℕ → List ℕ
side_rows_after N cuts sides = side_rows_under (list_refusal N cuts sides) N sides

-- Number by number, as it crosses the border to other languages.
pub record Listing (N : Network) (cuts sides : List ℕ) (r n : ℕ) (cuts' sides' : List ℕ) : Type 0 where
  pub refusal : r ≡ (listed_by N cuts sides).refusal
  pub count : n ≡ (listed_by N cuts sides).count
  pub cut-rows : cuts' ≡ cut_rows_after N cuts sides
  pub side-rows : sides' ≡ side_rows_after N cuts sides

-- By the definitions of graph theory: beside the refusal 0 stands the complete list, and 12 is given exactly if no earlier fault stands and
-- the mincuts outnumber the rows.
pub record ListMeans (N : Network) (cuts sides : List ℕ) (r n : ℕ) (cuts' sides' : List ℕ) : Type 0 where
  pub stored : Stored N
  pub complete : r ≡ 0 → CompleteList N n cuts' sides'
  pub outnumbered : (r ≡ 12) ↔ ((fault_of N ≡ 0) × (length cuts ≡ length sides) × Outnumber N (length cuts))
