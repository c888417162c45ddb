-- The call that lists a network which was trimmed already: what it answers and leaves in the lent rows, and what that means.
-- To believe.
--
--   trimmed_refusal N cuts sides     the call's refusal for a network and lent rows, 0 if there is none
--   trimmed_listed_by N cuts sides   its answer
--   trimmed_cut_rows N cuts sides    the lent cut rows afterwards
--   trimmed_side_rows N cuts sides   the lent side rows afterwards
--   TrimmedListing N cuts sides r n cuts' sides'     the call, lent `cuts` and `sides`, gives the refusal r and the count n and leaves cuts'
--                            and sides'
--   TrimmedMeans N cuts sides r n cuts' sides'     what it means that the call, lent `cuts` and `sides`, gave the refusal r and the count n
--                            and left cuts' and sides'
use Rattle.std.specs.Prelude.{List, ◌↔◌, ◌≡◌, ℕ, length}
use Rattle.network.specs.declared.Network.{Network}
use Rattle.network.specs.Record.{◌then◌, fault_of, Stored}
use Rattle.graph.specs.Cuts.{Trimmed, Untrimmed}
use Rattle.graph.specs.Lists.{CompleteList, Outnumber}
use Rattle.trimmed.specs.Trimmed.{trimmed_fault}
use Rattle.listing.specs.List.{Listed, listed_under, cut_rows_under, side_rows_under, list_refusal, Listing}

-- The record's first fault, then 26: some point or present cable is not useful; then what the list call refuses
unfoldable pub trimmed_refusal : Network → List ℕ → List ℕ → ℕ
trimmed_refusal N cuts sides = trimmed_fault N then list_refusal N cuts sides

unfoldable pub trimmed_listed_by : Network → List ℕ → List ℕ → Listed
trimmed_listed_by N cuts sides = listed_under (trimmed_refusal N cuts sides) N

unfoldable pub trimmed_cut_rows : Network → List ℕ → List ℕ → List ℕ
trimmed_cut_rows N cuts sides = cut_rows_under (trimmed_refusal N cuts sides) N cuts

unfoldable pub trimmed_side_rows : Network → List ℕ → List ℕ → List ℕ
trimmed_side_rows N cuts sides = side_rows_under (trimmed_refusal N cuts sides) N sides

-- Number by number, as it crosses the border to other languages.
pub record TrimmedListing (N : Network) (cuts sides : List ℕ) (r n : ℕ) (cuts' sides' : List ℕ) : Type 0 where
  pub refusal : r ≡ (trimmed_listed_by N cuts sides).refusal
  pub count : n ≡ (trimmed_listed_by N cuts sides).count
  pub cut-rows : cuts' ≡ trimmed_cut_rows N cuts sides
  pub side-rows : sides' ≡ trimmed_side_rows N cuts sides

-- By the definitions of graph theory: 26 is given exactly if the record has no fault and some node or present edge is not relevant; beside
-- the refusal 0 stands the complete list of a trimmed network. With any other number than 26, and where it lists, the call has done what the
-- list call does.
pub record TrimmedMeans (N : Network) (cuts sides : List ℕ) (r n : ℕ) (cuts' sides' : List ℕ) : Type 0 where
  pub stored : Stored N
  pub untrimmed : (r ≡ 26) ↔ ((fault_of N ≡ 0) × Untrimmed N)
  pub complete : r ≡ 0 → Trimmed N × CompleteList N n cuts' sides'
  pub outnumbered : (r ≡ 12) ↔ ((fault_of N ≡ 0) × Trimmed N × (length cuts ≡ length sides) × Outnumber N (length cuts))
  pub ordinary : (r ≡ 26 → ⊥) → Listing N cuts sides r n cuts' sides'
