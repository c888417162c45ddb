-- What it is to fill lent rows.
-- Working.
--
--   Filled l cuts sides cuts' sides' r     the lent areas cuts and sides have become cuts' and sides': the rows of l stand in front if there are no
--                            more than are lent, and otherwise nothing is written; r is their number, at most one more than are lent
use Rattle.std.specs.Prelude.{◌≡◌, List, ℕ, ◌+◌, min, ◌≤◌, ◌<◌, length}
use Rattle.sequences.specs.Words.{onto}
use Rattle.branches.specs.Enumeration.{Row, cuts_of, sides_of}

pub record Filled (l : List Row) (cuts sides cuts' sides' : List ℕ) (r : ℕ) : Type 0 where
  pub count : r ≡ min (length l) (length cuts + 1)
  pub enough : length l ≤ length cuts → (cuts' ≡ onto (cuts_of l) cuts) × (sides' ≡ onto (sides_of l) sides)
  pub outnumbered : length cuts < length l → (cuts' ≡ cuts) × (sides' ≡ sides)
