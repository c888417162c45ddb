-- Of rows that a list is written onto, those with the list lent on to be sorted, and come back.
-- Assumes nothing.
use mathlib.Core.Path.{◌≡◌, sym}
use mathlib.Core.List.{List, ◌++◌}
use Prim.Native.Nat.{ℕ}
use lib.ListN.{length, take, drop}
use lib.Seq.{take_at, drop_at}
use Rattle.sequences.specs.Words.{onto}

module _ (l lent : List ℕ) (n : ℕ) (count : n ≡ length l) where
  -- The rows that are lent on are the list.
  pub onto-first : take n (onto l lent) ≡ l
  onto-first = take_at l (drop (length l) lent) n (sym count)

  -- If they come back as another list of the same length, that one is written onto the rows.
  pub onto-back : (k : List ℕ) → length k ≡ length l → k ++ drop n (onto l lent) ≡ onto k lent
  onto-back k e = rw (drop_at l (drop (length l) lent) n (sym count), e)
