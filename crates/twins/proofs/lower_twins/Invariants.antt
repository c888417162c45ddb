-- `lower_twins` meets its contract. The invariant: the rows of the edges gone through are filled. Assumes nothing.
use mathlib.Core.List.{List}
use mathlib.Core.Path.{◌≡◌}
use Prim.Native.Nat.{ℕ, ◌%◌, ◌^◌}
use lib.ListN.{length, get_or}
use Rattle.bitset.proofs.Scans.{Done}
use Rattle.twins.proofs.Twins.{RowTwins}
use Rattle.twins.proofs.lower_twins.Given as goal

-- What holds at each turn.
pub record Turn (edges : ℕ) (pairs lower : List ℕ) (left : ℕ) : Type 0 where
  pub size : length lower ≡ 64
  pub filled : Done (λ e. RowTwins edges pairs e (get_or lower e 0)) edges left

abbrev pub invariant-loop-k : goal.invariant-loop-k
invariant-loop-k l =
    (goal.iterator-loop-k).can_next l.k-iterator × (goal.iterator-loop-k).is_finite l.k-iterator
    × Turn l.present.0 l.pairs l.lower (l.k-iterator.left % 2 ^ 64)
