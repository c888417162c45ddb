-- `joining` meets its contract. The invariant: of the edges gone through those with the pair stay. Assumes nothing.
use mathlib.Core.Path.{◌≡◌}
use Prim.Native.Nat.{◌%◌, ◌^◌}
use lib.ListN.{get_or}
use Rattle.bitset.proofs.Scans.{Sifted}
use Rattle.twins.proofs.joining.Given as goal

abbrev pub invariant-loop-j : goal.invariant-loop-j
invariant-loop-j l =
    (goal.iterator-loop-j).can_next l.j-iterator × (goal.iterator-loop-j).is_finite l.j-iterator
    × Sifted (λ j. get_or l.pairs j 0 ≡ l.pair) l.fn.edges.0 l.fn.edges.0 (l.j-iterator.left % 2 ^ 64) l.joins.0
