-- `moved` meets its contract. The invariant: of the edges gone through the ends have moved. Assumes nothing.
use mathlib.Core.Path.{◌≡◌}
use Prim.Native.Nat.{◌%◌, ◌^◌}
use lib.ListN.{length}
use Rattle.contraction.proofs.Ends.{Moving}
use Rattle.contraction.proofs.moved.Given as goal

abbrev pub invariant-loop-k : goal.invariant-loop-k
invariant-loop-k l =
    (goal.iterator-loop-k).can_next l.k-iterator × (goal.iterator-loop-k).is_finite l.k-iterator
    × Moving l.fn.edges.0 l.nodes.0 l.to l.fn.ends l.ends (l.k-iterator.left % 2 ^ 64) × (length l.ends ≡ 64)
