-- `leave_out` meets its contract. The invariant: the table is without the node, but for the rows of the nodes that are left.
-- Assumes nothing.
use Prim.Native.Nat.{◌%◌, ◌^◌}
use Rattle.node_set.specs.Width.{node_width}
use Rattle.adjacency.proofs.Leaving.{Parted}
use Rattle.adjacency.proofs.leave_out.Given as goal

abbrev pub invariant-loop-v : goal.invariant-loop-v
invariant-loop-v l =
    (goal.iterator-loop-v).can_next l.v-iterator × (goal.iterator-loop-v).is_finite l.v-iterator
    × Parted l.fn.others l.others l.c (l.v-iterator.left % 2 ^ node_width)
