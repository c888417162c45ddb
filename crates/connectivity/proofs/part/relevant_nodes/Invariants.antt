-- `part::relevant_nodes` meets its contract. The invariant: the nodes are those past the source and past each of the others before.
-- Assumes nothing.
use Prim.Native.Nat.{◌%◌, ◌^◌}
use Rattle.node_set.specs.Width.{node_width}
use Rattle.connectivity.proofs.Nodes.{Past}
use Rattle.connectivity.proofs.part.relevant_nodes.Given as goal

abbrev pub invariant-loop-c : goal.invariant-loop-c
invariant-loop-c l =
    (goal.iterator-loop-c).can_next l.c-iterator × (goal.iterator-loop-c).is_finite l.c-iterator
    × Past l.accepted.network (l.c-iterator.left % 2 ^ node_width) l.nodes.0
