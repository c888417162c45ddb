-- `incidence` meets its contract. The invariant: the table is that of the network with the edges that are gone through.
-- Assumes nothing.
use Prim.Native.Nat.{◌%◌, ◌^◌}
use Rattle.adjacency.proofs.Filling.{Filled}
use Rattle.enumeration.specs.Tables.{Incidence}
use Rattle.enumeration.proofs.incidence.Given as goal

abbrev pub invariant-loop-k : goal.invariant-loop-k
invariant-loop-k l =
    (goal.iterator-loop-k).can_next l.k-iterator × (goal.iterator-loop-k).is_finite l.k-iterator
    × Filled Incidence l.network l.fn.edges.0 l.incident (l.k-iterator.left % 2 ^ 64)
