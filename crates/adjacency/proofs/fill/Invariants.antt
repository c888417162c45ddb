-- `fill` meets its contract. The invariant: the table is that of the network with the edges that are gone through.
-- Assumes nothing.
use Prim.Native.Nat.{◌%◌, ◌^◌}
use Rattle.adjacency.specs.Adjacency.{Adjacency}
use Rattle.adjacency.proofs.Filling.{Filled}
use Rattle.adjacency.proofs.fill.Given as goal

abbrev pub invariant-loop-k : goal.invariant-loop-k
invariant-loop-k l =
    (goal.iterator-loop-k).can_next l.k-iterator × (goal.iterator-loop-k).is_finite l.k-iterator
    × Filled Adjacency l.network l.fn.edges.0 l.adjacent (l.k-iterator.left % 2 ^ 64)
