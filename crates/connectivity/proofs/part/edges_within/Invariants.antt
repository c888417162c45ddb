-- `part::edges_within` meets its contract. The invariant: the edges before that are within the set are gathered.
-- Assumes nothing.
use Prim.Native.Nat.{◌%◌, ◌^◌}
use Rattle.bitset.proofs.Scans.{Gathered}
use Rattle.network.specs.Record.{present}
use Rattle.connectivity.proofs.Nodes.{Within}
use Rattle.connectivity.proofs.part.edges_within.Given as goal

abbrev pub invariant-loop-k : goal.invariant-loop-k
invariant-loop-k l =
    (goal.iterator-loop-k).can_next l.k-iterator × (goal.iterator-loop-k).is_finite l.k-iterator
    × Gathered (Within l.network l.nodes.0) l.initial.within.0 (present l.network) (l.k-iterator.left % 2 ^ 64) l.within.0
