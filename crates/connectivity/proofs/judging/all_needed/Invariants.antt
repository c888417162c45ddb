-- `judging::all_needed` meets its contract. The invariant: each member before is needed.
-- Assumes nothing.
use mathlib.Core.Bool.{not}
use Prim.Native.Nat.{◌%◌, ◌^◌}
use lib.Dec.{T}
use Rattle.bitset.specs.Members.{◌∖◌}
use Rattle.bitset.proofs.Scans.{Done}
use Rattle.graph.specs.CutTests.{severed}
use Rattle.connectivity.proofs.judging.all_needed.Given as goal

abbrev pub invariant-loop-k : goal.invariant-loop-k
invariant-loop-k l =
    (goal.iterator-loop-k).can_next l.k-iterator × (goal.iterator-loop-k).is_finite l.k-iterator
    × Done (λ e. T (not (severed l.accepted.network (l.set.0 ∖ 2 ^ e)))) l.set.0 (l.k-iterator.left % 2 ^ 64)
