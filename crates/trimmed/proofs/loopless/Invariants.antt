-- `loopless` meets its contract. The invariant: each edge before joins two nodes.
-- Assumes nothing.
use mathlib.Core.Path.{◌≡◌}
use Prim.Native.Nat.{◌%◌, ◌^◌}
use Rattle.bitset.proofs.Scans.{Done}
use Rattle.network.specs.Record.{first_end, second_end, present}
use Rattle.trimmed.proofs.loopless.Given as goal

abbrev pub invariant-loop-k : goal.invariant-loop-k
invariant-loop-k l =
    (goal.iterator-loop-k).can_next l.k-iterator × (goal.iterator-loop-k).is_finite l.k-iterator
    × Done (λ e. first_end l.network e ≡ second_end l.network e → ⊥) (present l.network) (l.k-iterator.left % 2 ^ 64)
