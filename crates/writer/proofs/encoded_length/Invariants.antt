-- `writer::encoded_length` meets its contract. The invariant: what is counted, but for the end, and what is left are the whole plan.
-- Assumes nothing.
use mathlib.Core.Path.{◌≡◌}
use Prim.Native.Nat.{◌+◌}
use lib.ListN.{length}
use Rattle.format.specs.Format.{encode_of}
use Rattle.format.proofs.Commands.{left}
use Rattle.writer.proofs.encoded_length.Given as goal

abbrev pub invariant-loop-k : goal.invariant-loop-k
invariant-loop-k l =
    (goal.iterator-loop-k).can_next l.k-iterator × (goal.iterator-loop-k).is_finite l.k-iterator
    × (l.count + length (left l.network l.k-iterator.left) ≡ length (encode_of l.network) + 1)
