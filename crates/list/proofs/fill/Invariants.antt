-- The loop's invariant: no more bytes are counted than there is room for. The measure is the room left.
-- Assumes nothing.
use Rattle.std.proofs.Common.{length, ◌-◌, ◌≤◌}
use Rattle.list.proofs.fill.Given as goal

abbrev pub invariant-loop-read : goal.invariant-loop-read
invariant-loop-read l = l.read ≤ length l.room

abbrev pub decreases-loop-read : goal.decreases-loop-read
decreases-loop-read l = length l.initial.room - l.read
