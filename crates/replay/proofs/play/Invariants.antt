-- `play` meets its contract. The invariant is the turn of an event: what is down, whether it severs, and the bytes written so far.
-- Assumes nothing.
use Rattle.replay.proofs.Steps.{Turn}
use Rattle.replay.proofs.play.Given as goal

abbrev pub invariant-loop-i : goal.invariant-loop-i
invariant-loop-i l = Turn l.accepted.network l.log l.initial.silent l.silent l.down.0 l.severs l.i
