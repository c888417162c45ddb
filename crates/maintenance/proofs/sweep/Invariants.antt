-- `sweep` meets its contract. The invariant is the turn of a stretch: the silent minutes before it are counted, and what is known holds.
-- The measure is how many changes are left, so that there are no more turns: of windows that are not too many, at most 61 (`turns-61`,
-- Meaning). Assumes nothing.
use Rattle.windows.proofs.Times.{left}
use Rattle.maintenance.proofs.Stretches.{Turn}
use Rattle.maintenance.proofs.sweep.Given as goal

abbrev pub invariant-loop-minute : goal.invariant-loop-minute
invariant-loop-minute l = Turn l.accepted.network l.openings l.works l.minutes l.minute l.known.out.0 l.known.severs

abbrev pub decreases-loop-minute : goal.decreases-loop-minute
decreases-loop-minute l = left l.openings l.works l.minute
