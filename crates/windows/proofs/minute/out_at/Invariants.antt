-- `minute::out_at` meets its contract. The invariant: what is out is what was gathered, and what the windows from here on take out.
-- Assumes nothing.
use Rattle.windows.proofs.Windows.{Gathered}
use Rattle.windows.proofs.minute.out_at.Given as goal

abbrev pub invariant-loop-start : goal.invariant-loop-start
invariant-loop-start l = Gathered l.works l.minute l.out.0 l.start-index
