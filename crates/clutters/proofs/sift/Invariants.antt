-- `sift` meets its contract. The invariant: of the rows looked at so far those that stay when they are tidied up stand in front, and the rows
-- after them are as they were. Assumes nothing.
use Rattle.clutters.proofs.Steps.{Sifting}
use Rattle.clutters.proofs.sift.Given as goal

abbrev pub invariant-loop-i : goal.invariant-loop-i
invariant-loop-i l = Sifting l.from l.initial.rows l.rows l.kept l.i
