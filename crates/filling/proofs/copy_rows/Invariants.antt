-- `copy_rows` meets its contract. The loop's invariant: the rows passed are copied.
-- Assumes nothing.
use mathlib.Core.Path.{◌≡◌}
use lib.ListN.{take}
use Rattle.sequences.specs.Words.{onto}
use Rattle.filling.proofs.copy_rows.Given as goal

abbrev pub invariant-loop-i : goal.invariant-loop-i
invariant-loop-i l = l.rows ≡ onto (take l.i l.found) l.initial.rows
