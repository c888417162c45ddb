-- `faults::works_fault` meets its contract. The invariant: the first fault of the windows from here on is that of all.
-- Assumes nothing.
use mathlib.Core.Path.{◌≡◌}
use Prim.Native.Nat.{◌*◌}
use lib.ListN.{drop}
use Rattle.windows.specs.Windows.{works_fault}
use Rattle.windows.proofs.faults.works_fault.Given as goal

abbrev pub invariant-loop-start : goal.invariant-loop-start
invariant-loop-start l = works_fault l.present.0 (drop (3 * l.start-index) l.works) ≡ works_fault l.present.0 l.works
