-- `faults::openings_fault` meets its contract. The invariant: the first fault of the windows from here on is that of all.
-- Assumes nothing.
use mathlib.Core.Path.{◌≡◌}
use Prim.Native.Nat.{◌*◌}
use lib.ListN.{drop}
use Rattle.windows.specs.Windows.{openings_fault}
use Rattle.windows.proofs.faults.openings_fault.Given as goal

abbrev pub invariant-loop-start : goal.invariant-loop-start
invariant-loop-start l = openings_fault (drop (2 * l.start-index) l.openings) ≡ openings_fault l.openings
