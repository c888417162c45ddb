-- `changes::nearer` meets its contract: what wraps is the remainder by 2 ^ 16.
-- Assumes nothing.
use native.Mathlib.Omega.{arith}
use Rattle.windows.specs.Times.{nearer}
use Rattle.windows.proofs.changes.nearer.Goals as goal

pub returns : goal.returns
unfolding nearer
returns c = omega arith
