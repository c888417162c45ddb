-- A byte is read as the definition reads it.
-- Assumes nothing.
use mathlib.Core.Path.{sym}
use native.Mathlib.Omega.{arith}
use Rattle.replay.proofs.Events.{command-down, command-up, command_none}
use Rattle.replay.proofs.ChangeTryFromU8.try_from.Goals as goal

pub returns-in-68 : goal.returns-in-68
returns-in-68 c = sym (command-down _ c.in-68.is)

pub returns-in-85 : goal.returns-in-85
returns-in-85 c = sym (command-up _ (λ e. omega (arith, e, c.in-85.is)) c.in-85.is)

pub returns-in_default : goal.returns-in_default
returns-in_default c = sym (command_none _ (λ e. omega arith) (λ e. omega arith))
