-- `command::terminals_at` meets its contract: the operands are refused, or their values, or they are the answer.
-- Assumes nothing.
use mathlib.Core.Path.{sym, ap₂, ◌∙◌}
use native.Mathlib.Omega.{arith}
use Rattle.network.specs.Record.{terminal_fault}
use Rattle.format.specs.Format.{Outcome, terminals_step, terminals_refusal}
use Rattle.reader.proofs.Operands.{step-refused, step-taken, operands-refused, operands-read}
use Rattle.reader.proofs.command.terminals_at.Goals as goal

pub returns-in_err-source : goal.returns-in_err-source
unfolding terminals_step terminals_refusal
returns-in_err-source c = step-refused _ _ _ c.from_residual.ensures.1 (operands-refused 0x53 3 _ _ _ c.in_err-source.ensures.refusal (omega arith))

pub returns-in_err-terminal_fault : goal.returns-in_err-terminal_fault
unfolding terminals_step terminals_refusal
returns-in_err-terminal_fault c =
    let read = c.in_ok-source.ensures in
    step-refused _ _ _ c.from_residual-in_err-terminal_fault.ensures.1
    (c.in_err-terminal_fault.ensures ∙ ap₂ (terminal_fault c.args.nodes) (read.values 0 (omega arith)) (read.values 1 (omega arith))
    ∙ sym (operands-read 0x53 3 _ _ read.refusal))

pub returns : goal.returns
unfolding terminals_step terminals_refusal
returns c =
    let read = c.in_ok-source.ensures in
    step-taken
    (operands-read 0x53 3 _ _ read.refusal
    ∙ sym (c.in_ok-terminal_fault.ensures ∙ ap₂ (terminal_fault c.args.nodes) (read.values 0 (omega arith)) (read.values 1 (omega arith))))
    (ap₂ Outcome.Terminals (read.values 0 (omega arith)) (read.values 1 (omega arith)))
