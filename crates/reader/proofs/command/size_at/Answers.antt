-- `command::size_at` meets its contract: the operands are refused, or their values, or they are the answer.
-- Assumes nothing.
use mathlib.Core.Path.{sym, ap, ◌∙◌}
use native.Mathlib.Omega.{arith}
use Rattle.node_set.specs.Width.{node_width}
use Rattle.network.specs.Record.{size_fault}
use Rattle.format.specs.Format.{Outcome, size_step, size_refusal}
use Rattle.reader.proofs.Operands.{step-refused, step-taken, operands-refused, operands-read}
use Rattle.reader.proofs.command.size_at.Goals as goal

pub returns-in_err-nodes : goal.returns-in_err-nodes
unfolding size_step size_refusal
returns-in_err-nodes c = step-refused _ _ _ c.from_residual.ensures.1 (operands-refused 0x50 2 _ _ _ c.in_err-nodes.ensures.refusal (omega arith))

pub returns-in_err-size_fault : goal.returns-in_err-size_fault
unfolding size_step size_refusal
returns-in_err-size_fault c =
    let read = c.in_ok-nodes.ensures in
    step-refused _ _ _ c.from_residual-in_err-size_fault.ensures.1
    (c.in_err-size_fault.ensures ∙ ap (size_fault node_width) (read.values 0 (omega arith)) ∙ sym (operands-read 0x50 2 _ _ read.refusal))

pub returns : goal.returns
unfolding size_step size_refusal
returns c =
    let read = c.in_ok-nodes.ensures in
    step-taken
    (operands-read 0x50 2 _ _ read.refusal ∙ sym (c.in_ok-size_fault.ensures ∙ ap (size_fault node_width) (read.values 0 (omega arith))))
    (ap Outcome.Size (read.values 0 (omega arith)))
