-- `command::length_at` meets its contract: no length; else the operands are refused, or their values, or they are the answer.
-- Assumes nothing.
use mathlib.Core.Path.{sym, ap, ap₂, ◌∙◌}
use Prim.Native.Nat.{◌+◌, ◌*◌}
use native.Mathlib.Omega.{arith}
use Rattle.format.specs.Format.{Outcome, length_fault, length_refusal}
use Rattle.reader.proofs.Operands.{step-refused, step-taken, operands-refused, operands-read, length-other, length-here, length-command}
use Rattle.reader.proofs.command.length_at.Goals as goal

pub returns-then-not-starts_with : goal.returns-then-not-starts_with
returns-then-not-starts_with c = length-other _ _ c.if-not-starts_with.ensures.value

pub returns-in_err-edge : goal.returns-in_err-edge
unfolding length_refusal
returns-in_err-edge c =
    let here = c.if-not-starts_with.ensures.value in
    step-refused _ _ _ c.from_residual.ensures.1
    (operands-refused 0x4D 4 _ _ _ c.in_err-edge.ensures.refusal (omega arith) ∙ length-command _ _ here)
    ∙ length-here _ _ here

pub returns-in_err-length_fault : goal.returns-in_err-length_fault
unfolding length_refusal
returns-in_err-length_fault c =
    let here = c.if-not-starts_with.ensures.value in
    let read = c.in_ok-edge.ensures in
    let metres = c.from_be_bytes-metres.ensures ∙ ap₂ (λ h l. h * 256 + l) (read.values 1 (omega arith)) (read.values 2 (omega arith)) in
    step-refused _ _ _ c.from_residual-in_err-length_fault.ensures.1
    (c.in_err-length_fault.ensures ∙ ap₂ (length_fault c.args.before) (read.values 0 (omega arith)) metres
    ∙ sym (operands-read 0x4D 4 _ _ read.refusal) ∙ length-command _ _ here)
    ∙ length-here _ _ here

pub returns : goal.returns
unfolding length_refusal
returns c =
    let here = c.if-not-starts_with.ensures.value in
    let read = c.in_ok-edge.ensures in
    let metres = c.from_be_bytes-metres.ensures ∙ ap₂ (λ h l. h * 256 + l) (read.values 1 (omega arith)) (read.values 2 (omega arith)) in
    step-taken
    (sym (length-command _ _ here) ∙ operands-read 0x4D 4 _ _ read.refusal
    ∙ sym (c.in_ok-length_fault.ensures ∙ ap₂ (length_fault c.args.before) (read.values 0 (omega arith)) metres))
    (ap Outcome.Length metres)
    ∙ length-here _ _ here
