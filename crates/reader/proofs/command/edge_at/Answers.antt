-- `command::edge_at` meets its contract: the end, alone or not; else the operands are refused, or their values, or they are the answer.
-- Assumes nothing.
use mathlib.Core.Path.{sym, ◌∙◌}
use native.Mathlib.Omega.{arith}
use Rattle.network.specs.Record.{◌then◌, end_fault}
use Rattle.format.specs.Format.{Outcome, number_fault, edge_refusal}
use Rattle.reader.proofs.Operands.{step-refused, step-taken, operands-refused, operands-read, end-trailing, end-alone, edge-other}
use Rattle.reader.proofs.command.edge_at.Goals as goal

pub returns-then-trailing : goal.returns-then-trailing
returns-then-trailing c =
    end-trailing _ _ _ c.if-starts_with.ensures.value (omega (arith, c.if-trailing.true))

pub returns-then-starts_with : goal.returns-then-starts_with
returns-then-starts_with c =
    end-alone _ _ _ c.if-starts_with.ensures.value c.if-trailing.false

pub returns-in_err-edge : goal.returns-in_err-edge
unfolding edge_refusal
returns-in_err-edge c =
    step-refused _ _ _ c.from_residual.ensures.1 (operands-refused 0x43 4 _ _ _ c.in_err-edge.ensures.refusal (omega arith))
    ∙ edge-other _ _ _ c.if-starts_with.ensures.value

pub returns-in_err-edge_fault : goal.returns-in_err-edge_fault
unfolding edge_refusal
returns-in_err-edge_fault c =
    let read = c.in_ok-edge.ensures in
    let e = read.values 0 (omega arith) in
    let f = read.values 1 (omega arith) in
    let g = read.values 2 (omega arith) in
    step-refused _ _ _ c.from_residual-in_err-edge_fault.ensures.1
    (c.in_err-edge_fault.ensures ∙ (λ i. number_fault c.args.next (e i) then end_fault c.args.nodes (f i) (g i))
    ∙ sym (operands-read 0x43 4 _ _ read.refusal))
    ∙ edge-other _ _ _ c.if-starts_with.ensures.value

pub returns : goal.returns
unfolding edge_refusal
returns c =
    let read = c.in_ok-edge.ensures in
    let e = read.values 0 (omega arith) in
    let f = read.values 1 (omega arith) in
    let g = read.values 2 (omega arith) in
    step-taken
    (operands-read 0x43 4 _ _ read.refusal
    ∙ sym (c.in_ok-edge_fault.ensures ∙ (λ i. number_fault c.args.next (e i) then end_fault c.args.nodes (f i) (g i))))
    (λ i. Outcome.Edge (e i) (f i) (g i))
    ∙ edge-other _ _ _ c.if-starts_with.ensures.value
