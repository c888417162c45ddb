-- `faults::slot_fault` meets its contract, by the slot's flag.
-- Assumes nothing.
use mathlib.Core.Path.{sym, ap, ◌∙◌}
use Rattle.network.specs.Record.{slot_fault_of}
use Rattle.network.proofs.faults.slot_fault.Goals as goal

pub returns-then-present : goal.returns-then-present
returns-then-present c =
    let a = c.args in
    c.end_fault.ensures ∙ ap (λ p. slot_fault_of a.nodes (p, a.first, a.second, a.metres)) (sym c.if-present.true)

pub returns-else-present : goal.returns-else-present
returns-else-present c =
    let a = c.args in
    c.absent_fault.ensures ∙ ap (λ p. slot_fault_of a.nodes (p, a.first, a.second, a.metres)) (sym c.if-present.false)
