-- `faults::fault` meets its contract: the first fault of size, terminals and slots.
-- Assumes nothing.
use mathlib.Core.Path.{sym, ◌∙◌}
use Rattle.network.specs.Record.{fault_up_to, Stored}
use Rattle.network.proofs.Refusals.{none_then, refused_then, passed-on}
use Rattle.network.proofs.Rules.{fault-means}
use borrow.Author.Rules.{rules}
use Rattle.network.proofs.faults.fault.Goals as goal

pub returns-in_err-size_fault : goal.returns-in_err-size_fault
unfolding fault_up_to
returns-in_err-size_fault c =
    let stored : Stored c.args.network = search rules in
    let both = fault-means _ stored (passed-on _ _ c.from_residual.ensures.1 ∙ refused_then _ _ c.in_err-size_fault.ensures) in
    record { value = both.0; means = both.1 }

pub returns-in_err-terminal_fault : goal.returns-in_err-terminal_fault
unfolding fault_up_to
returns-in_err-terminal_fault c =
    let stored : Stored c.args.network = search rules in
    let both = fault-means _ stored (
    passed-on _ _ c.from_residual-in_err-terminal_fault.ensures.1 ∙ refused_then _ _ c.in_err-terminal_fault.ensures
    ∙ sym (none_then _ (sym c.in_ok-size_fault.ensures))) in
    record { value = both.0; means = both.1 }

pub returns : goal.returns
unfolding fault_up_to
returns c =
    let stored : Stored c.args.network = search rules in
    let both = fault-means _ stored (
    c.slots_fault.ensures ∙ sym (none_then _ (sym c.in_ok-size_fault.ensures) ∙ none_then _ (sym c.in_ok-terminal_fault.ensures))) in
    record { value = both.0; means = both.1 }
