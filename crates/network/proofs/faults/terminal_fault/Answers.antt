-- `faults::terminal_fault` meets its contract: a node outside decides, and then that the two are one.
-- Assumes nothing.
use mathlib.Core.Path.{sym, ◌∙◌}
use borrow.Author.Tests.{eq-eqb, ne_eqb}
use Rattle.network.proofs.Refusals.{none_then, refused_then, passed-on, some-when, none-when}
use Rattle.network.proofs.faults.terminal_fault.Goals as goal

pub returns-in_err-outside_fault : goal.returns-in_err-outside_fault
returns-in_err-outside_fault c =
    passed-on _ _ c.from_residual.ensures.1 ∙ refused_then _ _ c.in_err-outside_fault.ensures

pub returns-then-source-sink : goal.returns-then-source-sink
returns-then-source-sink c = sym (none_then _ (sym c.in_ok-outside_fault.ensures) ∙ some-when 6 (eq-eqb _ _ c.if-source-sink.true))

pub returns : goal.returns
returns c = sym (none_then _ (sym c.in_ok-outside_fault.ensures) ∙ none-when 6 (ne_eqb _ _ c.if-source-sink.false))
