-- `command::edge_fault` meets its contract: the first fault is that of the number, or else that of the ends.
-- Assumes nothing.
use mathlib.Core.Path.{sym, ◌∙◌}
use Rattle.network.proofs.Refusals.{none_then, refused_then, passed-on}
use Rattle.reader.proofs.command.edge_fault.Goals as goal

pub returns-in_err-number_fault : goal.returns-in_err-number_fault
returns-in_err-number_fault c = passed-on _ _ c.from_residual.ensures.1 ∙ refused_then _ _ c.in_err-number_fault.ensures

pub returns : goal.returns
returns c = c.end_fault.ensures ∙ sym (none_then _ (sym c.in_ok-number_fault.ensures))
