-- `faults::set_fault` meets its contract: each return is a law of the refusal.
-- Assumes nothing.
use mathlib.Core.Path.{sym, ◌∙◌}
use Rattle.network.proofs.Refusals.{number-some, passed-on}
use Rattle.network.proofs.Sets.{set-record, set-absent, set-none}
use Rattle.network.proofs.faults.set_fault.Goals as goal

pub returns-in_err-fault : goal.returns-in_err-fault
returns-in_err-fault c =
    passed-on _ _ c.from_residual.ensures.1 ∙ sym (set-record _ _ _ c.in_err-fault.ensures.value (number-some _))

pub returns-then-not-is_subset : goal.returns-then-not-is_subset
returns-then-not-is_subset c = sym (set-absent _ _ (sym c.in_ok-fault.ensures.value) (c.is_subset.ensures.fails c.if-not-is_subset.true))

pub returns : goal.returns
returns c = sym (set-none _ _ (sym c.in_ok-fault.ensures.value) (c.is_subset.ensures.holds c.if-not-is_subset.false))
