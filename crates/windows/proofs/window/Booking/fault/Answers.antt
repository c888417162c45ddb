-- `Booking::fault` meets its contract: each return is the rule that its tests have led to.
-- Assumes nothing.
use mathlib.Core.Path.{sym, ◌∙◌}
use Rattle.network.proofs.Refusals.{number-some, passed-on}
use Rattle.windows.proofs.Windows.{booking-window, booking-absent, booking-none}
use Rattle.windows.proofs.window.Booking.fault.Goals as goal

pub returns-in_err-fault : goal.returns-in_err-fault
returns-in_err-fault c =
    passed-on _ _ c.from_residual.ensures.1 ∙ sym (booking-window _ _ _ _ c.in_err-fault.ensures (number-some _))

pub returns-then-not-contains : goal.returns-then-not-contains
returns-then-not-contains c = sym (booking-absent _ _ _ _ (sym c.in_ok-fault.ensures) (sym c.if-not-contains.ensures))

pub returns : goal.returns
returns c = sym (booking-none _ _ _ _ (sym c.in_ok-fault.ensures) (sym c.if-not-contains.ensures))
