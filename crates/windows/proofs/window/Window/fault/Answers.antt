-- `Window::fault` meets its contract: each return is the rule that its tests have led to.
-- Assumes nothing.
use mathlib.Core.Path.{sym}
use native.Mathlib.Omega.{arith}
use Rattle.windows.proofs.Windows.{window-none, window-some}
use Rattle.windows.proofs.window.Window.fault.Goals as goal

pub returns-then-self : goal.returns-then-self
returns-then-self c = sym (window-some _ _ (λ e. let k = (window-none _ _).0 e in omega (arith, k.forward, k.within, c.then-self.either)))

pub returns : goal.returns
returns c = sym ((window-none _ _).1 (record { forward = c.if-self.false; within = c.if-self-gt-WEEK.false }))
