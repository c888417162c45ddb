-- `Window::covers` meets its contract: each return is the test of its case.
-- Assumes nothing.
use borrow.Author.Tests.{le-leb, lt-leb}
use Rattle.windows.specs.Windows.{covers}
use Rattle.windows.proofs.window.Window.covers.Goals as goal

pub returns-then-self-minute : goal.returns-then-self-minute
unfolding covers
returns-then-self-minute c = rw (le-leb _ _ c.if-self-minute.true)

pub returns-else-self-minute : goal.returns-else-self-minute
unfolding covers
returns-else-self-minute c = rw (lt-leb _ _ c.if-self-minute.false)
