-- `command::number_fault` meets its contract: each return rewrites the rule by the tests that led there.
-- Assumes nothing.
use borrow.Author.Tests.{lt-ltb, le-ltb}
use Rattle.network.specs.Record.{◌when◌, ◌then◌}
use Rattle.format.specs.Format.{number_fault}
use Rattle.reader.proofs.command.number_fault.Goals as goal

pub returns-then-edge-gt63 : goal.returns-then-edge-gt63
unfolding number_fault ◌when◌ ◌then◌
returns-then-edge-gt63 c = simp (lt-ltb _ _ c.if-edge-gt63.true)

pub returns-then-edge-next : goal.returns-then-edge-next
unfolding number_fault ◌when◌ ◌then◌
returns-then-edge-next c = simp (le-ltb _ _ c.if-edge-gt63.false, lt-ltb _ _ c.if-edge-next.true)

pub returns : goal.returns
unfolding number_fault ◌when◌ ◌then◌
returns c = simp (le-ltb _ _ c.if-edge-gt63.false, le-ltb _ _ c.if-edge-next.false)
