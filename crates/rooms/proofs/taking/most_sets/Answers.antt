-- `taking::most_sets` meets its contract, by the extent.
-- Assumes nothing.
use Rattle.rooms.proofs.Steps.{most-any, most-all}
use Rattle.rooms.proofs.taking.most_sets.Goals as goal

pub returns-in-Any : goal.returns-in-Any
returns-in-Any c = rw c.in-Any.is (most-any _ _ c.requires.0)

pub returns-in-All : goal.returns-in-All
returns-in-All c = rw c.in-All.is (most-all _ _ c.requires.0)
