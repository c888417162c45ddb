-- `BitSet::intersection` meets its contract: `and` has the members of both.
-- Assumes nothing.
use Rattle.bitset.proofs.Members.{has-and}
use Rattle.sets.proofs.BitSet.intersection.Goals as goal

pub returns : goal.returns
returns g c = rw (c.of.ensures, c.word.ensures, c.word-2.ensures) (has-and _ _)
