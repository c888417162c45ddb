-- `BitSet::union` meets its contract: `or` has the members of either.
-- Assumes nothing.
use Rattle.bitset.proofs.Members.{has-or}
use Rattle.sets.proofs.BitSet.union.Goals as goal

pub returns : goal.returns
returns g c = rw (c.of.ensures, c.word.ensures, c.word-2.ensures) (has-or _ _)
