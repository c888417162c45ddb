-- `BitSet::lowest` meets its contract: below the lowest member are the trailing zeros.
-- Assumes nothing.
use Rattle.bitset.proofs.Size.{lowest-trailing}
use Rattle.sets.proofs.BitSet.lowest.Goals as goal

pub returns : goal.returns
returns g c = rw (← c.word.ensures) (lowest-trailing 64 _)
