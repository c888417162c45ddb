-- `BitSet::is_subset` meets its contract: a subset is what `and` leaves as it is.
-- Assumes nothing.
use Rattle.bitset.proofs.Words.{subset-test}
use Rattle.sets.proofs.BitSet.is_subset.Goals as goal

pub returns : goal.returns
returns g c = rw (c.word.ensures, c.word-2.ensures, c.word-3.ensures) (subset-test _ _)
