-- `BitSet::size` meets its contract: the ones of a word are its members.
-- Assumes nothing.
use borrow.Author.Rules.{rules}
use Rattle.bitset.proofs.Size.{ones-size}
use Rattle.sets.proofs.BitSet.size.Goals as goal

pub returns : goal.returns
returns g c = rw (← c.word.ensures) (ones-size 64 (search rules))
