-- `BitSet::without_lowest` meets its contract: the number before shares all members but the lowest.
-- Assumes nothing.
use borrow.Author.Rules.{rules}
use Rattle.bitset.proofs.Words.{has-less-lowest, has-less-none}
use Rattle.sets.proofs.BitSet.without_lowest.Goals as goal

pub returns-then-word-eq0 : goal.returns-then-word-eq0
returns-then-word-eq0 g c = rw (← c.word-word.ensures) (λ j low k. has-less-none _ (search rules) k _)

pub returns-else-word-eq0 : goal.returns-else-word-eq0
returns-else-word-eq0 g c = rw (c.of.ensures, ← c.word-word.ensures) (has-less-lowest 64 (search rules) (search rules))
