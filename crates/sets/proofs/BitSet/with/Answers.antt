-- `BitSet::with` meets its contract: `or` with a shifted 1 inserts the member.
-- Assumes nothing.
use borrow.Author.Rules.{rules}
use Rattle.bitset.proofs.Words.{has-with, has-with-past}
use Rattle.sets.proofs.BitSet.with.Goals as goal

pub returns-then-k-lt64 : goal.returns-then-k-lt64
returns-then-k-lt64 g c = rw (c.of.ensures, c.word.ensures) (has-with 64 _ _ (search rules))

pub returns-else-k-lt64 : goal.returns-else-k-lt64
returns-else-k-lt64 g c = has-with-past 64 _ _ (search rules)
