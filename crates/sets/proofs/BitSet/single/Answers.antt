-- `BitSet::single` meets its contract: a shifted 1 has the one member.
-- Assumes nothing.
use borrow.Author.Rules.{rules}
use Rattle.bitset.proofs.Words.{has-single, has-single-past}
use Rattle.sets.proofs.BitSet.single.Goals as goal

pub returns-then-k-lt64 : goal.returns-then-k-lt64
returns-then-k-lt64 g c = rw (c.of.ensures) (has-single 64 _ (search rules))

pub returns-else-k-lt64 : goal.returns-else-k-lt64
returns-else-k-lt64 g c = rw (c.of-else-k-lt64.ensures) (has-single-past 64 _ (search rules))
