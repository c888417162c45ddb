-- `BitSet::below` meets its contract: one less than a shifted 1 has the members below.
-- Assumes nothing.
use borrow.Author.Rules.{rules}
use Rattle.bitset.proofs.Words.{single-pos, has-below, has-below-past}
use Rattle.sets.proofs.BitSet.below.Goals as goal

pub overflow_sub-lower : goal.overflow_sub-lower
overflow_sub-lower g c = single-pos 64 _ (search rules)

pub returns-then-n-lt64 : goal.returns-then-n-lt64
returns-then-n-lt64 g c = rw (c.of.ensures) (has-below 64 _ (search rules))

pub returns-else-n-lt64 : goal.returns-else-n-lt64
returns-else-n-lt64 g c = rw (c.of-else-n-lt64.ensures) (has-below-past 64 _ (search rules))
