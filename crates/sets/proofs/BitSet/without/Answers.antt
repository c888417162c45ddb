-- `BitSet::without` meets its contract: `and` with the complement of a shifted 1 takes the member away.
-- Assumes nothing.
use borrow.Author.Rules.{rules}
use Rattle.bitset.proofs.Words.{has-without, has-without-past}
use Rattle.sets.proofs.BitSet.without.Goals as goal

pub returns-then-k-lt64 : goal.returns-then-k-lt64
returns-then-k-lt64 g c = rw (c.of.ensures, ← c.word-word.ensures) (has-without 64 (search rules) _ (search rules))

pub returns-else-k-lt64 : goal.returns-else-k-lt64
returns-else-k-lt64 g c = rw (← c.word-word.ensures) (has-without-past 64 (search rules) _ (search rules))
