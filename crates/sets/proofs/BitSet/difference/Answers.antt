-- `BitSet::difference` meets its contract: `and` with the complement has what the other lacks.
-- Assumes nothing.
use borrow.Author.Rules.{rules}
use Rattle.bitset.proofs.Words.{has-difference}
use Rattle.sets.proofs.BitSet.difference.Goals as goal

pub returns : goal.returns
returns g c = rw (c.of.ensures, ← c.word.ensures, ← c.word-2.ensures) (has-difference 64 (search rules) (search rules))
