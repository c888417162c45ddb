-- `BitSet::contains` meets its contract: the lowest digit after a shift tells, and past the width there is no member.
-- Assumes nothing.
use borrow.Author.Rules.{rules}
use mathlib.Core.Path.{sym}
use Rattle.bitset.proofs.Members.{has-bounded}
use Rattle.bitset.proofs.Words.{contains-test}
use Rattle.sets.proofs.BitSet.contains.Goals as goal

pub returns-then-k-lt64 : goal.returns-then-k-lt64
returns-then-k-lt64 g c = rw (c.word-word.ensures) (contains-test _ _)

pub returns-else-k-lt64 : goal.returns-else-k-lt64
returns-else-k-lt64 g c = rw (← c.word-word.ensures) (sym (has-bounded 64 (search rules) _ (search rules)))
