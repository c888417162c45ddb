-- `decoding::length_size` meets its contract.
-- Assumes nothing.
use borrow.Author.Tests.{eq-eqb, ne_eqb}
use Rattle.format.specs.Format.{length_size}
use Rattle.reader.proofs.decoding.length_size.Goals as goal

pub returns-then-metres-eq0 : goal.returns-then-metres-eq0
unfolding length_size
returns-then-metres-eq0 c = simp (eq-eqb _ _ c.if-metres-eq0.true)

pub returns-else-metres-eq0 : goal.returns-else-metres-eq0
unfolding length_size
returns-else-metres-eq0 c = simp (ne_eqb _ _ c.if-metres-eq0.false)
