-- `BitSet::empty` meets its contract: 0 has no member.
-- Assumes nothing.
use Rattle.bitset.proofs.Members.{has-zero}
use Rattle.sets.proofs.BitSet.empty.Goals as goal

pub returns : goal.returns
returns g c = rw (c.of.ensures) has-zero
