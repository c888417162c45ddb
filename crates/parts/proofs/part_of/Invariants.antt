-- `part_of` meets its contract. The invariant: what is not left is the spread from the lowest target on, and it has the targets that
-- are not missing. The measure is the set of nodes that are left or fresh. Assumes nothing.
use lib.Bits.{bit_or}
use Rattle.parts.proofs.Parts.{Search}
use Rattle.parts.proofs.part_of.Given as goal

abbrev pub invariant-loop-missing : goal.invariant-loop-missing
invariant-loop-missing l = Search l.adjacent l.within.0 l.initial.fresh.0 l.initial.missing.0 l.missing.0 l.fresh.0 l.left.0

abbrev pub decreases-loop-missing : goal.decreases-loop-missing
decreases-loop-missing l = bit_or l.left.0 l.fresh.0
