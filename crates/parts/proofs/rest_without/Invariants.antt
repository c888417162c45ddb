-- `rest_without` meets its contract. The invariant: what is left of the other nodes has the sink, and no edge leads from it to what is
-- lost. The measure is the set of the neighbours that are left. Assumes nothing.
use Rattle.parts.proofs.Hanging.{Remains}
use Rattle.parts.proofs.rest_without.Given as goal

abbrev pub invariant-loop-near : goal.invariant-loop-near
invariant-loop-near l = Remains l.adjacent l.initial.left.0 l.v l.sink l.left.0 l.near.0

abbrev pub decreases-loop-near : goal.decreases-loop-near
decreases-loop-near l = l.near.0
