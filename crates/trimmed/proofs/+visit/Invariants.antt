-- `visit` meets its contract. The invariant: the visit of v is under way. Both measures are the set of the nodes, of all that there can be, that
-- are not visited. Assumes nothing.
use Prim.Native.Nat.{◌-◌, ◌^◌}
use Rattle.bitset.specs.Members.{◌∖◌}
use Rattle.node_set.specs.Width.{node_width}
use Rattle.trimmed.proofs.Visits.{Visiting}
use Rattle.trimmed.proofs.+visit.Given as goal

abbrev pub decreases-visit : goal.decreases-visit
decreases-visit l = (2 ^ node_width - 1) ∖ l.visited.now.0

abbrev pub invariant-loop-back : goal.invariant-loop-back
invariant-loop-back l = Visiting l.adjacent l.fn.visited.0 l.v l.visited.0 l.beside.0

abbrev pub decreases-loop-back : goal.decreases-loop-back
decreases-loop-back l = (2 ^ node_width - 1) ∖ l.visited.0
