-- `unite` meets its contract. The invariant: the unions of the sets so far with the others stand behind these. Assumes nothing.
use Rattle.clutters.proofs.Steps.{Uniting}
use Rattle.clutters.proofs.unite.Given as goal

abbrev pub invariant-loop-set : goal.invariant-loop-set
invariant-loop-set l = Uniting l.first l.second l.initial.unions l.unions l.end l.set-index
