-- `run` meets its contract. The invariant is the turn of a step: the state, whether the edges down sever, and the steps that count so far.
-- Assumes nothing.
use Rattle.simulation.proofs.Steps.{Turn}
use Rattle.simulation.proofs.run.Given as goal

abbrev pub invariant-loop : goal.invariant-loop
invariant-loop l = Turn l.accepted.network l.start l.failure l.repair l.steps l.state l.severs l.silent l.counter
