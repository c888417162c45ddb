-- `State::step` meets its contract. The invariant: what is left to do gives what the whole step gives.
-- Assumes nothing.
use Rattle.simulation.proofs.Steps.{Drawn}
use Rattle.simulation.proofs.State.step.Given as goal

abbrev pub invariant-loop-edge : goal.invariant-loop-edge
invariant-loop-edge l =
    (goal.iterator-loop-edge).can_next l.edge-iterator × (goal.iterator-loop-edge).is_finite l.edge-iterator
    × Drawn l.failure l.repair l.fn.edges.0 l.fn.self l.edge-iterator.left l.number l.failing.0 l.repaired.0
