-- `part::past` meets its contract: the spread is over the table without c, from the terminals that are not c.
-- Assumes nothing.
use native.Mathlib.Omega.{arith}
use Rattle.graph.proofs.Sound.{accepted-sound}
use Rattle.adjacency.proofs.Reaching.{adjacency-mutual, adjacency-without}
use Rattle.connectivity.proofs.Nodes.{past-made}
use borrow.Author.Rules.{rules}
use Rattle.connectivity.proofs.part.past.Goals as goal

pub leave_out-requires : goal.leave_out-requires
leave_out-requires c =
    let N = c.args.accepted.network in
    let S = accepted-sound N (search rules) c.args.accepted.accepted in
    (omega (arith, c.requires.0, S.small), adjacency-mutual N c.args.adjacent.now c.requires.1)

pub returns : goal.returns
returns c =
    let a = c.args in
    let N = a.accepted.network in
    let S = accepted-sound N (search rules) a.accepted.accepted in
    past-made N S a.c c.requires.0 c.leave_out.new.others _ _ _ _ _ _
    (adjacency-without N S.bounded a.adjacent.now c.requires.1 a.c c.leave_out.new.others c.leave_out.ensures)
    c.below-all.ensures
    c.single-source.ensures
    c.with-terminals.ensures
    c.without-start.ensures
    c.reach-reached.ensures
    c.with.ensures
