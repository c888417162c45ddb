use native.Mathlib.Omega.{arith}
use Rattle.bitset.proofs.Going.{came-lt}
use Rattle.format.proofs.Commands.{left-size, left-length, left-none}
use Rattle.format.proofs.Writing.{encode-length}
use mathlib.Core.Path.{ap}
use lib.ListN.{length}
use Rattle.writer.proofs.encoded_length.Goals as goal

pub loop-k-init : goal.loop-k-init
loop-k-init c =
    let start = c.into_iter-k-iterator in
    (tt, tt, rw (start.ensures.into_iter_gives, c.members-k-items.ensures) (omega (arith, left-size c.args.network.now)))

pub edge_length-count-requires : goal.edge_length-count-requires
edge_length-count-requires c = came-lt 64 _ _ _ c.in-Some.ensures.steps

pub overflow_add-count : goal.overflow_add-count
overflow_add-count c =
    let more = left-length c.args.network.now _ _ c.in-Some.ensures.steps in
    omega (arith, more, c.edge_length-count.ensures, c.loop-k.invariant.2, encode-length c.args.network.now)

pub loop-k-preserved : goal.loop-k-preserved
loop-k-preserved c =
    let more = left-length c.args.network.now _ _ c.in-Some.ensures.steps in
    (tt, tt, omega (arith, more, c.edge_length-count.ensures, c.loop-k.invariant.2))

pub returns : goal.returns
returns c =
    let end = ap length (left-none c.args.network.now _ c.in-None.ensures.steps.0) in
    omega (arith, end, c.loop-k.invariant.2)
