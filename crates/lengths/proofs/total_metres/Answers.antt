use mathlib.Core.Path.{ap, ◌∙◌}
use native.Mathlib.Omega.{arith}
use lib.ListN.{length}
use Rattle.bitset.proofs.Going.{came-lt}
use Rattle.lengths.proofs.Totals.{total-none, total_first, members-most}
use Rattle.lengths.proofs.total_metres.Goals as goal

pub loop-k-init : goal.loop-k-init
loop-k-init c =
    let start = c.into_iter-k-iterator in (
      tt,
      tt,
      record {
        whole = rw (start.ensures.into_iter_gives, c.members-k-items.ensures) (omega arith);
        room = omega (arith, members-most start.result.left);
      },
    )

pub metres_of-requires : goal.metres_of-requires
metres_of-requires c = came-lt 64 _ _ _ c.in-Some.ensures.steps

pub loop-k-preserved : goal.loop-k-preserved
loop-k-preserved c =
    let turn = c.loop-k.invariant.2 in
    let came = c.in-Some.ensures.steps in
    let metres = c.from-total.ensures ∙ c.metres_of.ensures in (
      tt,
      tt,
      record {
        whole = omega (arith, turn.whole, total_first c.args.network _ _ _ came, metres);
        room = omega (arith, turn.room, ap length came, c.metres_of.type_inv, c.from-total.ensures);
      },
    )

pub returns : goal.returns
returns c =
    let turn = c.loop-k.invariant.2 in
    let none = total-none c.args.network _ c.in-None.ensures.steps.0 in
    (omega (arith, turn.whole, none), omega (arith, turn.room))
