use mathlib.Core.Path.{refl, ◌∙◌}
use borrow.Author.Rules.{rules}
use lib.ListN.{length-set}
use Rattle.bitset.proofs.Results.{in-intersection}
use Rattle.bitset.proofs.Scans.{done_first}
use Rattle.bitset.proofs.Going.{came-lt, all-left, less-came, none-came}
use Rattle.network.specs.Record.{present}
use Rattle.twins.proofs.Twins.{row-twins, rows_next, rows_all}
use Rattle.twins.proofs.lower_twins.Goals as goal

pub loop-k-init : goal.loop-k-init
loop-k-init c =
    let start = all-left 64 c.into_iter-k-iterator.result.left c.args.accepted.network.present.0 (search rules) (search rules) in
    (tt, tt, rw start (record { size = refl; filled = done_first _ _ }))

pub bounds-pairs-at : goal.bounds-pairs-at
bounds-pairs-at c = came-lt 64 _ _ _ c.in-Some.ensures.steps

pub bounds-lower-at : goal.bounds-lower-at
bounds-lower-at c = came-lt 64 _ _ _ c.in-Some.ensures.steps

pub loop-k-preserved : goal.loop-k-preserved
loop-k-preserved c =
    let l = c.loop-k in
    let k = c.in-Some.k in
    let turn = l.invariant.2 in
    let came = c.in-Some.ensures.steps in
    let h = came-lt 64 _ _ _ came in
    let edges = present c.args.accepted.network in
    let pairs = c.pairs-pairs.result in (
      tt,
      tt,
      record {
        size = length-set l.lower k _ ∙ turn.size;
        filled =
            rows_next edges pairs l.lower _ k _ _ (rw turn.size h) (less-came 64 _ _ _ came)
            (row-twins edges pairs k _ _ _ h c.below.ensures (in-intersection _ _ _ c.intersection.ensures) c.joining-twins.ensures)
            turn.filled;
      },
    )

pub returns : goal.returns
returns c =
    let l = c.loop-k in
    rows_all c.args.accepted.network c.pairs-pairs.result l.lower _ (search rules) c.pairs-pairs.ensures
    (none-came 64 _ c.in-None.ensures.steps.0) l.invariant.2.filled
