use borrow.Author.Rules.{rules}
use Rattle.bitset.proofs.Going.{came-lt, all-left, less-came, none-came}
use Rattle.node_set.specs.Width.{node_width}
use Rattle.adjacency.proofs.Leaving.{parted-first, parted-next, parted-last}
use Rattle.adjacency.proofs.leave_out.Goals as goal

pub loop-v-init : goal.loop-v-init
loop-v-init c = (
  tt,
  tt,
  rw (all-left node_width c.into_iter-v-iterator.result.left c.without-near.result.0 (search rules) (search rules))
      (parted-first c.args.others.now c.args.c c.requires.1 _ c.without-near.ensures),
)

pub bounds-others-at : goal.bounds-others-at
bounds-others-at c = came-lt node_width _ _ _ c.in-Some.ensures.steps

pub bounds-others-at-in-loop-v : goal.bounds-others-at-in-loop-v
bounds-others-at-in-loop-v c = came-lt node_width _ _ _ c.in-Some.ensures.steps

pub loop-v-preserved : goal.loop-v-preserved
loop-v-preserved c = (
  tt,
  tt,
  parted-next c.args.others.now c.args.c c.loop-v.others _ _ _ _ (less-came node_width _ _ _ c.in-Some.ensures.steps) c.without-beside.ensures c.loop-v.invariant.2,
)

pub returns : goal.returns
returns c = parted-last c.args.others.now c.args.c c.loop-v.others _ (none-came node_width _ c.in-None.ensures.steps.0) c.loop-v.invariant.2
