use borrow.Author.Rules.{rules}
use lib.ListN.{replicate}
use Rattle.bitset.proofs.Going.{came-lt, all-left, less-came, none-came}
use Rattle.node_set.specs.Width.{node_width}
use Rattle.graph.proofs.Sound.{accepted-sound}
use Rattle.adjacency.specs.Adjacency.{Adjacency}
use Rattle.adjacency.proofs.Filling.{linked-length, zeros, filled-first, filled_next, filled-last, ends-fit, adjacency-first, adjacency-next}
use Rattle.adjacency.proofs.fill.Goals as goal

pub loop-k-init : goal.loop-k-init
loop-k-init c = (
  tt,
  tt,
  rw (all-left 64 c.into_iter-k-iterator.result.left c.args.edges.0 (search rules) (search rules))
      (filled-first Adjacency _ _ (adjacency-first c.args.accepted.network (replicate node_width 0) (zeros node_width))),
)

pub bounds-network-at : goal.bounds-network-at
bounds-network-at c = came-lt 64 _ _ _ c.in-Some.ensures.steps

pub bounds-network-at-in-loop-k : goal.bounds-network-at-in-loop-k
bounds-network-at-in-loop-k c = came-lt 64 _ _ _ c.in-Some.ensures.steps

pub link-requires : goal.link-requires
link-requires c =
    let N = c.args.accepted.network in
    let less = less-came 64 _ _ _ c.in-Some.ensures.steps in
    ends-fit N (accepted-sound N (search rules) c.args.accepted.accepted) _ (c.requires _ (c.loop-k.invariant.2.within _ less.member))

pub loop-k-preserved : goal.loop-k-preserved
loop-k-preserved c =
    let N = c.args.accepted.network in
    let filled = c.loop-k.invariant.2 in
    let less = less-came 64 _ _ _ c.in-Some.ensures.steps in
    let fit = ends-fit N (accepted-sound N (search rules) c.args.accepted.accepted) _ (c.requires _ (filled.within _ less.member)) in (
      tt,
      tt,
      filled_next Adjacency _ _ _ _ _ c.loop-k.adjacent _ _ less filled c.link.ensures (linked-length _ _ _)
          (adjacency-next _ _ _ _ (rw filled.rows fit.0) (rw filled.rows fit.1) filled.right),
    )

pub returns : goal.returns
returns c = filled-last Adjacency _ _ _ _ (none-came 64 _ c.in-None.ensures.steps.0) c.loop-k.invariant.2
