use borrow.Author.Rules.{rules}
use Rattle.bitset.proofs.Going.{came-lt, all-left, less-came, none-came}
use Rattle.bitset.proofs.Scans.{gathered-first, gathered_next, gathered-last}
use Rattle.network.specs.Record.{present}
use Rattle.connectivity.proofs.Nodes.{edge-kept, edge-left, kept-all}
use Rattle.connectivity.proofs.part.edges_within.Goals as goal

pub loop-k-init : goal.loop-k-init
loop-k-init c = (
  tt,
  tt,
  rw (all-left 64 c.into_iter-k-iterator.result.left (present c.args.network) (search rules) (search rules)) (gathered-first _ _ _),
)

pub bounds-network-at : goal.bounds-network-at
bounds-network-at c = came-lt 64 _ _ _ c.in-Some.ensures.steps

pub bounds-network-at-in-loop-k : goal.bounds-network-at-in-loop-k
bounds-network-at-in-loop-k c = came-lt 64 _ _ _ c.in-Some.ensures.steps

pub loop-k-preserved-then-two_in : goal.loop-k-preserved-then-two_in
loop-k-preserved-then-two_in c =
    let came = c.in-Some.ensures.steps in (
      tt,
      tt,
      gathered_next _ _ _ _ _ _ c.loop-k.within.0 _ (less-came 64 _ _ _ came)
          (edge-kept c.args.network c.args.nodes.0 _ _ _ c.two_in.ensures c.if-two_in.true (came-lt 64 _ _ _ came) _ c.with-within.ensures)
          c.loop-k.invariant.2,
    )

pub loop-k-preserved : goal.loop-k-preserved
loop-k-preserved c = (
  tt,
  tt,
  gathered_next _ _ _ _ _ _ c.loop-k.within.0 _ (less-came 64 _ _ _ c.in-Some.ensures.steps)
      (edge-left c.args.network c.args.nodes.0 _ _ _ c.two_in.ensures c.if-two_in.false) c.loop-k.invariant.2,
)

pub returns : goal.returns
returns c =
    kept-all c.args.network c.args.nodes.0 _ _ (search rules) (λ v m. rw (c.empty-within.ensures v) at m)
    (gathered-last _ _ _ _ _ (none-came 64 _ c.in-None.ensures.steps.0) c.loop-k.invariant.2)
