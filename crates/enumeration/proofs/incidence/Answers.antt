use mathlib.Core.Path.{ap, ◌∙◌}
use mathlib.Core.List.{List}
use Prim.Native.Nat.{ℕ}
use borrow.Author.Rules.{rules}
use lib.ListN.{replicate}
use Rattle.bitset.proofs.Going.{came-lt, all-left, less-came, none-came}
use Rattle.node_set.specs.Width.{node_width}
use Rattle.network.specs.Record.{second_end}
use Rattle.graph.proofs.Sound.{accepted-sound}
use Rattle.adjacency.specs.Adjacency.{with_member}
use Rattle.adjacency.proofs.Filling.{with-both-length, zeros, filled-first, filled_next, filled-last, ends-fit}
use Rattle.enumeration.specs.Tables.{Incidence}
use Rattle.enumeration.proofs.Filling.{incidence-first, incidence-next}
use Rattle.enumeration.proofs.incidence.Goals as goal

pub loop-k-init : goal.loop-k-init
loop-k-init c = (
  tt,
  tt,
  rw (all-left 64 c.into_iter-k-iterator.result.left c.args.edges.0 (search rules) (search rules))
      (filled-first Incidence _ _ (incidence-first c.args.accepted.network (replicate node_width 0) (zeros node_width))),
)

pub bounds-network-at : goal.bounds-network-at
bounds-network-at c = came-lt 64 _ _ _ c.in-Some.ensures.steps

pub add-requires : goal.add-requires
add-requires c =
    let N = c.args.accepted.network in
    let less = less-came 64 _ _ _ c.in-Some.ensures.steps in
    let fit = ends-fit N (accepted-sound N (search rules) c.args.accepted.accepted) _ (c.requires _ (c.loop-k.invariant.2.within _ less.member)) in
    (fit.0, came-lt 64 _ _ _ c.in-Some.ensures.steps)

pub bounds-network-at-in-loop-k : goal.bounds-network-at-in-loop-k
bounds-network-at-in-loop-k c = came-lt 64 _ _ _ c.in-Some.ensures.steps

pub add-requires-in-loop-k : goal.add-requires-in-loop-k
add-requires-in-loop-k c =
    let N = c.args.accepted.network in
    let less = less-came 64 _ _ _ c.in-Some.ensures.steps in
    let fit = ends-fit N (accepted-sound N (search rules) c.args.accepted.accepted) _ (c.requires _ (c.loop-k.invariant.2.within _ less.member)) in
    (fit.1, came-lt 64 _ _ _ c.in-Some.ensures.steps)

pub loop-k-preserved : goal.loop-k-preserved
loop-k-preserved c =
    let N = c.args.accepted.network in
    let k = c.in-Some.k in
    let filled = c.loop-k.invariant.2 in
    let less = less-came 64 _ _ _ c.in-Some.ensures.steps in
    let fit = ends-fit N (accepted-sound N (search rules) c.args.accepted.accepted) _ (c.requires _ (filled.within _ less.member)) in
    let puts = c.add-in-loop-k.ensures ∙ ap (λ (t : List ℕ). with_member t (second_end N k) k) c.add.ensures in (
      tt,
      tt,
      filled_next Incidence _ _ _ _ _ c.loop-k.incident _ _ less filled puts (with-both-length _ _ _ _ _)
          (incidence-next _ _ _ _ (rw filled.rows fit.0) (rw filled.rows fit.1) filled.right),
    )

pub returns : goal.returns
returns c = filled-last Incidence _ _ _ _ (none-came 64 _ c.in-None.ensures.steps.0) c.loop-k.invariant.2
