use mathlib.Core.Path.{ap, ◌∙◌}
use Prim.Native.Nat.{◌^◌}
use borrow.Author.Rules.{rules}
use lib.Bits.{bit_and}
use Rattle.bitset.specs.Members.{◌∖◌}
use Rattle.bitset.proofs.Going.{came-lt, all-left, less-came, none-came}
use Rattle.bitset.proofs.Results.{without-minus, intersection-and}
use Rattle.node_set.specs.Width.{node_width}
use Rattle.graph.specs.Cuts.{only}
use Rattle.graph.specs.Relevant.{relevant_nodes}
use Rattle.graph.proofs.Sound.{accepted-sound}
use Rattle.connectivity.proofs.Nodes.{others-lt, past-first, past_next, past-last}
use Rattle.connectivity.proofs.part.relevant_nodes.Goals as goal

pub past-nodes-requires : goal.past-nodes-requires
unfolding only
past-nodes-requires c =
    let N = c.args.accepted.network in
    let S = accepted-sound N (search rules) c.args.accepted.accepted in
    (S.source-lt, c.fill.ensures)

pub loop-c-init : goal.loop-c-init
loop-c-init c =
    let N = c.args.accepted.network in
    let S = accepted-sound N (search rules) c.args.accepted.accepted in
    let all = all-left node_width c.into_iter-c-iterator.result.left c.without-others.result.0 (search rules) (search rules) in
    let others = without-minus _ N.source _ c.without-others.ensures ∙ ap (λ x. x ∖ 2 ^ N.source) c.past-nodes.ensures in
    (tt, tt, past-first N S _ _ (all ∙ others) c.past-nodes.ensures)

pub overflow_cast-c : goal.overflow_cast-c
overflow_cast-c c = let small = came-lt node_width _ _ _ c.in-Some.ensures.steps in search (rules, small)

pub past-beyond-requires : goal.past-beyond-requires
unfolding only
past-beyond-requires c =
    let N = c.args.accepted.network in
    let S = accepted-sound N (search rules) c.args.accepted.accepted in
    let less = less-came node_width _ _ _ c.in-Some.ensures.steps in
    (others-lt N S _ (c.loop-c.invariant.2.within _ less.member), c.fill.ensures)

pub loop-c-preserved : goal.loop-c-preserved
loop-c-preserved c =
    let N = c.args.accepted.network in
    let S = accepted-sound N (search rules) c.args.accepted.accepted in
    let met = intersection-and _ _ _ c.intersection-nodes.ensures ∙ ap (bit_and c.loop-c.nodes.0) c.past-beyond.ensures in
    (tt, tt, past_next N S _ _ _ _ _ (less-came node_width _ _ _ c.in-Some.ensures.steps) met c.loop-c.invariant.2)

pub returns : goal.returns
unfolding relevant_nodes
returns c =
    let N = c.args.accepted.network in
    let S = accepted-sound N (search rules) c.args.accepted.accepted in
    past-last N S _ _ (none-came node_width _ c.in-None.ensures.steps.0) c.loop-c.invariant.2
