-- `all_relevant` meets its contract: what the walk from the sink tells of the nodes. Assumes nothing.
use mathlib.Core.Path.{sym, ap, ◌∙◌}
use native.Mathlib.Omega.{arith}
use borrow.Author.Rules.{rules}
use lib.Dec.{eqb}
use Rattle.bitset.proofs.Subsets.{⊆-refl}
use Rattle.bitset.proofs.Sets.{in-single}
use Rattle.bitset.proofs.Results.{single-power, below-ones}
use Rattle.node_set.specs.Width.{node_width}
use Rattle.network.specs.Record.{present}
use Rattle.graph.specs.Cuts.{only}
use Rattle.graph.proofs.Sound.{accepted-sound}
use Rattle.adjacency.proofs.Reaching.{adjacency-mutual}
use Rattle.trimmed.proofs.Nodes.{some-tells, none-tells}
use Rattle.trimmed.proofs.all_relevant.Goals as goal

pub adjacency-adjacent-requires : goal.adjacency-adjacent-requires
adjacency-adjacent-requires c = ⊆-refl (present c.args.accepted.network)

pub visit-back-requires : goal.visit-back-requires
unfolding only
visit-back-requires c =
    let N = c.args.accepted.network in
    let S = accepted-sound N (search rules) c.args.accepted.accepted in
    let before = single-power node_width N.source _ (omega (arith, S.source-lt, S.small)) c.single-source.ensures in (
      omega (arith, S.sink-lt, S.small),
      λ m. S.differ (sym ((in-single N.source N.sink).0 (rw before at m))),
      adjacency-mutual N c.adjacency-adjacent.result c.adjacency-adjacent.ensures,
    )

pub returns-then-is_some : goal.returns-then-is_some
unfolding only
returns-then-is_some c =
    let N = c.args.accepted.network in
    let S = accepted-sound N (search rules) c.args.accepted.accepted in
    let before = single-power node_width N.source _ (omega (arith, S.source-lt, S.small)) c.single-source.ensures in
    let all = below-ones node_width N.nodes _ S.small c.below-all.ensures in
    let visited = c.visit-back.new.visited.0 in
    c.eq.ensures ∙ ap (eqb visited) all
    ∙ some-tells N S c.adjacency-adjacent.result c.adjacency-adjacent.ensures visited _ (rw before at c.visit-back.ensures) c.if-is_some.ensures

pub returns-else-is_some : goal.returns-else-is_some
unfolding only
returns-else-is_some c =
    let N = c.args.accepted.network in
    let S = accepted-sound N (search rules) c.args.accepted.accepted in
    let before = single-power node_width N.source _ (omega (arith, S.source-lt, S.small)) c.single-source.ensures in
    c.if-is_some.false
    ∙ none-tells N S c.adjacency-adjacent.result c.adjacency-adjacent.ensures c.visit-back.new.visited.0 _ (rw before at c.visit-back.ensures) c.if-is_some.ensures
