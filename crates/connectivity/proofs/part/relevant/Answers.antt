-- `part::relevant` meets its contract: the fault of the record, or the relevant nodes and the edges within them.
-- Assumes nothing.
use mathlib.Core.Path.{sym, ap, ◌∙◌}
use borrow.Author.Rules.{rules}
use Rattle.graph.specs.Relevant.{edges_within, relevant_edges}
use Rattle.connectivity.proofs.Answers.{part-passed, part-accepted, part-means}
use Rattle.connectivity.proofs.part.relevant.Goals as goal

pub returns-in_err-fault : goal.returns-in_err-fault
returns-in_err-fault c =
    let part = part-passed c.args.network _ _ c.from_residual.ensures.1 (sym c.in_err-fault.ensures.value) in
    record { value = part; means = part-means c.args.network (search rules) _ part }

pub returns : goal.returns
unfolding relevant_edges
returns c =
    let N = c.args.network in
    let nodes = c.relevant_nodes-nodes.ensures in
    let part = part-accepted N _ _ (sym c.in_ok-fault.ensures.value) nodes (c.edges_within-edges.ensures ∙ ap (edges_within N) nodes) in
    record { value = part; means = part-means N (search rules) _ part }
