-- `part::part_of` meets its contract: its edges are those within its nodes.
-- Assumes nothing.
use mathlib.Core.Path.{ap, ◌∙◌}
use Rattle.graph.specs.Relevant.{edges_within, relevant_edges}
use Rattle.connectivity.proofs.part.part_of.Goals as goal

pub invariant_of-result : goal.invariant_of-result
unfolding relevant_edges
invariant_of-result c =
    let nodes = c.relevant_nodes-nodes.ensures in
    record { relevant_nodes = nodes; relevant_edges = c.edges_within-edges.ensures ∙ ap (edges_within c.args.accepted.network) nodes }
