-- `accept_trimmed` meets its contract: each return is the refusal by the tests that led there, and of a trimmed network all nodes and all
-- present edges are the relevant ones.
-- Assumes nothing.
use mathlib.Core.Path.{sym, ap, ◌∙◌}
use borrow.Author.Rules.{rules}
use denote.Floats.{passes}
use Rattle.bitset.proofs.Results.{below-ones}
use Rattle.node_set.specs.Width.{node_width}
use Rattle.network.proofs.Refusals.{number-some, passed-on}
use Rattle.graph.specs.Relevant.{trimmed}
use Rattle.graph.proofs.Sound.{accepted-sound}
use Rattle.graph.proofs.Trimmed.{trimmed-whole}
use Rattle.trimmed.proofs.Faults.{trimmed-faulty, trimmed-refused, trimmed-none}
use Rattle.trimmed.proofs.accept_trimmed.Goals as goal

pub returns-in_err-accepted-clause-refusal : goal.returns-in_err-accepted-clause-refusal
returns-in_err-accepted-clause-refusal c =
    let fault = c.in_err-accepted.ensures.refusal in
    passed-on _ _ c.from_residual.ensures.1 ∙ fault ∙ sym (trimmed-faulty _ (λ e. number-some _ (fault ∙ e)))

pub returns-then-not-trimmed-clause-refusal : goal.returns-then-not-trimmed-clause-refusal
returns-then-not-trimmed-clause-refusal c =
    let accepted = c.in_ok-accepted.ensures in
    sym (trimmed-refused _ (sym accepted.refusal) (ap trimmed (sym accepted.same) ∙ sym c.if-not-trimmed.ensures))

pub invariant_of-result : goal.invariant_of-result
invariant_of-result c =
    let N = c.in_ok-accepted.accepted.network in
    let S = accepted-sound N (search rules) c.in_ok-accepted.accepted.accepted in
    let (nodes, edges) = (trimmed-whole N).0 (passes _ (sym c.if-not-trimmed.ensures)) in
    record { relevant_nodes = below-ones node_width N.nodes _ S.small c.below.ensures ∙ sym nodes; relevant_edges = sym edges }

pub returns-clause-refusal : goal.returns-clause-refusal
returns-clause-refusal c =
    let accepted = c.in_ok-accepted.ensures in
    sym (trimmed-none _ (sym accepted.refusal) (ap trimmed (sym accepted.same) ∙ sym c.if-not-trimmed.ensures))
