-- `trimmed` meets its contract: without loops the nodes decide, and with one no network is trimmed.
-- Assumes nothing.
use mathlib.Core.Path.{sym, ◌∙◌}
use borrow.Author.Rules.{rules}
use denote.Floats.{passes}
use Rattle.graph.proofs.Sound.{accepted-sound}
use Rattle.graph.proofs.Trimmed.{trimmed-loopless, trimmed-loop}
use Rattle.trimmed.proofs.trimmed.Goals as goal

pub returns-then-loopless : goal.returns-then-loopless
returns-then-loopless c =
    let N = c.args.accepted.network in
    let S = accepted-sound N (search rules) c.args.accepted.accepted in
    c.all_relevant.ensures ∙ sym (trimmed-loopless N S (c.loopless.ensures.0 (passes _ c.if-loopless.true)))

pub returns-else-loopless : goal.returns-else-loopless
returns-else-loopless c =
    let N = c.args.accepted.network in
    let S = accepted-sound N (search rules) c.args.accepted.accepted in
    c.if-loopless.false ∙ sym (trimmed-loop N S (λ none. rw c.if-loopless.false at (c.loopless.ensures.1 none)))
