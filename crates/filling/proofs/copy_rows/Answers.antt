-- Assumes nothing.
use mathlib.Core.Path.{ap, ◌∙◌}
use mathlib.Core.List.{◌++◌, append-nil}
use lib.Seq.{take_all}
use Rattle.std.proofs.lemmas.List.{drop_all}
use borrow.Author.Rules.{rules}
use Rattle.sequences.specs.Words.{onto}
use Rattle.sequences.proofs.Stores.{onto-next}
use Rattle.filling.proofs.copy_rows.Goals as goal

pub loop-i-preserved : goal.loop-i-preserved
loop-i-preserved c = onto-next c.args.found.now c.args.rows.now c.loop-i.i c.loop-i.invariant (search rules) (search rules)

pub returns : goal.returns
returns c =
    let found = c.args.found.now in
    let lent = c.args.rows.now in
    c.loop-i.invariant ∙ ap (λ x. onto x lent) (take_all c.loop-i.i found c.loop-i-test.false)
    ∙ ap (λ x. found ++ x) (drop_all _ lent (search rules)) ∙ append-nil found
