-- `total` meets its contract: a refusal gives 0 metres, and what is not refused the total.
-- Assumes nothing.
use mathlib.Core.Path.{refl, sym, ◌∙◌}
use Rattle.network.specs.Record.{Stored}
use Rattle.network.proofs.Refusals.{number-some, passed-on}
use Rattle.lengths.proofs.Totals.{answer-means, total-passed, total-given}
use borrow.Author.Rules.{rules}
use Rattle.lengths.proofs.total.Goals as goal

pub returns-in_err-set_fault : goal.returns-in_err-set_fault
returns-in_err-set_fault c =
    let a = c.args in
    let stored : Stored a.network = search rules in
    let passed = c.from_residual.ensures.1 in
    let both = answer-means a.network a.set.0 stored
    (total-passed a.network a.set.0 _ _ passed c.in_err-set_fault.ensures)
    (λ z. absurd (number-some _ (sym (passed-on _ _ passed) ∙ z))) in
    record { value = both.0; means = both.1 }

pub returns : goal.returns
returns c =
    let a = c.args in
    let stored : Stored a.network = search rules in
    let both = answer-means a.network a.set.0 stored
    (total-given a.network a.set.0 _ _ c.in_ok-set_fault.ensures refl c.total_metres.ensures.0)
    (λ _. c.total_metres.ensures.1) in
    record { value = both.0; means = both.1 }
