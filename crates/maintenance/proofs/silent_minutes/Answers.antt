-- `silent_minutes` meets its contract: each return is a way out of the call.
-- Assumes nothing.
use mathlib.Core.Logic.{inl, inr}
use mathlib.Core.Path.{sym, ap, ◌∙◌}
use native.Mathlib.Omega.{arith}
use borrow.Author.Rules.{rules}
use Rattle.network.specs.declared.Network.{Network}
use Rattle.network.specs.Record.{present, Stored}
use Rattle.network.proofs.Refusals.{number-some}
use Rattle.windows.proofs.Windows.{works-rules}
use Rattle.maintenance.specs.Outage.{silent_minutes}
use Rattle.maintenance.proofs.Meaning.{fits, many, outage-refused, outage-passed, outage-counted, outage-means, refusal-faulty, refusal-many, refusal-openings, refusal-works}
use Rattle.maintenance.proofs.silent_minutes.Goals as goal
use Rattle.maintenance.proofs.silent_minutes.Goals.{then-openings-via-then-openings, then-openings-via-else-openings+then-works}

pub returns-in_err-accepted : goal.returns-in_err-accepted
returns-in_err-accepted c =
    let stored : Stored c.args.network = search rules in
    let found = c.in_err-accepted.ensures.refusal in
    let both = outage-means c.args.network stored _ _
    (outage-passed _ _ _ _ _ c.from_residual.ensures.1 (found ∙ sym (refusal-faulty _ _ _ (λ e. number-some _ (found ∙ e))))) in
    record { value = both.0; means = both.1 }

pub returns-then-openings : goal.returns-then-openings
returns-then-openings c =
    let a = c.args in
    let stored : Stored a.network = search rules in
    let over = many a.openings.now a.works.now (
    elim c.then-openings.branch [
      | then-openings-via-then-openings w ↦ inl (omega (arith, w.if-openings.true))
      | then-openings-via-else-openings+then-works w ↦ inr (omega (arith, w.if-works.true))
    ]) in
    let both = outage-means a.network stored _ _
    (outage-refused _ _ _ 23 (sym (refusal-many _ _ _ (sym c.in_ok-accepted.ensures.refusal) over)) (λ e. omega arith)) in
    record { value = both.0; means = both.1 }

pub returns-in_err-openings_fault : goal.returns-in_err-openings_fault
returns-in_err-openings_fault c =
    let a = c.args in
    let stored : Stored a.network = search rules in
    let few = fits _ _ c.if-openings.false c.if-works.false in
    let found = refusal-openings _ _ _ (sym c.in_ok-accepted.ensures.refusal) few c.in_err-openings_fault.ensures (number-some _) in
    let both = outage-means a.network stored _ _ (outage-passed _ _ _ _ _ c.from_residual-in_err-openings_fault.ensures.1 (sym found)) in
    record { value = both.0; means = both.1 }

pub returns-in_err-works_fault : goal.returns-in_err-works_fault
returns-in_err-works_fault c =
    let a = c.args in
    let stored : Stored a.network = search rules in
    let few = fits _ _ c.if-openings.false c.if-works.false in
    let found = refusal-works _ _ _ (sym c.in_ok-accepted.ensures.refusal) few (sym c.in_ok-openings_fault.ensures) in
    let both = outage-means a.network stored _ _
    (outage-passed _ _ _ _ _ c.from_residual-in_err-works_fault.ensures.1 (c.in_err-works_fault.ensures ∙ sym found)) in
    record { value = both.0; means = both.1 }

pub sweep-requires : goal.sweep-requires
sweep-requires c =
    let w = c.args.works.now in
    rw c.in_ok-accepted.ensures.same ((works-rules (present c.args.network) w).0 (sym c.in_ok-works_fault.ensures))

pub returns : goal.returns
returns c =
    let a = c.args in
    let stored : Stored a.network = search rules in
    let few = fits _ _ c.if-openings.false c.if-works.false in
    let none = refusal-works _ _ _ (sym c.in_ok-accepted.ensures.refusal) few (sym c.in_ok-openings_fault.ensures)
    ∙ sym c.in_ok-works_fault.ensures in
    let counted = c.sweep.ensures ∙ ap (λ (N : Network). silent_minutes N a.openings.now a.works.now) c.in_ok-accepted.ensures.same in
    let both = outage-means a.network stored _ _ (outage-counted _ _ _ _ none counted) in
    record { value = both.0; means = both.1 }
