-- `simulate` meets its contract: each return is a way out of the call.
-- Assumes nothing.
use mathlib.Core.Path.{refl, sym, ap, ◌∙◌}
use native.Mathlib.Omega.{arith}
use borrow.Author.Rules.{rules}
use Rattle.network.specs.declared.Network.{Network}
use Rattle.network.specs.Record.{present, Stored}
use Rattle.network.proofs.Refusals.{number-some}
use Rattle.simulation.specs.Steps.{state_after}
use Rattle.simulation.specs.Simulation.{silent_steps}
use Rattle.simulation.proofs.Meaning.{refusal-faulty, refusal-many, refusal-none, simulation-refused, simulation-passed, simulation-run, simulation-means}
use Rattle.simulation.proofs.simulate.Goals as goal

pub returns-in_err-accepted : goal.returns-in_err-accepted
returns-in_err-accepted c =
    let stored : Stored c.args.network = search rules in
    let found = c.in_err-accepted.ensures.refusal in
    let both = simulation-means c.args.network stored _ _ _ _
    (simulation-passed _ _ _ _ _ _ _ c.from_residual.ensures.1 (found ∙ sym (refusal-faulty _ _ (λ e. number-some _ (found ∙ e))))) in
    record { value = both.0; means = both.1 }

pub returns-then-steps-gt-MAX_STEPS : goal.returns-then-steps-gt-MAX_STEPS
returns-then-steps-gt-MAX_STEPS c =
    let stored : Stored c.args.network = search rules in
    let both = simulation-means c.args.network stored _ _ _ _
    (simulation-refused _ _ _ _ _ 25 (sym (refusal-many _ _ (sym c.in_ok-accepted.ensures.refusal) c.if-steps-gt-MAX_STEPS.true))
    (λ e. omega arith)) in
    record { value = both.0; means = both.1 }

pub returns : goal.returns
returns c =
    let a = c.args in
    let stored : Stored a.network = search rules in
    let none = refusal-none _ _ (sym c.in_ok-accepted.ensures.refusal) c.if-steps-gt-MAX_STEPS.false in
    let same = c.in_ok-accepted.ensures.same in
    let counted = c.run.ensures.0 ∙ ap (λ (N : Network). silent_steps N a.start a.failure a.repair a.steps) same in
    let last = c.run.ensures.1 ∙ ap (λ (N : Network). (state_after (present N) a.start a.failure a.repair a.steps).number) same in
    let both = simulation-means a.network stored _ _ _ _ (simulation-run _ _ _ _ _ _ none refl counted last) in
    record { value = both.0; means = both.1 }
