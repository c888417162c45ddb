-- `judging::classify` meets its contract: each return is the verdict by the tests that led there.
-- Assumes nothing.
use mathlib.Core.Path.{sym, ◌∙◌}
use Rattle.network.proofs.Sets.{set-ok}
use Rattle.connectivity.proofs.Answers.{verdict-passed, verdict-not-cut, verdict-minimal, verdict-not-minimal, verdict-means}
use borrow.Author.Rules.{rules}
use Rattle.connectivity.proofs.judging.classify.Goals as goal

pub returns-in_err-set_fault : goal.returns-in_err-set_fault
returns-in_err-set_fault c =
    let a = c.args in
    let both = verdict-means a.network (search rules) a.set.0
    (verdict-passed a.network a.set.0 _ _ c.from_residual.ensures.1 (sym c.in_err-set_fault.ensures)) in
    record { value = both.0; means = both.1 }

pub invariant_of-accepted : goal.invariant_of-accepted
invariant_of-accepted c = record { accepted = (set-ok c.args.network c.args.set.0 (sym c.in_ok-set_fault.ensures)).0 }

pub returns-then-not-severed : goal.returns-then-not-severed
returns-then-not-severed c =
    let a = c.args in
    let fit = set-ok a.network a.set.0 (sym c.in_ok-set_fault.ensures) in
    let both = verdict-means a.network (search rules) a.set.0
    (verdict-not-cut a.network a.set.0 fit.0 fit.1 (sym c.severed.ensures ∙ c.if-not-severed.true)) in
    record { value = both.0; means = both.1 }

pub returns-then-all_needed : goal.returns-then-all_needed
returns-then-all_needed c =
    let a = c.args in
    let fit = set-ok a.network a.set.0 (sym c.in_ok-set_fault.ensures) in
    let both = verdict-means a.network (search rules) a.set.0
    (verdict-minimal a.network a.set.0 fit.0 fit.1 (sym c.severed.ensures ∙ c.if-not-severed.false) (sym c.all_needed.ensures ∙ c.if-all_needed.true)) in
    record { value = both.0; means = both.1 }

pub returns-else-all_needed : goal.returns-else-all_needed
returns-else-all_needed c =
    let a = c.args in
    let fit = set-ok a.network a.set.0 (sym c.in_ok-set_fault.ensures) in
    let both = verdict-means a.network (search rules) a.set.0
    (verdict-not-minimal a.network a.set.0 fit.0 fit.1 (sym c.severed.ensures ∙ c.if-not-severed.false) (sym c.all_needed.ensures ∙ c.if-all_needed.false)) in
    record { value = both.0; means = both.1 }
