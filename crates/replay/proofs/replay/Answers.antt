-- `replay` meets its contract: each return is a way out of the call.
-- Assumes nothing.
use mathlib.Core.Path.{sym, ap, ◌∙◌}
use native.Mathlib.Omega.{arith}
use borrow.Author.Rules.{rules}
use Rattle.network.specs.declared.Network.{Network}
use Rattle.network.specs.Record.{present, Stored}
use Rattle.network.proofs.Refusals.{number-some}
use Rattle.sequences.specs.Words.{onto}
use Rattle.replay.specs.Log.{log_fault}
use Rattle.replay.specs.Replay.{silent_bytes}
use Rattle.replay.proofs.Meaning.{replay-refused, replay-passed, replay-played, refusal-faulty, refusal-short, refusal-log, replay-means}
use Rattle.replay.proofs.replay.Goals as goal

pub returns-in_err-accepted : goal.returns-in_err-accepted
returns-in_err-accepted c =
    let stored : Stored c.args.network = search rules in
    let found = c.in_err-accepted.ensures.refusal in
    let both = replay-means c.args.network stored _ _
    (replay-passed _ _ _ _ _ c.from_residual.ensures.1 (found ∙ sym (refusal-faulty _ _ _ (λ e. number-some _ (found ∙ e))))) in
    record { value = both.0; means = both.1 }

pub returns-then-silent-events : goal.returns-then-silent-events
returns-then-silent-events c =
    let stored : Stored c.args.network = search rules in
    let both = replay-means c.args.network stored _ _
    (replay-refused _ _ _ 18 (sym (refusal-short _ _ _ (sym c.in_ok-accepted.ensures.refusal) c.if-silent-events.true)) (λ e. omega arith)) in
    record { value = both.0; means = both.1 }

pub returns-in_err-log_fault : goal.returns-in_err-log_fault
returns-in_err-log_fault c =
    let stored : Stored c.args.network = search rules in
    let both = replay-means c.args.network stored _ _
    (replay-passed _ _ _ _ _ c.from_residual-in_err-log_fault.ensures.1
    (c.in_err-log_fault.ensures ∙ sym (refusal-log _ _ _ (sym c.in_ok-accepted.ensures.refusal) c.if-silent-events.false))) in
    record { value = both.0; means = both.1 }

pub play-requires : goal.play-requires
play-requires c =
    let log = c.args.log.now in
    (ap (λ (N : Network). log_fault (present N) log) c.in_ok-accepted.ensures.same ∙ sym c.in_ok-log_fault.ensures, c.if-silent-events.false)

pub returns : goal.returns
returns c =
    let stored : Stored c.args.network = search rules in
    let log = c.args.log.now in
    let lent = c.args.silent.now in
    let none = refusal-log _ _ _ (sym c.in_ok-accepted.ensures.refusal) c.if-silent-events.false ∙ sym c.in_ok-log_fault.ensures in
    let both = replay-means c.args.network stored _ _
    (replay-played _ _ _ _ none (c.play.ensures ∙ ap (λ (N : Network). onto (silent_bytes N log) lent) c.in_ok-accepted.ensures.same)) in
    record { value = both.0; means = both.1 }
