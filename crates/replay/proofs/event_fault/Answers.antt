-- `event_fault` meets its contract: each return is the rule that its tests have led to.
-- Assumes nothing.
use mathlib.Core.Bool.{not}
use mathlib.Core.Path.{sym, ap, ◌∙◌}
use Rattle.network.specs.Refusals.{refusal_of}
use Rattle.network.proofs.Refusals.{passed-on, refused_then, none_then, some-when, none-when}
use Rattle.replay.specs.Log.{event_fault}
use Rattle.replay.proofs.Events.{change-fault}
use Rattle.replay.proofs.event_fault.Goals as goal

pub returns-in_err-try_from : goal.returns-in_err-try_from
unfolding event_fault
returns-in_err-try_from c =
    passed-on _ _ c.from_residual.ensures.1 ∙ refused_then _ _ (ap refusal_of c.in_err-try_from.ensures ∙ change-fault c.args.command)

pub returns-then-not-contains : goal.returns-then-not-contains
unfolding event_fault
returns-then-not-contains c =
    sym (none_then _ (sym (ap refusal_of c.in_ok-try_from.ensures ∙ change-fault c.args.command))
    ∙ some-when 17 (ap not (sym c.if-not-contains.ensures)))

pub returns : goal.returns
unfolding event_fault
returns c =
    sym (none_then _ (sym (ap refusal_of c.in_ok-try_from.ensures ∙ change-fault c.args.command))
    ∙ none-when 17 (ap not (sym c.if-not-contains.ensures)))
