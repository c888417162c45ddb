-- A step of the code, by the answer that it is. Assumes nothing.
--
--   Taken o          the answer o is no refusal
--   step_for o       the step that is the answer o, where that is no refusal
use mathlib.Core.Path.{◌≡◌, ap, sym, subst}
use Rattle.format.specs.declared.Step.{Step}
use Rattle.format.specs.Format.{Outcome, outcome_of}

abbrev pub Taken : Outcome → Type 0
Taken (Outcome.Size n) = Unit {0}
Taken (Outcome.Terminals a b) = Unit {0}
Taken (Outcome.Edge k a b) = Unit {0}
Taken (Outcome.Length m) = Unit {0}
Taken Outcome.End = Unit {0}
Taken (Outcome.Refused r) = ⊥

abbrev pub step_for : Outcome → Step
step_for (Outcome.Size n) = Step.Size n
step_for (Outcome.Terminals a b) = Step.Terminals a b
step_for (Outcome.Edge k a b) = Step.Edge k a b
step_for (Outcome.Length m) = Step.Length m
step_for Outcome.End = Step.End
step_for (Outcome.Refused r) = Step.End

-- No other step gives it.
pub step-is : {t : Step} (o : Outcome) → Taken o → outcome_of t ≡ o → t ≡ step_for o
step-is {t} o h e = go t e
  where
    go : (t : Step) → outcome_of t ≡ o → t ≡ step_for o
    go (Step.Size n) e = ap step_for e
    go (Step.Terminals a b) e = ap step_for e
    go (Step.Edge k a b) e = ap step_for e
    go (Step.Length m) e = ap step_for e
    go Step.End e = ap step_for e
    go (Step.Refused r) e = absurd (subst Taken (sym e) h)
