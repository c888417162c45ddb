use mathlib.Core.List.{List}
use mathlib.Core.Path.{◌≡◌, sym, ap, ◌∙◌}
use Prim.Native.Nat.{ℕ, ◌-◌, ◌≤◌}
use native.Mathlib.Numerals.{add-one}
use native.Mathlib.Omega.{arith}
use Rattle.sequences.specs.Words.{range}
use Rattle.network.proofs.Refusals.{number-pos, passed-on, refused_then, none_then}
use Rattle.replay.specs.Log.{event_count, events_fault}
use Rattle.replay.proofs.Events.{events-step, log-event, log-half, log-none}
use Rattle.replay.proofs.log_fault.Goals as goal

pub returns-in_err-event_fault : goal.returns-in_err-event_fault
returns-in_err-event_fault c =
    let first = refused_then _ _ c.in_err-event_fault.ensures ∙ sym (events-step _ _ _ _ c.loop-i-test.true) ∙ c.loop-i.invariant in
    passed-on _ _ c.from_residual.ensures.1 ∙ sym (log-event _ _ (number-pos _) (sym first))

pub loop-i-preserved : goal.loop-i-preserved
loop-i-preserved c =
    let p = c.args.present.0 in
    let log = c.args.log.now in
    ap (λ j. events_fault p log j (event_count log - j)) (add-one c.loop-i.i)
    ∙ sym (events-step p log c.loop-i.i (event_count log) c.loop-i-test.true ∙ none_then _ (sym c.in_ok-event_fault.ensures))
    ∙ c.loop-i.invariant

-- Past the last event none had a fault.
no-event : (p : ℕ) (log : List ℕ) (i : ℕ) → event_count log ≤ i
    → events_fault p log i (event_count log - i) ≡ events_fault p log 0 (event_count log) → events_fault p log 0 (event_count log) ≡ 0
unfolding events_fault range
no-event p log i h same = let over : event_count log - i ≡ 0 = omega arith in sym same ∙ ap (events_fault p log i) over

pub returns-then-half : goal.returns-then-half
returns-then-half c =
    let none = no-event _ _ _ c.loop-i-test.false c.loop-i.invariant in
    sym (log-half _ _ none c.if-half.true)

pub returns : goal.returns
returns c =
    let none = no-event _ _ _ c.loop-i-test.false c.loop-i.invariant in
    sym (log-none _ _ none c.if-half.false)
