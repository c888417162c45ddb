use mathlib.Core.Path.{◌≡◌, sym, ap, ap₂, ◌∙◌}
use mathlib.Core.List.{List}
use Prim.Native.Nat.{ℕ, ◌+◌, ◌<◌, ◌≤◌}
use native.Mathlib.Numerals.{add-one}
use native.Mathlib.Omega.{arith}
use lib.ListN.{length, drop, length-drop}
use lib.Seq.{drop-drop}
use Rattle.network.specs.declared.Network.{Network}
use Rattle.network.specs.Record.{with_edge}
use Rattle.format.specs.Format.{Outcome, outcome_of, walk, edge_step, length_step, length_size}
use Rattle.format.proofs.Walk.{Stops, edge-known, length-known, walk-edge, walk-ends, walk-stops, length-stops}
use Rattle.reader.proofs.Outcomes.{step-is}
use Rattle.reader.proofs.decoding.decode_edges.Goals as goal

-- The command at an offset of the plan gave an edge: its number fits, and its bytes are there.
module _ (plan : List ℕ) (at : ℕ) (N : Network) (next : ℕ) {t : Outcome} (e : t ≡ edge_step N.nodes next (drop at plan)) {k a b : ℕ}
    (taken : t ≡ Outcome.Edge k a b) where
  fits : k < 64
  fits = (edge-known N.nodes next (drop at plan) (sym e ∙ taken)).0

  there : at + 4 ≤ length plan
  there = omega (arith, (edge-known N.nodes next (drop at plan) (sym e ∙ taken)).1, length-drop at plan)

  -- What may be its length comes after them. If it is refused the walk stops.
  module _ {u : Outcome} (f : u ≡ length_step k (drop (at + 4) plan)) where
    after : drop 4 (drop at plan) ≡ drop (at + 4) plan
    after = drop-drop 4 at plan

    stops : ((m : ℕ) → u ≡ Outcome.Length m → ⊥) → Stops u (walk N next (drop at plan))
    stops other = length-stops N next (drop at plan) (sym e ∙ taken) (f ∙ sym (ap (length_step k) after)) other

    -- Otherwise its bytes are there, and the walk goes on after them.
    module _ {m : ℕ} (length_taken : u ≡ Outcome.Length m) where
      whole : at + (4 + length_size m) ≤ length plan
      whole = omega (arith, there, length-known k m (drop (at + 4) plan) (sym f ∙ length_taken), length-drop (at + 4) plan)

      goes : walk (with_edge N k a b m) (k + 1) (drop (at + (4 + length_size m)) plan) ≡ walk N next (drop at plan)
      goes =
          let past : at + 4 + length_size m ≡ at + (4 + length_size m) = omega arith in
          sym (walk-edge N next (drop at plan) (sym e ∙ taken) (ap (length_step k) after ∙ sym f ∙ length_taken)
          ∙ ap₂ (walk (with_edge N k a b m)) (sym (add-one k))
          (ap (drop (length_size m)) after ∙ drop-drop (length_size m) (at + 4) plan ∙ ap (λ n. drop n plan) past))

pub returns-in-End : goal.returns-in-End
returns-in-End c =
    let l = c.loop-network in
    walk-ends l.network l.next _ c.next_command-step.ensures (ap outcome_of c.in-End.is) ∙ l.invariant

pub refused-requires : goal.refused-requires
refused-requires c =
    let l = c.loop-network in
    let stop =
    walk-stops l.network l.next _ c.next_command-step.ensures (λ k a b e. c.in_default-step.not-Edge k a b (step-is (Outcome.Edge k a b) tt e))
    (λ e. c.in_default.not-End (step-is Outcome.End tt e)) in
    (stop.number, stop.refused)

pub returns-in_default-step : goal.returns-in_default-step
returns-in_default-step c =
    let l = c.loop-network in
    let stop =
    walk-stops l.network l.next _ c.next_command-step.ensures (λ k a b e. c.in_default-step.not-Edge k a b (step-is (Outcome.Edge k a b) tt e))
    (λ e. c.in_default.not-End (step-is Outcome.End tt e)) in
    c.refused.ensures ∙ stop.decides ∙ l.invariant

pub overflow_add-at : goal.overflow_add-at
overflow_add-at c =
    let turn-there : c.loop-network.at + 4 ≤ length c.args.plan.now =
    let step = c.next_command-step.ensures in
    there c.args.plan.now c.loop-network.at c.loop-network.network c.loop-network.next step (ap outcome_of c.in-Edge.is) in
    omega (arith, turn-there)

pub refused-requires-in_default-length : goal.refused-requires-in_default-length
refused-requires-in_default-length c =
    let l = c.loop-network in
    let stop =
    stops _ l.at l.network l.next c.next_command-step.ensures (ap outcome_of c.in-Edge.is) c.next_command-length.ensures
    (λ m e. c.in_default-length.not-Length m (step-is (Outcome.Length m) tt e)) in
    (stop.number, stop.refused)

pub returns-in_default-length : goal.returns-in_default-length
returns-in_default-length c =
    let l = c.loop-network in
    let stop =
    stops _ l.at l.network l.next c.next_command-step.ensures (ap outcome_of c.in-Edge.is) c.next_command-length.ensures
    (λ m e. c.in_default-length.not-Length m (step-is (Outcome.Length m) tt e)) in
    c.refused-in_default-length.ensures ∙ stop.decides ∙ l.invariant

pub put_edge-requires : goal.put_edge-requires
put_edge-requires c =
    let l = c.loop-network in
    fits c.args.plan.now l.at l.network l.next c.next_command-step.ensures (ap outcome_of c.in-Edge.is)

pub overflow_add-next : goal.overflow_add-next
overflow_add-next c =
    let l = c.loop-network in
    let turn-fits : c.in-Edge.edge < 64 =
    fits c.args.plan.now l.at l.network l.next c.next_command-step.ensures (ap outcome_of c.in-Edge.is) in
    omega (arith, turn-fits)

pub overflow_add-at-in-loop-network : goal.overflow_add-at-in-loop-network
overflow_add-at-in-loop-network c =
    let l = c.loop-network in
    let turn-whole : l.at + (4 + length_size c.in-Length.metres) ≤ length c.args.plan.now =
    whole _ l.at l.network l.next c.next_command-step.ensures (ap outcome_of c.in-Edge.is) c.next_command-length.ensures (ap outcome_of c.in-Length.is) in
    omega (arith, turn-whole, c.length_size.ensures)

pub overflow_add-at-in-loop-network-2 : goal.overflow_add-at-in-loop-network-2
overflow_add-at-in-loop-network-2 c =
    let l = c.loop-network in
    let turn-whole : l.at + (4 + length_size c.in-Length.metres) ≤ length c.args.plan.now =
    whole _ l.at l.network l.next c.next_command-step.ensures (ap outcome_of c.in-Edge.is) c.next_command-length.ensures (ap outcome_of c.in-Length.is) in
    omega (arith, turn-whole, c.length_size.ensures)

pub loop-network-smaller : goal.loop-network-smaller
loop-network-smaller c =
    let l = c.loop-network in
    let turn-whole : l.at + (4 + length_size c.in-Length.metres) ≤ length c.args.plan.now =
    whole _ l.at l.network l.next c.next_command-step.ensures (ap outcome_of c.in-Edge.is) c.next_command-length.ensures (ap outcome_of c.in-Length.is) in
    omega (arith, turn-whole, c.length_size.ensures)

pub loop-network-preserved : goal.loop-network-preserved
loop-network-preserved c =
    let l = c.loop-network in
    ap₂ (λ x n. walk x (c.in-Edge.edge + 1) (drop (l.at + (4 + n)) c.args.plan.now)) c.put_edge.ensures c.length_size.ensures
    ∙ goes _ l.at l.network l.next c.next_command-step.ensures (ap outcome_of c.in-Edge.is) c.next_command-length.ensures (ap outcome_of c.in-Length.is)
    ∙ l.invariant
