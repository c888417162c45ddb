-- The call that drills a hall: what it answers on each way out, and what that means.
-- Assumes, for what the steps mean, what the code's types say of the record.
use mathlib.Core.Logic.{◌↔◌}
use mathlib.Core.Path.{◌≡◌, refl, ap, ◌∙◌}
use Prim.Native.Nat.{ℕ, suc, ◌≤◌, ◌<◌}
use native.Mathlib.Decide.{ℕ_discrete}
use native.Mathlib.Omega.{arith}
use borrow.Author.Tests.{ltb-false, lt-ltb, le-ltb}
use lib.Dec.{T}
use Rattle.std.specs.Prelude.{Result, Ok, Err}
use Rattle.std.specs.Result.{IsErrAnd}
use Rattle.sequences.specs.Counts.{Exactly}
use Rattle.sequences.proofs.Ranges.{exactly-counted}
use Rattle.network.specs.declared.Network.{Network}
use Rattle.network.specs.declared.refusal.Refusal.{Refusal}
use Rattle.network.specs.Refusals.{number_of}
use Rattle.network.specs.Record.{fault_of, present, Stored}
use Rattle.network.specs.Rules.{Rules}
use Rattle.network.proofs.Refusals.{number-some, then-none, none_then, some_then, when-none, none-when, some-when, refused-some}
use Rattle.network.proofs.Rules.{fault-rules}
use Rattle.graph.specs.Cuts.{Silenced, HoldsMincut}
use Rattle.graph.specs.Reach.{Bounded}
use Rattle.graph.proofs.Cuts.{severed-silenced, holds-silenced}
use Rattle.graph.proofs.Sound.{accepted-sound}
use Rattle.simulation.specs.declared.Simulated.{Simulated}
use Rattle.simulation.specs.Steps.{state_after, down_after}
use Rattle.simulation.specs.Simulation.{silent_step, silent_steps, simulation_refusal, Tallied, tallied, simulated_by, StepsWhere, SimulationMeans}
use Rattle.simulation.proofs.Laws.{steps-number, no-route, never-fails, never-repaired}

-- ---- the ways out

module _ (N : Network) (n f r steps : ℕ) where
  -- A refusal gives 0 and 0.
  pub simulation-refused : (e : ℕ) → e ≡ simulation_refusal N steps → (e ≡ 0 → ⊥)
      → record { refusal = e; silent = 0; number = 0 } ≡ simulated_by N n f r steps
  unfolding simulated_by
  simulation-refused e same some =
      rw (← same, refused-some e (silent_steps N n f r steps) 0 some, refused-some e (state_after (present N) n f r steps).number 0 some) refl

  -- So does one that is passed on.
  pub simulation-passed : (a : Result Simulated Refusal) (e : Refusal) → IsErrAnd a (λ q. q ≡ e) → number_of e ≡ simulation_refusal N steps
      → tallied a ≡ simulated_by N n f r steps
  simulation-passed (Ok x) e h same = absurd h
  simulation-passed (Err q) e h same = simulation-refused (number_of q) (ap number_of h ∙ same) (number-some q)

  -- Without one the steps are counted.
  pub simulation-run : (answer : Tallied) → simulation_refusal N steps ≡ 0 → answer.refusal ≡ 0 → answer.silent ≡ silent_steps N n f r steps
      → answer.number ≡ (state_after (present N) n f r steps).number → answer ≡ simulated_by N n f r steps
  unfolding simulated_by
  simulation-run answer none e counted last = rw none (λ i. record { refusal = e i; silent = counted i; number = last i })

module _ (N : Network) (steps : ℕ) where
  -- A fault of the record refuses, then 25.
  pub refusal-faulty : (fault_of N ≡ 0 → ⊥) → simulation_refusal N steps ≡ fault_of N
  unfolding simulation_refusal
  refusal-faulty some = some_then (fault_of N) _ (omega arith)

  module _ (ok : fault_of N ≡ 0) where
    pub refusal-many : 65535 < steps → simulation_refusal N steps ≡ 25
    unfolding simulation_refusal
    refusal-many l = none_then _ ok ∙ some-when 25 (lt-ltb 65535 steps l)

    pub refusal-none : steps ≤ 65535 → simulation_refusal N steps ≡ 0
    unfolding simulation_refusal
    refusal-none l = none_then _ ok ∙ none-when 25 (le-ltb 65535 steps l)

  -- Nothing is refused exactly if the record keeps the rules and there are not too many steps.
  pub simulation-none : (simulation_refusal N steps ≡ 0) ↔ (Rules N × (steps ≤ 65535))
  unfolding simulation_refusal
  simulation-none = (
    λ e.
        let a = then-none (fault_of N) _ e in
        ((fault-rules N).0 a.0, ltb-false _ _ (when-none 25 _ (omega arith) a.1)),
    λ k. refusal-none ((fault-rules N).1 k.0) k.1,
  )

-- ---- what the steps mean

module _ (N : Network) (stored : Stored N) (ok : fault_of N ≡ 0) (n f r : ℕ) where
  abbrev B : Bounded N
  B = (accepted-sound N stored ok).bounded

  -- A step is silent exactly if the edges then down leave no route,
  pub silent-step : (i : ℕ) → T (silent_step N n f r i) ↔ Silenced N (down_after (present N) n f r (suc i))
  silent-step i = severed-silenced N B (down_after (present N) n f r (suc i))

  -- so the steps of which this holds are as many as are counted.
  pub steps-right : (steps : ℕ) (P : ℕ → Type 0) → ((i : ℕ) → T (silent_step N n f r i) ↔ P i) → Exactly steps P (silent_steps N n f r steps)
  unfolding silent_steps
  steps-right steps P right = exactly-counted (silent_step N n f r) steps P right

  -- Both ways.
  silent-routes : (steps : ℕ) → StepsWhere N n f r steps (Silenced N) (silent_steps N n f r steps)
  silent-routes steps = steps-right steps _ silent-step

  silent-cut : (steps : ℕ) → StepsWhere N n f r steps (HoldsMincut N) (silent_steps N n f r steps)
  silent-cut steps = steps-right steps _ (λ i.
      let routes = silent-step i in
      let cut = holds-silenced N B (down_after (present N) n f r (suc i)) in
      (λ t. cut.1 (routes.0 t), λ k. routes.1 (cut.0 k)))

-- What the call answers means what it should.
call-means : (N : Network) → Stored N → (n f r steps : ℕ)
    → let a = simulated_by N n f r steps in SimulationMeans N n f r steps a.refusal a.silent a.number
call-means N stored n f r steps = go (ℕ_discrete (simulation_refusal N steps) 0)
  where
    go : Dec (simulation_refusal N steps ≡ 0) → let a = simulated_by N n f r steps in SimulationMeans N n f r steps a.refusal a.silent a.number
    go (yes e) =
        let kept = (simulation-none N steps).0 e in
        let counted : Tallied = record { refusal = 0; silent = silent_steps N n f r steps; number = (state_after (present N) n f r steps).number } in
        let ok = (fault-rules N).1 kept.0 in
        let B = (accepted-sound N stored ok).bounded in
        rw (← simulation-run N n f r steps counted e refl refl refl) (record {
          stored = stored;
          kept = (λ z. kept, λ k. refl);
          cut = λ z. silent-cut N stored ok n f r steps;
          routes = λ z. silent-routes N stored ok n f r steps;
          draws = λ z. steps-number (present N) n f r steps;
          no-route = λ z none. no-route N B n f r steps none;
          never-fails = λ z p m zero. rw zero (never-fails N B n r steps p m);
          never-repaired = λ z zero i h. rw zero (never-repaired N B n f steps i h);
          refused = λ some. absurd (some refl);
        })
    go (no some) =
        rw (← simulation-refused N n f r steps _ refl some) (record {
          stored = stored;
          kept = simulation-none N steps;
          cut = λ z. absurd (some z);
          routes = λ z. absurd (some z);
          draws = λ z. absurd (some z);
          no-route = λ z none. absurd (some z);
          never-fails = λ z p m zero. absurd (some z);
          never-repaired = λ z zero i h. absurd (some z);
          refused = λ z. (refl, refl);
        })

-- Beside the answer stands what it means.
pub simulation-means : (N : Network) → Stored N → (n f r steps : ℕ) {answer : Tallied} → answer ≡ simulated_by N n f r steps
    → (answer ≡ simulated_by N n f r steps) × SimulationMeans N n f r steps answer.refusal answer.silent answer.number
simulation-means N stored n f r steps a = (a, rw a (call-means N stored n f r steps))
