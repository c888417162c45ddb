-- The call that drills a hall with drawn failures: what it answers, and what that means.
-- To believe.
--
--   silent_step N n f r i        whether the edges down after step i, counted from 0, sever  [computed: silent-step (simulation/proofs/Meaning)]
--   silent_steps N n f r steps   how many of the steps do  [computed: steps-right (simulation/proofs/Meaning)]
--   simulation_refusal N steps   the call's refusal for a network and so many steps, 0 if there is none
--   Tallied                      a call's answer as numbers: the refusal, 0 if there is none, beside the steps that count and the final
--                                number, both 0 on refusal
--   tallied a                    the answer a of the call as such numbers
--   simulated_by N n f r steps   its answer for the start number n, the failure setting f and the repair setting r
--   StepsWhere N n f r steps P k     P holds of the edges down after exactly k of the steps
--   SimulationMeans N n f r steps e k m    what it means that the call gave the refusal e, the steps k and the number m
use Rattle.std.specs.Prelude.{Bool, Result, ◌↔◌, ◌≡◌, ℕ, suc, ◌+◌, ◌*◌, ◌≤◌, ◌<◌, ltb}
use Rattle.sequences.specs.Words.{range}
use Rattle.sequences.specs.Counts.{count_if, Exactly}
use Rattle.bitset.specs.Members.{size}
use Rattle.network.specs.declared.Network.{Network}
use Rattle.network.specs.declared.refusal.Refusal.{Refusal}
use Rattle.network.specs.Refusals.{refusal_of, answer_of}
use Rattle.network.specs.Record.{◌when◌, ◌then◌, unless_refused, fault_of, present, Stored}
use Rattle.network.specs.Rules.{Rules}
use Rattle.graph.specs.Paths.{Minpath}
use Rattle.graph.specs.Cuts.{Silenced, HoldsMincut}
use Rattle.graph.specs.CutTests.{severed}
use Rattle.generator.specs.Generator.{number_after}
use Rattle.simulation.specs.declared.Simulated.{Simulated}
use Rattle.simulation.specs.Steps.{state_after, down_after}

-- After step i, so after i + 1 steps.
abbrev pub silent_step : Network → ℕ → ℕ → ℕ → ℕ → Bool
silent_step N n f r i = severed N (down_after (present N) n f r (suc i))

unfoldable pub silent_steps : Network → ℕ → ℕ → ℕ → ℕ → ℕ
silent_steps N n f r steps = count_if (silent_step N n f r) (range 0 steps)

-- The record's first fault, then 25: more than 65,535 steps
unfoldable pub simulation_refusal : Network → ℕ → ℕ
simulation_refusal N steps = fault_of N then 25 when ltb 65535 steps

pub record Tallied : Type 0 where
  pub refusal : ℕ
  pub silent : ℕ
  pub number : ℕ

abbrev pub tallied : Result Simulated Refusal → Tallied
tallied a =
    let given = answer_of (record { silent = 0; number = 0 }) a in
    record { refusal = refusal_of a; silent = given.silent; number = given.number }

unfoldable pub simulated_by : Network → ℕ → ℕ → ℕ → ℕ → Tallied
simulated_by N n f r steps =
    let e = simulation_refusal N steps in
    record {
      refusal = e;
      silent = unless_refused e (silent_steps N n f r steps) 0;
      number = unless_refused e (state_after (present N) n f r steps).number 0;
    }

abbrev pub StepsWhere : Network → ℕ → ℕ → ℕ → ℕ → (ℕ → Type 0) → ℕ → Type 0
StepsWhere N n f r steps P = Exactly steps (λ i. P (down_after (present N) n f r (suc i)))

-- By the definitions of graph theory, both ways: the edges then down hold a minimal cut, and no route is left without them.
pub record SimulationMeans (N : Network) (n f r steps e k m : ℕ) : Type 0 where
  pub stored : Stored N
  -- Nothing is refused exactly if the record keeps the rules and there are not too many steps.
  pub kept : (e ≡ 0) ↔ (Rules N × (steps ≤ 65535))
  pub cut : e ≡ 0 → StepsWhere N n f r steps (HoldsMincut N) k
  pub routes : e ≡ 0 → StepsWhere N n f r steps (Silenced N) k
  -- Each present edge has taken a draw in each step: so the final number does not depend on the settings.
  pub draws : e ≡ 0 → m ≡ number_after n (steps * size 64 (present N))
  -- Without a route every step counts;
  pub no-route : e ≡ 0 → ((p : ℕ) → Minpath N p → ⊥) → k ≡ steps
  -- with one, none does at failure setting 0,
  pub never-fails : e ≡ 0 → (p : ℕ) → Minpath N p → f ≡ 0 → k ≡ 0
  -- and at repair setting 0 those that count are the last ones.
  pub never-repaired : e ≡ 0 → r ≡ 0 → (i : ℕ) → i < steps → HoldsMincut N (down_after (present N) n f r (suc i)) ↔ (steps < suc i + k)
  pub refused : (e ≡ 0 → ⊥) → (k ≡ 0) × (m ≡ 0)
