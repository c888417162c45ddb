-- For networks that agree and have the same edges present, the call that drills a hall answers alike.
-- Assumes accepted networks.
use mathlib.Core.Path.{◌≡◌, ap, ◌∙◌}
use Prim.Native.Nat.{ℕ, suc}
use Rattle.sequences.specs.Words.{range}
use Rattle.sequences.specs.Counts.{count_if}
use Rattle.network.specs.declared.Network.{Network}
use Rattle.network.specs.Record.{Stored, fault_of, present}
use Rattle.graph.specs.CutTests.{severed}
use Rattle.graph.proofs.Sound.{accepted-sound}
use Rattle.graph.proofs.Agree.{Agree, severed-agree}
use Rattle.simulation.specs.Steps.{down_after}
use Rattle.simulation.specs.Simulation.{silent_step, silent_steps, simulation_refusal, simulated_by}

module _ (N M : Network) (stored : Stored N) (stored' : Stored M) (ok : fault_of N ≡ 0) (ok' : fault_of M ≡ 0) (a : Agree N M)
    (same : present N ≡ present M) (n f r steps : ℕ) where
  -- The same edges are down, and the same sets sever.
  steps-agree : silent_steps N n f r steps ≡ silent_steps M n f r steps
  unfolding silent_steps
  steps-agree =
      let S = accepted-sound N stored ok in
      let S' = accepted-sound M stored' ok' in
      let each : (i : ℕ) → silent_step N n f r i ≡ silent_step M n f r i = λ i.
      ap (λ p. severed N (down_after p n f r (suc i))) same ∙ severed-agree N M a S S' (down_after (present M) n f r (suc i)) in
      λ j. count_if (λ (i : ℕ). each i j) (range 0 steps)

  refusal-agrees : simulation_refusal N steps ≡ simulation_refusal M steps
  unfolding simulation_refusal
  refusal-agrees = rw (ok, ok')

  pub simulation-agrees : simulated_by N n f r steps ≡ simulated_by M n f r steps
  unfolding simulated_by
  simulation-agrees = rw (refusal-agrees, steps-agree, same)
