-- Drills with drawn failures: which steps count, the final number, and what a draw does.
-- Assumes what the code's types say of the records.
use mathlib.Core.Path.{◌≡◌, refl, sym, ap, ◌∙◌}
use Prim.Native.Nat.{ℕ, suc, ◌<◌}
use native.Mathlib.Omega.{arith}
use Rattle.sequences.specs.Words.{range}
use Rattle.sequences.proofs.Counts.{count-nil}
use Rattle.sequences.proofs.Ranges.{exactly-same}
use Rattle.network.specs.declared.Network.{Network}
use Rattle.network.specs.Record.{unless_refused, present}
use Rattle.listing.specs.List.{cut_rows_after}
use Rattle.generator.specs.Generator.{advanced, draw_of}
use Rattle.simulation.specs.Steps.{state_after, down_after}
use Rattle.simulation.specs.Simulation.{silent_step, silent_steps, simulation_refusal, simulated_by}
use Rattle.simulation.proofs.Steps.{draw-up, draw-down, draw-others}
use Rattle.simulation.proofs.Laws.{steps-inside, steps-number}
use Rattle.simulation.proofs.Meaning.{simulation-run, simulation-means}
use Rattle.demands.specs.Drills.{DrillsCounted}
use Rattle.demands.proofs.DemandTwo.{demand-two}
use Rattle.demands.proofs.Replay.{holds_row}

module _ (N : Network) (n : ℕ) where
  number : (f r f' r' steps : ℕ) → (simulated_by N n f r steps).number ≡ (simulated_by N n f' r' steps).number
  unfolding simulated_by
  number f r f' r' steps =
      ap (λ m. unless_refused (simulation_refusal N steps) m 0) (steps-number (present N) n f r steps ∙ sym (steps-number (present N) n f' r' steps))

  -- The count of no steps is 0.
  none-counted : (f r : ℕ) → 0 ≡ silent_steps N n f r 0
  unfolding silent_steps range
  none-counted f r = sym (count-nil (silent_step N n f r))

  none-drawn : (f r : ℕ) → n ≡ (state_after (present N) n f r 0).number
  unfolding state_after
  none-drawn f r = refl

  no_steps : (f r : ℕ) → (simulated_by N n f r 0).refusal ≡ 0 → simulated_by N n f r 0 ≡ record { refusal = 0; silent = 0; number = n }
  unfolding simulated_by
  no_steps f r none = sym (simulation-run N n f r 0 (record { refusal = 0; silent = 0; number = n }) none refl (none-counted f r) (none-drawn f r))

first : (p n f r : ℕ) → down_after p n f r 0 ≡ 0
unfolding state_after
first p n f r = refl

draws : (n : ℕ) → draw_of (advanced n) < 256
draws n = omega arith

pub drills-counted : DrillsCounted
drills-counted = record {
  rows = λ N stored n f r steps cuts sides none listed.
      let row = holds_row N _ (cut_rows_after N cuts sides) _ (demand-two.list N stored cuts sides listed) in
      exactly-same (λ i. row (down_after (present N) n f r (suc i))) ((simulation-means N stored n f r steps refl).1.cut none);
  number = number;
  no_steps = no_steps;
  draws = draws;
  fails = draw-up;
  stays-down = draw-down;
  others = draw-others;
  first = first;
  inside = steps-inside;
}
