-- Drills with drawn failures: which steps count by the list call's rows, that the final number does not depend on the settings, and what a
-- draw does. What counts by the definitions of graph theory, and the laws for every start, are in the call's own contract
-- (`SimulationMeans`, simulation/specs/Simulation).
-- To believe.
--
--   DrillsCounted        the steps by the rows, the final number, what a draw does, and which edges can be down
use Rattle.std.specs.Prelude.{List, ◌↔◌, ◌≡◌, ℕ, ◌≤◌, ◌<◌, get_or}
use Rattle.bitset.specs.Members.{◌⊆◌, ◌∈◌}
use Rattle.network.specs.declared.Network.{Network}
use Rattle.network.specs.Record.{Stored}
use Rattle.listing.specs.List.{listed_by, cut_rows_after}
use Rattle.generator.specs.Generator.{advanced, draw_of}
use Rattle.simulation.specs.Steps.{after_draw, down_after}
use Rattle.simulation.specs.Simulation.{simulated_by, StepsWhere}

pub record DrillsCounted : Type 0 where
  -- Where the list call lists, the steps that end with all cables of some row down.
  pub rows : (N : Network) → Stored N → (n f r steps : ℕ) (cuts sides : List ℕ) → (simulated_by N n f r steps).refusal ≡ 0
      → (listed_by N cuts sides).refusal ≡ 0
      → StepsWhere N n f r steps (λ d. (j : ℕ) × (j < (listed_by N cuts sides).count) × (get_or (cut_rows_after N cuts sides) j 0 ⊆ d))
      (simulated_by N n f r steps).silent
  -- Whatever the settings, on refusal too.
  pub number : (N : Network) (n f r f' r' steps : ℕ) → (simulated_by N n f r steps).number ≡ (simulated_by N n f' r' steps).number
  -- Without steps nothing counts and nothing is drawn.
  pub no_steps : (N : Network) (n f r : ℕ) → (simulated_by N n f r 0).refusal ≡ 0
      → simulated_by N n f r 0 ≡ record { refusal = 0; silent = 0; number = n }
  -- A draw is one of 0 to 255.
  pub draws : (n : ℕ) → draw_of (advanced n) < 256
  -- A cable up fails exactly if its draw is below the failure setting, one down stays down exactly if it is not below the repair setting,
  -- and the draw changes no other.
  pub fails : (f r d k x : ℕ) → (k ∈ d → ⊥) → (k ∈ after_draw f r d k x) ↔ (x < f)
  pub stays-down : (f r d k x : ℕ) → k ∈ d → (k ∈ after_draw f r d k x) ↔ (r ≤ x)
  pub others : (f r d k x j : ℕ) → (j ≡ k → ⊥) → (j ∈ after_draw f r d k x) ↔ (j ∈ d)
  -- At first nothing is down, and never a cable that is not present.
  pub first : (p n f r : ℕ) → down_after p n f r 0 ≡ 0
  pub inside : (p n f r i : ℕ) → down_after p n f r i ⊆ p
