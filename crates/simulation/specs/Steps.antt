-- A drill step by step. Its state is the number last drawn from, and the edges down.
-- To believe.
--
--   after_draw f r d k x  the edges down after the edge k has drawn x, where d were down before, at failure setting f and repair setting r
--   turn f r s k         the state after the draw of the edge k, where s was the state before
--   step f r l s         the state after each edge of l, one after the other, has taken a draw
--   state_after p n f r i    the state after i steps from the start number n on, where the edges p are present
--   down_after p n f r i  the edges then down
--   after_draws d a b    the edges down after a step, where d were down before, the draws of a were below the failure setting, and those
--                        of b below the repair setting  [working]
use Rattle.std.specs.Prelude.{true, false, List, [], ◌∷◌, ℕ, zero, suc, ◌^◌, ltb}
use Rattle.std.specs.Int.Bits.{bit_or}
use Rattle.bitset.specs.Members.{has, insert, ◌∖◌, members}
use Rattle.generator.specs.Generator.{advanced, draw_of}
use Rattle.simulation.specs.declared.State.{State}

-- An edge up fails if the draw is below the failure setting; an edge down is repaired if it is below the repair setting.
unfoldable pub after_draw : ℕ → ℕ → ℕ → ℕ → ℕ → ℕ
after_draw f r d k x =
    elim (has d k) [
      | true ↦ elim (ltb x r) [ true ↦ d ∖ 2 ^ k | false ↦ d ]
      | false ↦ elim (ltb x f) [ true ↦ insert d k | false ↦ d ]
    ]

-- The number is replaced, whether the edge is up or down.
unfoldable pub turn : ℕ → ℕ → State → ℕ → State
turn f r s k =
    let n = advanced s.number in
    record { number = n; down = record { 0 = after_draw f r s.down.0 k (draw_of n) } }

unfoldable pub step : ℕ → ℕ → List ℕ → State → State
step f r [] s = s
step f r (k ∷ l) s = step f r l (turn f r s k)

-- All edges start up. In each step every present edge, in rising order, takes one draw.
unfoldable pub state_after : ℕ → ℕ → ℕ → ℕ → ℕ → State
state_after p n f r zero = record { number = n; down = record { 0 = 0 } }
state_after p n f r (suc i) = step f r (members 64 p) (state_after p n f r i)

abbrev pub down_after : ℕ → ℕ → ℕ → ℕ → ℕ → ℕ
down_after p n f r i = (state_after p n f r i).down.0

-- What was down and is not repaired, and what was up and fails.
abbrev pub after_draws : ℕ → ℕ → ℕ → ℕ
after_draws d a b = bit_or (d ∖ b) (a ∖ d)
