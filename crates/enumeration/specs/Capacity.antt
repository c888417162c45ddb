-- The room for rows in two lent areas, one of cuts and one of source sides.
-- Working.
--
--   Capacity n limit cuts sides     rows are counted to one past the limit, and n are; no area is longer than the limit
use Rattle.std.specs.Prelude.{List, ℕ, ◌+◌, ◌^◌, ◌≤◌, ◌<◌, length}

pub record Capacity (n limit : ℕ) (cuts sides : List ℕ) : Type 0 where
  pub counted : n ≤ limit + 1
  pub limited : limit + 1 < 2 ^ 64
  pub cuts-end : length cuts ≤ limit
  pub sides-end : length sides ≤ limit
