-- What the width table holds: each count is the number of rows of its width, and the counts sum to the number of rows.
-- Assumes nothing.
use mathlib.Core.Path.{◌≡◌, sym, ap, ◌∙◌}
use mathlib.Core.List.Memᴰ
use mathlib.Core.List.{List, [], map, map_congr_left, Memᴰ}
use mathlib.Core.Logic.{∥∥₁_elim}
use Prim.Native.Nat.{ℕ, ◌<◌}
use native.Mathlib.Nat.{ℕ_set}
use lib.Dec.{eqb}
use lib.ListN.{length, get_or, replicate, length-map}
use Rattle.sequences.specs.Counts.{sum, count_if, tally}
use Rattle.sequences.proofs.Counts.{count_map}
use Rattle.sequences.proofs.Tally.{length-tally, tally-at, tally-none, tally-sum}
use Rattle.network.specs.declared.Network.{Network}
use Rattle.widths.specs.Widths.{width_of, width_table}
use Rattle.widths.proofs.Pairs.{width-lt}

module _ (N : Network) where
  -- There are 65 counts.
  pub length-table : (cuts : List ℕ) → length (width_table N cuts) ≡ 65
  unfolding width_table
  length-table cuts = length-tally 65 (map (width_of N) cuts)

  -- The count at w is the number of cuts of width w.
  pub table_at : (cuts : List ℕ) (w : ℕ) → w < 65 → get_or (width_table N cuts) w 0 ≡ count_if (λ c. eqb w (width_of N c)) cuts
  unfolding width_table
  table_at cuts w h = tally-at 65 (map (width_of N) cuts) w h ∙ count_map (eqb w) (width_of N) cuts

  -- Before the first row every count is 0.
  pub table_none : replicate 65 0 ≡ width_table N []
  unfolding width_table
  table_none = tally-none 65

  -- Each width has a count.
  widths-lt : (cuts : List ℕ) (w : ℕ) → Memᴰ w (map (width_of N) cuts) → w < 65
  widths-lt cuts w m = let (c, i, e) = Memᴰ.of_map (width_of N) cuts m in width-lt N c (sym e)

  -- The counts sum to the number of rows.
  pub table-sum : (cuts : List ℕ) → sum (width_table N cuts) ≡ length cuts
  unfolding width_table
  table-sum cuts = tally-sum 65 (map (width_of N) cuts) (widths-lt cuts) ∙ length-map cuts (width_of N)

  -- Where f says the width of each row, the table counts by f.
  pub table-by : (f : ℕ → ℕ) (cuts : List ℕ) → ((c : ℕ) → Memᴰ c cuts → width_of N c ≡ f c) → width_table N cuts ≡ tally 65 (map f cuts)
  unfolding width_table
  table-by f cuts same = ap (tally 65) (map_congr_left (λ c m. ∥∥₁_elim m (ℕ_set (width_of N c) (f c)) (same c)))
