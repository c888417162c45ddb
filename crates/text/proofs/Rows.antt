-- The lines of the rows, row by row.
-- Assumes nothing.
use mathlib.Core.Path.{◌≡◌, refl}
use mathlib.Core.List.{List, [], ◌∷◌, ◌++◌}
use mathlib.Core.Logic.{◌⊎◌, inl, inr}
use Prim.Native.Nat.{ℕ}
use Rattle.text.specs.declared.Page.{Page}
use Rattle.text.specs.Text.{line_of, row_lines}
use Rattle.text.proofs.Written.{Left}

-- Of some rows the line of the first is left, and then the others.
pub left-row : {p q : Page} {t cuts sides cuts' sides' : List ℕ} {c s : ℕ} → (cuts ≡ c ∷ cuts') × (sides ≡ s ∷ sides') → Left p t q (row_lines cuts sides)
    → Left p t q (line_of c s ++ row_lines cuts' sides')
unfolding row_lines
left-row {p} {q} {t} (e, f) left = rw (e, f) at left

lines-none : (cuts sides : List ℕ) → (cuts ≡ []) ⊎ (sides ≡ []) → row_lines cuts sides ≡ []
unfolding row_lines
lines-none cuts sides (inl e) = rw e
lines-none [] sides (inr e) = refl
lines-none (c ∷ cuts) sides (inr e) = rw e

-- When there is no further cut, or no further side, nothing is left.
pub left-nothing : {p q : Page} {t cuts sides : List ℕ} → (cuts ≡ []) ⊎ (sides ≡ []) → Left p t q (row_lines cuts sides) → Left p t q []
left-nothing {cuts = cuts} {sides} end left = rw (lines-none cuts sides end) at left
