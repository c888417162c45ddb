-- Rows that are counted.
-- Working.
--
--   EdgesOf rows edges   the set `edges` holds the edges of the rows and no others
--   raised counts w      the counts with that of w raised by one
use mathlib.Core.List.{List, Memᴰ}
use Rattle.std.specs.Prelude.{◌↔◌, ℕ, ◌+◌, get_or, set}
use Rattle.bitset.specs.Members.{◌∈◌}

abbrev pub EdgesOf : List ℕ → ℕ → Type 0
EdgesOf rows edges = (k : ℕ) → (k ∈ edges) ↔ ((c : ℕ) × Memᴰ c rows × (k ∈ c))

abbrev pub raised : List ℕ → ℕ → List ℕ
raised counts w = set counts w (get_or counts w 0 + 1)
