-- Lists without repeats.
-- To believe.
--
--   Distinct l       no element stands in l twice
--   More P n         more than n numbers have P: so many different ones can be named
--   once l           the elements of l, each once  [computed: in-once, once-distinct (sequences/proofs/Distinct)]
use Rattle.std.specs.Prelude.{true, false, not, ℕ, ◌<◌, eqb, length}
use mathlib.Core.List.{List, [], ◌∷◌, Memᴰ}
use Rattle.sequences.specs.Words.{every}

unfoldable pub Distinct : List ℕ → Type 0
Distinct [] = Unit {0}
Distinct (x ∷ l) = (Memᴰ x l → ⊥) × Distinct l

pub record More (P : ℕ → Type 0) (n : ℕ) : Type 0 where
  pub named : List ℕ
  pub more : n < length named
  pub distinct : Distinct named
  pub each : (x : ℕ) → Memᴰ x named → P x

-- Of equal elements the last stays.
unfoldable pub once : List ℕ → List ℕ
once [] = []
once (x ∷ l) = elim (every (λ y. not (eqb x y)) l) [ true ↦ x ∷ once l | false ↦ once l ]
