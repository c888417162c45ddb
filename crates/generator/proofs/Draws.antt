-- Draws one after the other.
-- Assumes nothing.
use Rattle.std.proofs.Common.{◌≡◌, ℕ, zero, suc, ◌+◌, refl, ap, add-zero, add-suc}
use Rattle.generator.specs.Generator.{advanced, number_after}

module _ (s : ℕ) where
  -- The draws after the first are draws from the number of the first on,
  pub number-first : (k : ℕ) → number_after (advanced s) k ≡ number_after s (suc k)
  unfolding number_after
  number-first zero = refl
  number-first (suc k) = ap advanced (number-first k)

  -- and those after j draws from the number after j draws on.
  pub number-add : (j k : ℕ) → number_after (number_after s j) k ≡ number_after s (j + k)
  unfolding number_after
  number-add j zero = rw (add-zero j) refl
  number-add j (suc k) = rw (add-suc j k) (ap advanced (number-add j k))
