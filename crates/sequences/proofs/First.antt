-- The first number that has a property, where it is decided which have it.
-- Assumes nothing.
use mathlib.Core.Logic.{◌⊎◌, inl, inr}
use Prim.Native.Nat.{ℕ, zero, suc, ◌≤◌, ◌<◌}
use native.Mathlib.Nat.{not-suc-le-zero, le_of_suc-le-suc, eq-or-lt_of_le}
use native.Mathlib.Omega.{arith}

module _ (P : ℕ → Type 0) (decided : (k : ℕ) → Dec (P k)) where
  -- None of the numbers below n has it, or one of them is the first.
  none-or-first : (n : ℕ) → ((k : ℕ) → k < n → P k → ⊥) ⊎ ((k : ℕ) × (k < n) × P k × ((j : ℕ) → j < k → P j → ⊥))
  none-or-first zero = inl (λ k h p. not-suc-le-zero h)
  none-or-first (suc n) = go (none-or-first n) (decided n)
    where
      go : ((k : ℕ) → k < n → P k → ⊥) ⊎ ((k : ℕ) × (k < n) × P k × ((j : ℕ) → j < k → P j → ⊥)) → Dec (P n)
          → ((k : ℕ) → k < suc n → P k → ⊥) ⊎ ((k : ℕ) × (k < suc n) × P k × ((j : ℕ) → j < k → P j → ⊥))
      go (inr (k, h, p, none)) d = inr (k, omega arith, p, none)
      go (inl none) (yes p) = inr (n, omega arith, p, none)
      go (inl none) (no q) = inl (λ k h p. elim (eq-or-lt_of_le (le_of_suc-le-suc h)) [ inl e ↦ q (rw e at p) | inr l ↦ none k l p ])

  -- Where a number has it, the first is no higher.
  pub first-number : (n : ℕ) → P n → (k : ℕ) × (k ≤ n) × P k × ((j : ℕ) → j < k → P j → ⊥)
  first-number n p = go (none-or-first (suc n))
    where
      go : ((k : ℕ) → k < suc n → P k → ⊥) ⊎ ((k : ℕ) × (k < suc n) × P k × ((j : ℕ) → j < k → P j → ⊥))
          → (k : ℕ) × (k ≤ n) × P k × ((j : ℕ) → j < k → P j → ⊥)
      go (inl none) = absurd (none n (omega arith) p)
      go (inr (k, h, q, none)) = (k, omega arith, q, none)
