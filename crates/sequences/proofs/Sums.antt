-- Sums over the numbers below a bound: how they grow, add up, and change where one value does.
-- Assumes nothing.
use mathlib.Core.Path.{◌≡◌, refl}
use mathlib.Core.Logic.{◌⊎◌, inl, inr, ◌≢◌}
use Prim.Native.Nat.{ℕ, zero, suc, ◌+◌, ◌≤◌, ◌<◌}
use native.Mathlib.Nat.{le_refl, not-suc-le-zero, le_of_suc-le-suc, eq-or-lt_of_le}
use native.Mathlib.Omega.{arith}
use Rattle.sequences.specs.Counts.{sum_below}

-- Below 0 there is nothing to add up.
pub sum-none : (f : ℕ → ℕ) → sum_below 0 f ≡ 0
unfolding sum_below
sum-none f = refl

-- One number more adds its value.
pub sum-suc : (n : ℕ) (f : ℕ → ℕ) → sum_below (suc n) f ≡ f n + sum_below n f
unfolding sum_below
sum-suc n f = refl

-- Equal values have equal sums.
pub sum_same : (n : ℕ) (f g : ℕ → ℕ) → ((k : ℕ) → k < n → f k ≡ g k) → sum_below n f ≡ sum_below n g
sum_same zero f g same = rw (sum-none f, sum-none g)
sum_same (suc n) f g same = rw (sum-suc n f, sum-suc n g, same n (le_refl (suc n)), sum_same n f g (λ k h. same k (omega arith)))

-- Larger values have a larger sum.
pub sum_mono : (n : ℕ) (f g : ℕ → ℕ) → ((k : ℕ) → k < n → f k ≤ g k) → sum_below n f ≤ sum_below n g
sum_mono zero f g more = omega (arith, sum-none f)
sum_mono (suc n) f g more =
    omega (arith, sum-suc n f, sum-suc n g, more n (le_refl (suc n)), sum_mono n f g (λ k h. more k (omega arith)))

-- Values that are at most 1 add up to no more than there are numbers.
pub sum_ones : (n : ℕ) (f : ℕ → ℕ) → ((k : ℕ) → k < n → f k ≤ 1) → sum_below n f ≤ n
sum_ones zero f ones = omega (arith, sum-none f)
sum_ones (suc n) f ones = omega (arith, sum-suc n f, ones n (le_refl (suc n)), sum_ones n f (λ k h. ones k (omega arith)))

-- The sum of sums is the sum of both.
pub sum-plus : (n : ℕ) (f g : ℕ → ℕ) → sum_below n (λ k. f k + g k) ≡ sum_below n f + sum_below n g
sum-plus zero f g = rw (sum-none (λ k. f k + g k), sum-none f, sum-none g)
sum-plus (suc n) f g = omega (arith, sum-suc n (λ k. f k + g k), sum-suc n f, sum-suc n g, sum-plus n f g)

-- Where the values differ at one number alone, the sums differ as they do there.
pub sum-change : (n i : ℕ) (f g : ℕ → ℕ) → i < n → ((k : ℕ) → k ≢ i → f k ≡ g k) → sum_below n f + g i ≡ sum_below n g + f i
sum-change zero i f g h same = absurd (not-suc-le-zero h)
sum-change (suc n) i f g h same = rw (sum-suc n f, sum-suc n g) (go (λ l. sum-change n i f g l same) (eq-or-lt_of_le (le_of_suc-le-suc h)))
  where
    go : (i < n → sum_below n f + g i ≡ sum_below n g + f i) → (i ≡ n) ⊎ (i < n) → f n + sum_below n f + g i ≡ g n + sum_below n g + f i
    go below (inl e) = rw (e, sum_same n f g (λ k l. same k (λ q. omega arith))) (omega arith)
    go below (inr l) = omega (arith, below l, same n (λ q. omega arith))
