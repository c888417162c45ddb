-- What the methods of the sets give, as equations of numbers.
-- Assumes nothing.
use mathlib.Core.Path.{◌≡◌, refl, sym, ◌∙◌}
use mathlib.Core.Bool.{Bool, true, false, not, ◌&&◌, ◌||◌, and-true, or-false, true≢false}
use mathlib.Core.Logic.{◌⊎◌, inl, inr, ◌↔◌}
use Prim.Native.Nat.{ℕ, ◌-◌, ◌%◌, ◌^◌, ◌≤◌, ◌<◌}
use native.Mathlib.Nat.{mod-eq_of_lt}
use native.Mathlib.Omega.{arith}
use borrow.Author.Tests.{lt-ltb, eq-eqb, eqb-true, not-true, not-false}
use lib.Bits.{bit_and, bit_or}
use lib.Dec.{eqb, ltb, ltb→lt, lt→ltb}
use Rattle.bitset.specs.Members.{has, ◌∈◌, insert, ◌∖◌}
use Rattle.bitset.specs.Decides.{Decides}
use Rattle.bitset.specs.Families.{Meets}
use Rattle.sequences.proofs.Tests.{T-or, T_and}
use Rattle.bitset.proofs.Members.{same-members, has-zero, has-power, has-ones, has-mod, has-and, has-or, has-minus, has-insert, eqb-cases}
use Rattle.bitset.proofs.Subsets.{and-absorb}
use Rattle.bitset.proofs.Sets.{in-minus, in-drop, not-zero, empty-or-member}

-- The empty set is 0.
pub empty-zero : (t : ℕ) → ((j : ℕ) → has t j ≡ false) → t ≡ 0
empty-zero t none = same-members t 0 (λ j. rw (none j, has-zero j))

module _ (w : ℕ) where
  -- The set of a member below the width is a power.
  pub single-power : (k t : ℕ) → k < w → ((j : ℕ) → has t j ≡ eqb j k && ltb k w) → t ≡ 2 ^ k
  single-power k t h alone = same-members t (2 ^ k) (λ j. rw (alone j, has-power k j, lt-ltb k w h) (and-true (eqb j k)))

  -- The set of the numbers below one that is within the width is one less than a power.
  pub below-ones : (n t : ℕ) → n ≤ w → ((j : ℕ) → has t j ≡ ltb j n && ltb j w) → t ≡ 2 ^ n - 1
  below-ones n t h under =
      same-members t (2 ^ n - 1) (λ j.
      rw (under j, has-ones n j)
      (and-absorb (ltb j n) (ltb j w) (λ b. let l : j < n = ltb→lt j n b in lt→ltb j w (omega arith))))

  -- To add a member below the width is to insert it.
  pub with-member : (s k t : ℕ) → k < w → ((j : ℕ) → has t j ≡ has s j || (eqb j k && ltb k w)) → t ≡ insert s k
  with-member s k t h added =
      same-members t (insert s k) (λ j. rw (added j, has-insert s k j, lt-ltb k w h, and-true (eqb j k)))

-- To take a member away is to take off its power.
pub without-minus : (s k t : ℕ) → ((j : ℕ) → has t j ≡ has s j && not (eqb j k)) → t ≡ s ∖ 2 ^ k
without-minus s k t less = same-members t (s ∖ 2 ^ k) (λ j. rw (less j, has-minus s (2 ^ k) j, has-power k j))

-- Its members are the other ones.
pub in_without : (s k t : ℕ) → ((j : ℕ) → has t j ≡ has s j && not (eqb j k)) → (j : ℕ) → (j ∈ t) ↔ ((j ∈ s) × (j ≡ k → ⊥))
in_without s k t less j = rw (without-minus s k t less) (in-drop s k j)

-- The members that another set lacks.
pub difference-minus : (s u t : ℕ) → ((j : ℕ) → has t j ≡ has s j && not (has u j)) → t ≡ s ∖ u
difference-minus s u t less = same-members t (s ∖ u) (λ j. rw (less j, has-minus s u j))

-- Its members are those that the other set lacks.
pub in-difference : (s u t : ℕ) → ((j : ℕ) → has t j ≡ has s j && not (has u j)) → (j : ℕ) → (j ∈ t) ↔ ((j ∈ s) × (j ∈ u → ⊥))
in-difference s u t less j = rw (difference-minus s u t less) (in-minus s u j)

-- The members of both.
pub intersection-and : (s u t : ℕ) → ((j : ℕ) → has t j ≡ has s j && has u j) → t ≡ bit_and s u
intersection-and s u t both = same-members t (bit_and s u) (λ j. rw (both j, has-and s u j))

-- Its members are those of both.
pub in-intersection : (s u t : ℕ) → ((j : ℕ) → has t j ≡ has s j && has u j) → (j : ℕ) → (j ∈ t) ↔ ((j ∈ s) × (j ∈ u))
in-intersection s u t both j = rw (both j) (T_and (has s j) (has u j))

-- The members of either.
pub union-or : (s u t : ℕ) → ((j : ℕ) → has t j ≡ has s j || has u j) → t ≡ bit_or s u
union-or s u t either = same-members t (bit_or s u) (λ j. rw (either j, has-or s u j))

-- Its members are those of either.
pub in-union : (s u t : ℕ) → ((j : ℕ) → has t j ≡ has s j || has u j) → (j : ℕ) → (j ∈ t) ↔ ((j ∈ s) ⊎ (j ∈ u))
in-union s u t either j = rw (either j) (T-or (has s j) (has u j))

-- A set below 2 ^ w has no member past w.
has_within : (w s : ℕ) → s < 2 ^ w → (j : ℕ) → has s j ≡ ltb j w && has s j
has_within w s h j = rw (mod-eq_of_lt h) at (has-mod w s j)

-- To add k to a word where k is below its width is to insert it, and to keep what fits.
pub with-insert : (w s k t : ℕ) → s < 2 ^ w → ((j : ℕ) → has t j ≡ has s j || (eqb j k && ltb k w)) → t ≡ insert s k % 2 ^ w
with-insert w s k t h added =
    same-members t (insert s k % 2 ^ w) (λ j.
    rw (added j, has-mod w (insert s k) j, has-insert s k j)
    (eqb-cases j k (λ b. has s j || (b && ltb k w) ≡ ltb j w && (has s j || b))
    (λ q. rw (← q) (here (has s j) (ltb j w) (has_within w s h j)))
    (rw (or-false (has s j)) (has_within w s h j))))
  where
    here : (a b : Bool) → a ≡ b && a → a || b ≡ b && (a || true)
    here true true e = refl
    here true false e = absurd (true≢false e)
    here false true e = refl
    here false false e = refl

-- Two sets meet unless there are no common members.
pub meets-test : (s t both : ℕ) → ((k : ℕ) → (k ∈ both) ↔ ((k ∈ s) × (k ∈ t))) → {none : Bool} → none ≡ eqb both 0 → Decides (not none) (Meets s t)
meets-test s t both common {none} e = record { holds = λ h. some (sym e ∙ not-true none h); fails = λ h. apart (sym e ∙ not-false none h) }
  where
    some : eqb both 0 ≡ false → Meets s t
    some f = elim (empty-or-member both) [ inl z ↦ absurd (true≢false (sym (eq-eqb both 0 z) ∙ f)) | inr m ↦ (m.0, (common m.0).0 m.1) ]

    apart : eqb both 0 ≡ true → Meets s t → ⊥
    apart t (k, m) = not-zero k (rw (eqb-true both 0 t) at ((common k).1 m))
