-- How many members a set has, which one is the lowest, and how the counts of a number's digits tell both.
-- Assumes nothing.
use mathlib.Core.Path.{◌≡◌, refl, sym, ap, ◌∙◌}
use mathlib.Core.Logic.{◌↔◌, ◌⊎◌, inl, inr}
use mathlib.Core.Bool.{Bool, true, false, not, ◌&&◌, or-false, and-true, and_self, true≢false}
use Prim.Native.Nat.{ℕ, zero, suc, ◌+◌, ◌-◌, ◌/◌, ◌%◌, ◌^◌, ◌≤◌, ◌<◌, zero-le, suc-le-suc}
use native.Mathlib.Nat.{le_refl, pow-suc, not-suc-le-zero, le_of_suc-le-suc, zero-lt-suc, eq-or-lt_of_le, lt_of_lt_of_le}
use native.Mathlib.Omega.{arith}
use borrow.Author.Tests.{ne_eqb}
use lib.Arith.{lt-one}
use lib.Bits.{bit_and}
use lib.Count.{ones, count_trailing_zeros, under, ones_step, ones-ones}
use lib.Dec.{eqb, eqb-suc-zero, eqb-suc-suc}
use Rattle.sequences.specs.Counts.{bit, sum_below}
use Rattle.sequences.proofs.Counts.{bit-mono}
use Rattle.sequences.proofs.Sums.{sum-none, sum-suc}
use Rattle.bitset.specs.Members.{has, ◌⊆◌, insert, size, Lowest}
use Rattle.bitset.proofs.Members.{has_first, first-digit, has-next, has-insert, has-inserted, has-and}
use Rattle.bitset.proofs.Subsets.{insert-⊆}

-- Nothing stands below 0.
pub size_none : (s : ℕ) → size 0 s ≡ 0
unfolding size
size_none s = refl

-- The count below w + 1 is the count below w, and one more if w is a member.
pub size-suc : (w s : ℕ) → size (suc w) s ≡ bit (has s w) + size w s
unfolding size
size-suc w s = go (has s w)
  where
    go : (b : Bool) → elim b [ true ↦ suc (size w s) | false ↦ size w s ] ≡ bit b + size w s
    go true = omega arith
    go false = omega arith

-- So it is the sum of the members' marks.
pub size-sum : (w s : ℕ) → size w s ≡ sum_below w (λ k. bit (has s k))
size-sum zero s = rw (size_none s, sum-none (λ k. bit (has s k)))
size-sum (suc w) s = rw (size-suc w s, sum-suc w (λ k. bit (has s k)), size-sum w s)

-- Sets with the same members below w have as many there.
pub size_same : (w s t : ℕ) → ((k : ℕ) → k < w → has s k ≡ has t k) → size w s ≡ size w t
size_same zero s t same = rw (size_none s, size_none t)
size_same (suc w) s t same =
    rw (size-suc w s, size-suc w t, same w (le_refl (suc w)), size_same w s t (λ k h. same k (omega arith)))

-- A subset has no more members.
pub size_mono : (w s t : ℕ) → s ⊆ t → size w s ≤ size w t
size_mono zero s t h = omega (arith, size_none s)
size_mono (suc w) s t h = omega (arith, size-suc w s, size-suc w t, bit-mono (has s w) (has t w) (h w), size_mono w s t h)

-- No more than w members stand below w.
pub size-le : (w s : ℕ) → size w s ≤ w
size-le zero s = omega (arith, size_none s)
size-le (suc w) s = omega (arith, size-suc w s, bit-mono (has s w) true (λ _. tt), size-le w s)

-- A new member below w is one more.
pub size-insert : (w s k : ℕ) → k < w → has s k ≡ false → size w (insert s k) ≡ suc (size w s)
size-insert zero s k h e = absurd (not-suc-le-zero h)
size-insert (suc w) s k h e = go (λ l. size-insert w s k l e) (eq-or-lt_of_le (le_of_suc-le-suc h))
  where
    other : (j : ℕ) → (j ≡ k → ⊥) → has (insert s k) j ≡ has s j
    other j n = rw (has-insert s k j, ne_eqb j k n, or-false (has s j))

    go : (k < w → size w (insert s k) ≡ suc (size w s)) → (k ≡ w) ⊎ (k < w) → size (suc w) (insert s k) ≡ suc (size (suc w) s)
    go below (inr l) = rw (size-suc w (insert s k), size-suc w s, other w (λ q. omega arith), below l) (omega arith)
    go below (inl q) =
        let there : has (insert s k) w ≡ true = rw (← q) (has-inserted s k) in
        let lacks : has s w ≡ false = rw (← q) e in
        let rest : size w (insert s k) ≡ size w s = size_same w (insert s k) s (λ j l. other j (λ p. omega arith)) in
        rw (size-suc w (insert s k), size-suc w s, there, lacks, rest) (omega arith)

-- A subset that lacks a member below w has fewer.
pub size-lt : (w s t k : ℕ) → s ⊆ t → k < w → has t k ≡ true → has s k ≡ false → size w s < size w t
size-lt w s t k h l there lacks = rw (← size-insert w s k l lacks) (size_mono w (insert s k) t (insert-⊆ s t k h there))

-- The count below w + 1 is that of the half below w, and one more if 0 is a member.
size-half : (w s : ℕ) → size (suc w) s ≡ bit (has s 0) + size w (s / 2)
size-half zero s = rw (size-suc 0 s, size_none s, size_none (s / 2))
size-half (suc w) s = rw (size-suc (suc w) s, size-half w s, size-suc w (s / 2), has-next s w) (omega arith)

-- The digits of a number below 2 ^ w that are 1 are its members.
pub ones-size : (w : ℕ) {s : ℕ} → s < 2 ^ w → ones s ≡ size w s
ones-size zero {s} h = rw (lt-one h, size_none 0) (ones-ones 0)
ones-size (suc w) {s} h = rw (ones_step s, size-half w s, first-digit s, ones-size w {s = s / 2} (omega (arith, pow-suc 2 w)))

-- The zeros below the lowest digit that is 1 are as many as the lowest member.
pub lowest-trailing : (w s : ℕ) → Lowest w s (count_trailing_zeros w s)
unfolding count_trailing_zeros
lowest-trailing zero s = record { within = zero-le; none_below = λ k h. absurd (not-suc-le-zero h); member = λ h. absurd (not-suc-le-zero h) }
lowest-trailing (suc w) s = rw (first-digit s) (go (lowest-trailing w (s / 2)) (has s 0) refl)
  where
    go : Lowest w (s / 2) (count_trailing_zeros w (s / 2)) → (b : Bool) → has s 0 ≡ b → Lowest (suc w) s (under (bit b) (count_trailing_zeros w (s / 2)))
    go low true e = record { within = zero-le; none_below = λ k h. absurd (not-suc-le-zero h); member = λ h. e }
    go low false e =
        record {
          within = suc-le-suc low.within;
          none_below = none;
          member = λ h. has-next s (count_trailing_zeros w (s / 2)) ∙ low.member (le_of_suc-le-suc h);
        }
      where
        none : (k : ℕ) → k < suc (count_trailing_zeros w (s / 2)) → has s k ≡ false
        none zero h = e
        none (suc k) h = has-next s k ∙ low.none_below k (le_of_suc-le-suc h)

-- The lowest member below w is w exactly if there is none.
pub lowest-none : (w s r : ℕ) → Lowest w s r → (r ≡ w) ↔ ((k : ℕ) → k < w → has s k ≡ false)
lowest-none w s r low = (
  λ e k h. low.none_below k (omega arith),
  λ none. let full : ¬ (r < w) = λ h. true≢false (sym (low.member h) ∙ none r h) in omega arith,
)

-- There is one lowest member.
pub lowest-unique : (w s q r : ℕ) → Lowest w s q → Lowest w s r → q ≡ r
lowest-unique w s q r a b =
    let one : ¬ (q < r) = λ h. true≢false (sym (a.member (lt_of_lt_of_le h b.within)) ∙ b.none_below q h) in
    let other : ¬ (r < q) = λ h. true≢false (sym (b.member (lt_of_lt_of_le h a.within)) ∙ a.none_below r h) in
    omega arith

-- A number and the number before it share all members but the lowest, j.
less_one : (j s : ℕ) → has s j ≡ true → ((k : ℕ) → k < j → has s k ≡ false) → (k : ℕ) → has s k && has (s - 1) k ≡ has s k && not (eqb k j)
less_one zero s there none zero =
    let even : (s - 1) % 2 ≡ 0 = omega (arith, first-digit s ∙ ap bit there) in
    rw (there, has_first (s - 1), even)
less_one zero s there none (suc k) =
    let half : (s - 1) / 2 ≡ s / 2 = omega (arith, first-digit s ∙ ap bit there) in
    rw (has-next s k, has-next (s - 1) k, half, eqb-suc-zero k, and-true (has (s / 2) k)) (and_self (has (s / 2) k))
less_one (suc j) s there none zero = rw (none 0 (zero-lt-suc j))
less_one (suc j) s there none (suc k) =
    let even : s % 2 ≡ 0 = first-digit s ∙ ap bit (none 0 (zero-lt-suc j)) in
    let half : (s - 1) / 2 ≡ s / 2 - 1 = omega arith in
    rw (has-next s k, has-next (s - 1) k, half, eqb-suc-suc k j)
    (less_one j (s / 2) (sym (has-next s j) ∙ there) (λ i h. sym (has-next s i) ∙ none (suc i) (suc-le-suc h)) k)

-- The common members of a number and the number before it are all but the lowest, j.
pub has-without-lowest : (j s : ℕ) → has s j ≡ true → ((k : ℕ) → k < j → has s k ≡ false)
    → (k : ℕ) → has (bit_and s (s - 1)) k ≡ has s k && not (eqb k j)
has-without-lowest j s there none k = has-and s (s - 1) k ∙ less_one j s there none k
