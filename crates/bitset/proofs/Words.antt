-- What the operations on words of w bits do to the members.
-- Assumes nothing.
use mathlib.Core.Path.{◌≡◌, refl, sym, ◌∙◌}
use mathlib.Core.Bool.{Bool, true, false, not, ◌&&◌, ◌||◌, and_comm, and-true, and-false, or-false}
use Prim.Native.Nat.{ℕ, ◌-◌, ◌*◌, ◌/◌, ◌%◌, ◌^◌, ◌≤◌, ◌<◌}
use native.Mathlib.Nat.{zero-mul, one-mul, mod-eq_of_lt, mod-lt}
use native.Mathlib.Omega.{arith}
use borrow.Author.Tests.{eqb-true, eqb-false, ltb-false, lt-ltb, le-ltb}
use lib.Arith.{lt_of_le-ne}
use lib.Bits.{bit_and, bit_or, and_mask, or_zero_r}
use lib.Dec.{eqb, ltb, ltb→lt, lt→ltb}
use lib.Pow.{pow-lt, pow_pos}
use mir.Val.{bool_byte}
use Rattle.bitset.specs.Decides.{Decides}
use Rattle.bitset.specs.Members.{has, ◌⊆◌, add_if, Lowest}
use Rattle.bitset.proofs.Members.{has-bounded, same-members-below, has-zero, has-power, has-and, has-or, has-complement, has-ones, insert-or, eqb-cases}
use Rattle.bitset.proofs.Subsets.{and-absorb, subset-and}
use Rattle.bitset.proofs.Size.{lowest-none, has-without-lowest}

-- Below the width nothing of a shifted 1 is lost.
shifted : (w k : ℕ) → k < w → (1 * 2 ^ k) % 2 ^ w ≡ 2 ^ k
shifted w k h = rw (one-mul (2 ^ k)) (mod-eq_of_lt (pow-lt h))

-- A 1 shifted by k is the set of k alone.
pub has-single : (w k : ℕ) → k < w → (j : ℕ) → has ((1 * 2 ^ k) % 2 ^ w) j ≡ eqb j k && ltb k w
has-single w k h j = rw (shifted w k h, has-power k j, lt-ltb k w h) (sym (and-true (eqb j k)))

-- Past the width the set of k is empty.
pub has-single-past : (w k : ℕ) → w ≤ k → (j : ℕ) → has 0 j ≡ eqb j k && ltb k w
has-single-past w k h j = rw (has-zero j, le-ltb k w h) (sym (and-false (eqb j k)))

-- One less than a shifted 1 can be had.
pub single-pos : (w k : ℕ) → k < w → 1 ≤ (1 * 2 ^ k) % 2 ^ w
single-pos w k h = rw (shifted w k h) (pow_pos k)

-- A test below m is a test below any larger n as well.
below_both : (k m n : ℕ) → m ≤ n → ltb k m && ltb k n ≡ ltb k m
below_both k m n h = and-absorb (ltb k m) (ltb k n) (λ t. let l : k < m = ltb→lt k m t in lt→ltb k n (omega arith))

-- One less than a 1 shifted by n has the members below n.
pub has-below : (w n : ℕ) → n < w → (k : ℕ) → has ((1 * 2 ^ n) % 2 ^ w - 1) k ≡ ltb k n && ltb k w
has-below w n h k = rw (shifted w n h, has-ones n k) (sym (below_both k n w (omega arith)))

-- The largest word has every member below the width.
pub has-below-past : (w n : ℕ) → w ≤ n → (k : ℕ) → has (2 ^ w - 1) k ≡ ltb k n && ltb k w
has-below-past w n h k = rw (has-ones w k, and_comm (ltb k n)) (sym (below_both k w n h))

-- The lowest digit after a shift by k tells whether k is a member.
pub contains-test : (s k : ℕ) → eqb (bit_and (s / 2 ^ k) 1) 1 ≡ has s k
unfolding has
contains-test s k = rw (and_mask (s / 2 ^ k) 1)

-- To join a shifted 1 is to insert k.
pub has-with : (w s k : ℕ) → k < w → (j : ℕ) → has (bit_or s ((1 * 2 ^ k) % 2 ^ w)) j ≡ has s j || (eqb j k && ltb k w)
has-with w s k h j = rw (has-or s ((1 * 2 ^ k) % 2 ^ w) j, has-single w k h j)

-- To join a bit shifted by k is to insert k if the bit is set.
pub or-add_if : (w : ℕ) (b : Bool) (s k : ℕ) → k < w → bit_or s (bool_byte b * 2 ^ k % 2 ^ w) ≡ add_if b s k
unfolding add_if
or-add_if w true s k h = rw (shifted w k h) (sym (insert-or s k))
or-add_if w false s k h = rw (zero-mul (2 ^ k), mod-eq_of_lt (pow_pos w)) (or_zero_r s)

-- Past the width nothing is inserted.
pub has-with-past : (w s k : ℕ) → w ≤ k → (j : ℕ) → has s j ≡ has s j || (eqb j k && ltb k w)
has-with-past w s k h j = rw (le-ltb k w h, and-false (eqb j k)) (sym (or-false (has s j)))

-- The common members with the complement of t are those that t lacks.
pub has-difference : (w : ℕ) {s t : ℕ} → s < 2 ^ w → t < 2 ^ w → (k : ℕ)
    → has (bit_and s ((2 ^ w - 1) - t)) k ≡ has s k && not (has t k)
has-difference w {s} {t} h l k = rw (has-and s ((2 ^ w - 1) - t) k, has-complement w l k) (go (ltb k w) refl)
  where
    go : (b : Bool) → ltb k w ≡ b → has s k && (b && not (has t k)) ≡ has s k && not (has t k)
    go true e = refl
    go false e = rw (has-bounded w h k (ltb-false k w e))

-- The common members with the complement of a shifted 1 are all but k.
pub has-without : (w : ℕ) {s : ℕ} → s < 2 ^ w → (k : ℕ) → k < w → (j : ℕ)
    → has (bit_and s ((2 ^ w - 1) - (1 * 2 ^ k) % 2 ^ w)) j ≡ has s j && not (eqb j k)
has-without w {s} h k l j =
    rw (has-difference w h (mod-lt (1 * 2 ^ k) (pow_pos w)) j, shifted w k l, has-power k j)

-- Past the width there is nothing to take away.
pub has-without-past : (w : ℕ) {s : ℕ} → s < 2 ^ w → (k : ℕ) → w ≤ k → (j : ℕ) → has s j ≡ has s j && not (eqb j k)
has-without-past w {s} h k l j =
    eqb-cases j k (λ b. has s j ≡ has s j && not b) (λ q. rw (q, has-bounded w h k l)) (sym (and-true (has s j)))

-- A set is a subset exactly if the code's test says so.
pub subset-test : (s t : ℕ) → Decides (eqb (bit_and s t) s) (s ⊆ t)
subset-test s t = record {
  holds = λ e. (subset-and s t).1 (eqb-true (bit_and s t) s e);
  fails = λ e h. eqb-false (bit_and s t) s e ((subset-and s t).0 h);
}

-- Of a set with members, the lowest is below the width.
pub lowest-below : (w : ℕ) {s : ℕ} → s < 2 ^ w → ¬ (s ≡ 0) → (j : ℕ) → Lowest w s j → j < w
lowest-below w {s} h some j low =
    lt_of_le-ne low.within (λ e.
    some (same-members-below w h (pow_pos w) (λ k l. (lowest-none w s j low).0 e k l ∙ sym (has-zero k))))

-- Of a set with members, the common members with the number before are all but the lowest.
pub has-less-lowest : (w : ℕ) {s : ℕ} → s < 2 ^ w → ¬ (s ≡ 0) → (j : ℕ) → Lowest w s j → (k : ℕ)
    → has (bit_and s (s - 1)) k ≡ has s k && not (eqb k j)
has-less-lowest w {s} h some j low = has-without-lowest j s (low.member (lowest-below w h some j low)) low.none_below

-- Of a set without members none can be taken away.
pub has-less-none : (s : ℕ) → s ≡ 0 → (k : ℕ) (b : Bool) → has s k ≡ has s k && b
has-less-none s e k b = rw (e, has-zero k)
