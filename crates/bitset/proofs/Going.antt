-- Going through a set: the list of the members left begins with the lowest, and goes on with those of a set that is less by it.
-- Assumes nothing.
use mathlib.Core.Path.{◌≡◌, refl}
use mathlib.Core.List.Memᴰ
use mathlib.Core.List.{List, [], ◌∷◌, Memᴰ, rel_of_Pairwise-cons}
use mathlib.Core.Logic.{inl, inr}
use Prim.Native.Nat.{ℕ, ◌-◌, ◌%◌, ◌^◌, ◌<◌}
use native.Mathlib.Omega.{arith}
use lib.Bits.{bit_and}
use lib.Count.{count_trailing_zeros}
use Rattle.bitset.specs.Members.{◌∈◌, members}
use Rattle.bitset.proofs.Members.{has-zero}
use Rattle.bitset.proofs.Size.{lowest-trailing}
use Rattle.bitset.proofs.Words.{lowest-below, has-less-lowest}
use Rattle.bitset.proofs.Sets.{same_set, member-lt, in-mod}
use Rattle.bitset.proofs.MemberList.{in_members, members-none, members-first, members-rising}
use Rattle.bitset.proofs.Scans.{Less, less-lowest}

-- A set with members has its lowest first, which its trailing zeros tell, and then those that it shares with the number before.
pub members-lowest : (w : ℕ) {s : ℕ} → s < 2 ^ w → ¬ (s ≡ 0) → members w s ≡ count_trailing_zeros w s ∷ members w (bit_and s (s - 1))
members-lowest w {s} h some =
    let low = lowest-trailing w s in
    let l = lowest-below w h some (count_trailing_zeros w s) low in
    members-first w s (bit_and s (s - 1)) (count_trailing_zeros w s) l low
    (less-lowest w s (count_trailing_zeros w s) (bit_and s (s - 1)) low l (has-less-lowest w h some (count_trailing_zeros w s) low)).rest

-- A set without members has the empty list.
pub members-empty : (w : ℕ) {s : ℕ} → s ≡ 0 → members w s ≡ []
members-empty w {s} e = members-none w s (λ k h. rw (e, has-zero k))

-- The member that comes is below the width.
pub came-lt : (w s k : ℕ) (later : List ℕ) → members w s ≡ k ∷ later → k < w
came-lt w s k later e = ((in_members w s k).0 (rw e (Memᴰ.head refl))).1

-- ---- what is left of a word of which no bound is known are its members below the width

module _ (w s : ℕ) where
  -- At first all of a word are left.
  pub all-left : (all : ℕ) → s ≡ all → all < 2 ^ w → s % 2 ^ w ≡ all
  all-left all e small = rw e (same_set (λ j. (λ m. ((in-mod w all j).0 m).1, λ m. (in-mod w all j).1 (member-lt w all j small m, m))))

  -- What is left is less by the member that came.
  pub less-came : (k t : ℕ) → members w s ≡ k ∷ members w t → Less (s % 2 ^ w) k (t % 2 ^ w)
  less-came k t e = record {
    member = let p = (in_members w s k).0 (rw e (Memᴰ.head refl)) in (in-mod w s k).1 (p.1, p.0);
    rest = λ j. (
      λ m.
          let p = (in-mod w t j).0 m in
          let later = (in_members w t j).1 (p.1, p.0) in
          let above : k < j = rel_of_Pairwise-cons (rw e at (members-rising w s)) ∣ later ∣₁ in
          let q = (in_members w s j).0 (rw e (Memᴰ.tail later)) in
          ((in-mod w s j).1 (q.1, q.0), λ r. omega arith),
      λ p. let q = (in-mod w s j).0 p.0 in
          elim (Memᴰ.cases_cons (rw e at (in_members w s j).1 (q.1, q.0))) [
            | inl r ↦ absurd (p.1 r)
            | inr later ↦ let r = (in_members w t j).0 later in (in-mod w t j).1 (r.1, r.0)
          ],
    );
  }

  -- Where none comes, none is left.
  pub none-came : members w s ≡ [] → (j : ℕ) → j ∈ (s % 2 ^ w) → ⊥
  none-came e j m = let p = (in-mod w s j).0 m in Memᴰ.not-nil (rw e at (in_members w s j).1 (p.1, p.0))
