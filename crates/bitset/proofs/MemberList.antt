-- The list of the members of a set: it rises, and has exactly the members; so the lowest comes first, and then those of the set without it;
-- and it is as long as there are members.
-- Assumes nothing.
use mathlib.Core.Path.{◌≡◌, refl, sym}
use mathlib.Core.Bool.{Bool, true, false}
use mathlib.Core.List.Memᴰ
use mathlib.Core.List.Pairwise
use mathlib.Core.List.{List, [], ◌∷◌, Memᴰ}
use mathlib.Core.Logic.Iff
use mathlib.Core.Logic.{inl, inr, ◌↔◌, ∥∥₁_elim}
use Prim.Native.Nat.{ℕ, zero, suc, ◌+◌, ◌^◌, ◌≤◌, ◌<◌, zero-le}
use native.Mathlib.Nat.{add-zero, zero-add, add-suc, suc-add, eq-or-lt_of_le}
use native.Mathlib.Bridge.{le_prop}
use native.Mathlib.Decide.{ℕ_discrete}
use native.Mathlib.Omega.{arith}
use borrow.Author.Tests.{ltb-true}
use lib.Dec.{ltb}
use lib.ListN.{length}
use Rattle.sequences.specs.Rising.{Rising}
use Rattle.sequences.proofs.Rising.{rising-unique}
use Rattle.bitset.specs.Members.{has, ◌∈◌, size, members_from, members, Lowest}
use Rattle.bitset.proofs.Members.{has-bounded}
use Rattle.bitset.proofs.Size.{size_none, size-suc}
use Rattle.bitset.proofs.Sets.{member-lt}

-- The list of the members from k on has exactly those.
in-members_from : (s k n j : ℕ) → Memᴰ j (members_from s k n) ↔ ((j ∈ s) × (k ≤ j) × (j < k + n))
unfolding members_from
in-members_from s k zero j = (λ m. absurd (Memᴰ.not-nil m), λ p. absurd (omega arith))
in-members_from s k (suc n) j = go (ltb s (2 ^ k)) refl (has s k) refl (in-members_from s (suc k) n j)
  where
    go : (a : Bool) → ltb s (2 ^ k) ≡ a → (b : Bool) → has s k ≡ b
        → Memᴰ j (members_from s (suc k) n) ↔ ((j ∈ s) × (suc k ≤ j) × (j < suc k + n))
        → Memᴰ j (elim a [ true ↦ [] | false ↦ elim b [ true ↦ k ∷ members_from s (suc k) n | false ↦ members_from s (suc k) n ] ])
        ↔ ((j ∈ s) × (k ≤ j) × (j < k + suc n))
    go true e b f rest = (λ m. absurd (Memᴰ.not-nil m), λ p. absurd (rw (has-bounded k (ltb-true s (2 ^ k) e) j p.1) at p.0))
    go false e true f rest = (
      λ m. elim (Memᴰ.cases_cons m) [
        | inl q ↦ (rw (q, f) tt, omega arith, omega arith)
        | inr l ↦ let p = rest.0 l in (p.0, omega arith, omega arith)
      ],
      λ p. elim (eq-or-lt_of_le p.1) [ inl q ↦ Memᴰ.head (sym q) | inr l ↦ Memᴰ.tail (rest.1 (p.0, l, omega arith)) ],
    )
    go false e false f rest = (
      λ m. let p = rest.0 m in (p.0, omega arith, omega arith),
      λ p. elim (eq-or-lt_of_le p.1) [ inl q ↦ absurd (rw (← q, f) at p.0) | inr l ↦ rest.1 (p.0, l, omega arith) ],
    )

-- The list of the members below w has exactly those.
pub in_members : (w s j : ℕ) → Memᴰ j (members w s) ↔ ((j ∈ s) × (j < w))
in_members w s j = (
  λ m. let p = (in-members_from s 0 w j).0 m in (p.0, omega arith),
  λ p. (in-members_from s 0 w j).1 (p.0, zero-le, omega arith),
)

-- The list of the members from k on rises.
members_from-rising : (s k n : ℕ) → Rising (members_from s k n)
unfolding members_from
members_from-rising s k zero = Pairwise.nil
members_from-rising s k (suc n) = go (ltb s (2 ^ k)) (has s k) (members_from-rising s (suc k) n)
  where
    go : (a b : Bool) → Rising (members_from s (suc k) n)
        → Rising (elim a [ true ↦ [] | false ↦ elim b [ true ↦ k ∷ members_from s (suc k) n | false ↦ members_from s (suc k) n ] ])
    go true b later = Pairwise.nil
    go false true later = Pairwise.cons (λ j m. ∥∥₁_elim m le_prop (λ i. ((in-members_from s (suc k) n j).0 i).1)) later
    go false false later = later

-- The list of the members rises.
pub members-rising : (w s : ℕ) → Rising (members w s)
members-rising w s = members_from-rising s 0 w

-- A rising list that has exactly the members is the list of the members.
pub members-unique : (w s : ℕ) (l : List ℕ) → Rising l → ((j : ℕ) → Memᴰ j l ↔ ((j ∈ s) × (j < w))) → members w s ≡ l
members-unique w s l rising same = rising-unique (members w s) l (members-rising w s) rising (λ j. Iff.trans (in_members w s j) (Iff.symm (same j)))

-- A set without members below w has the empty list there.
pub members-none : (w s : ℕ) → ((k : ℕ) → k < w → has s k ≡ false) → members w s ≡ []
members-none w s none =
    members-unique w s [] Pairwise.nil (λ j. (λ m. absurd (Memᴰ.not-nil m), λ p. absurd (rw (none j p.1) at p.0)))

-- The lowest member comes first, and then the members of the set without it.
pub members-first : (w s t j : ℕ) → j < w → Lowest w s j → ((k : ℕ) → (k ∈ t) ↔ ((k ∈ s) × (k ≡ j → ⊥))) → members w s ≡ j ∷ members w t
members-first w s t j h low less =
    members-unique w s (j ∷ members w t) (Pairwise.cons (λ k m. ∥∥₁_elim m le_prop (above k)) (members-rising w t)) (λ k. (
      λ m. elim (Memᴰ.cases_cons m) [
        | inl e ↦ (rw (e, low.member h) tt, omega arith)
        | inr i ↦ let p = (in_members w t k).0 i in (((less k).0 p.0).0, p.1)
      ],
      λ p. elim (ℕ_discrete k j) [
        | yes e ↦ Memᴰ.head e
        | no n ↦ Memᴰ.tail ((in_members w t k).1 ((less k).1 (p.0, n), p.1))
      ],
    ))
  where
    above : (k : ℕ) → Memᴰ k (members w t) → j < k
    above k m =
        let p = (less k).0 ((in_members w t k).0 m).0 in
        let not-below : k < j → ⊥ = λ l. rw (low.none_below k l) at p.0 in
        omega arith

-- A set below 2 ^ w has no members past w.
pub members-past : (w d s : ℕ) → s < 2 ^ w → members (d + w) s ≡ members w s
members-past w d s h =
    members-unique (d + w) s (members w s) (members-rising w s) (λ j. (
      λ m. let p = (in_members w s j).0 m in (p.0, omega arith),
      λ p. (in_members w s j).1 (p.0, member-lt w s j h p.0),
    ))

-- Nor does it count one there.
size-past : (w d s : ℕ) → s < 2 ^ w → size (d + w) s ≡ size w s
size-past w zero s h = rw (zero-add w)
size-past w (suc d) s h = rw (suc-add d w, size-suc (d + w) s, has-bounded w h (d + w) (omega arith)) (omega (arith, size-past w d s h))

-- The list of the members from k on is as long as there are members there.
length-members_from : (s k n : ℕ) → length (members_from s k n) + size k s ≡ size (n + k) s
unfolding members_from
length-members_from s k zero = rw (zero-add k, zero-add (size k s))
length-members_from s k (suc n) = go (ltb s (2 ^ k)) refl (has s k) refl (rw (add-suc n k, ← suc-add n k) at (length-members_from s (suc k) n))
  where
    go : (a : Bool) → ltb s (2 ^ k) ≡ a → (b : Bool) → has s k ≡ b
        → length (members_from s (suc k) n) + size (suc k) s ≡ size (suc n + k) s
        → length {A = ℕ} (elim a as (λ x. List ℕ) [
          | true ↦ []
          | false ↦ elim b as (λ x. List ℕ) [ true ↦ k ∷ members_from s (suc k) n | false ↦ members_from s (suc k) n ]
        ]) + size k s ≡ size (suc n + k) s
    go true e b f rest = omega (arith, size-past k (suc n) s (ltb-true s (2 ^ k) e))
    go false e true f rest = omega (arith, rw f at (size-suc k s))
    go false e false f rest = omega (arith, rw f at (size-suc k s))

-- The list of the members is as long as there are members.
pub length-members : (w s : ℕ) → length (members w s) ≡ size w s
length-members w s = omega (arith, size_none s, rw (add-zero w) at (length-members_from s 0 w))
