-- Membership as a proposition: what it is to be a member after each operation on a set, and that this is decided.
-- Assumes nothing.
use mathlib.Core.Path.{◌≡◌, refl, sym, ap, subst, ◌∙◌}
use mathlib.Core.Bool.{Bool, true, false, not}
use mathlib.Core.Logic.Dec
use mathlib.Core.Logic.{◌⊎◌, inl, inr, ⊎_map, ◌↔◌}
use Prim.Native.Nat.{ℕ, suc, ◌-◌, ◌%◌, ◌^◌, ◌<◌}
use native.Mathlib.Nat.{lt_of_not-le, eq-or-lt_of_le, mod-lt}
use native.Mathlib.Decide.{ℕ_discrete}
use denote.Floats.{passes}
use lib.Bits.{bit_and, bit_or, or_zero_l}
use lib.Count.{count_trailing_zeros}
use lib.Pow.{pow_pos}
use lib.Dec.{T, eqb, ltb, ltb→lt, lt→ltb}
use Rattle.bitset.specs.Members.{has, ◌∈◌, ◌⊆◌, insert, add_if, ◌∖◌, size}
use Rattle.sequences.proofs.Tests.{T-dec, T-or, T_and, T_not, T-eqb}
use Rattle.bitset.proofs.Members.{same-members-below, lt-pow, has-bounded, has-zero, has-power, has-and, has-or, has-minus, has-insert, has-mod, has-ones, insert-or}
use Rattle.bitset.proofs.Subsets.{same_test, ⊆-antisym}
use Rattle.bitset.proofs.Size.{size-insert, lowest-trailing, lowest-none}

-- Membership is decided.
pub ∈-dec : (k s : ℕ) → Dec (k ∈ s)
∈-dec k s = T-dec (has s k)

-- Two sets are equal if each number is a member of both or of neither.
pub same_set : {s t : ℕ} → ((k : ℕ) → (k ∈ s) ↔ (k ∈ t)) → s ≡ t
same_set {s} {t} same = ⊆-antisym s t (λ k. (same k).0) (λ k. (same k).1)

-- The empty set has no member.
pub not-zero : (k : ℕ) → k ∈ 0 → ⊥
not-zero k m = rw (has-zero k) at m

-- The members after an insertion.
pub in_insert : (s k j : ℕ) → (j ∈ insert s k) ↔ ((j ∈ s) ⊎ (j ≡ k))
in_insert s k j = rw (has-insert s k j) (
  λ t. ⊎_map (λ m. m) (T-eqb j k).0 ((T-or (has s j) (eqb j k)).0 t),
  λ c. (T-or (has s j) (eqb j k)).1 (⊎_map (λ m. m) (T-eqb j k).1 c),
)

-- The members after an insertion under a condition.
pub in-add_if : (b : Bool) (s k j : ℕ) → (j ∈ add_if b s k) ↔ ((j ∈ s) ⊎ (T b × (j ≡ k)))
unfolding add_if
in-add_if true s k j = (
  λ m. elim ((in_insert s k j).0 m) [ inl l ↦ inl l | inr e ↦ inr (tt, e) ],
  λ c. (in_insert s k j).1 (elim c [ inl l ↦ inl l | inr e ↦ inr e.1 ]),
)
in-add_if false s k j = (λ m. inl m, λ c. elim c [ inl m ↦ m | inr e ↦ absurd e.0 ])

-- What is no member after an insertion.
pub not-insert : (s v k : ℕ) → (k ∈ insert s v → ⊥) ↔ ((k ∈ s → ⊥) × (k ≡ v → ⊥))
not-insert s v k = (
  λ n. (λ m. n ((in_insert s v k).1 (inl m)), λ e. n ((in_insert s v k).1 (inr e))),
  λ n m. elim ((in_insert s v k).0 m) [ inl l ↦ n.0 l | inr e ↦ n.1 e ],
)

-- To insert into the empty set gives the one member.
pub insert-zero : (k : ℕ) → insert 0 k ≡ 2 ^ k
insert-zero k = insert-or 0 k ∙ or_zero_l (2 ^ k)

-- The members of both.
pub in_and : (s t j : ℕ) → (j ∈ bit_and s t) ↔ ((j ∈ s) × (j ∈ t))
in_and s t j = rw (has-and s t j) (T_and (has s j) (has t j))

-- The members of either.
pub in-or : (s t k : ℕ) → (k ∈ bit_or s t) ↔ ((k ∈ s) ⊎ (k ∈ t))
in-or s t k = rw (has-or s t k) (T-or (has s k) (has t k))

-- The members of a difference.
pub in-minus : (s t j : ℕ) → (j ∈ (s ∖ t)) ↔ ((j ∈ s) × (j ∈ t → ⊥))
in-minus s t j =
    rw (has-minus s t j) (
      λ m. let p = (T_and (has s j) (not (has t j))).0 m in (p.0, (T_not (has t j)).0 p.1),
      λ p. (T_and (has s j) (not (has t j))).1 (p.0, (T_not (has t j)).1 p.1),
    )

-- A difference is a subset of what it was taken from.
pub minus-⊆ : (s t : ℕ) → (s ∖ t) ⊆ s
minus-⊆ s t j m = ((in-minus s t j).0 m).0

-- A difference grows with what it is taken from.
pub minus-mono : (s t u : ℕ) → s ⊆ t → (s ∖ u) ⊆ (t ∖ u)
minus-mono s t u h j m = let p = (in-minus s u j).0 m in (in-minus t u j).1 (h j p.0, p.1)

-- What is left when all but t is taken off lies in t.
pub minus_minus : (s t : ℕ) → (s ∖ (s ∖ t)) ⊆ t
minus_minus s t j m =
    let p = (in-minus s (s ∖ t) j).0 m in
    (Dec.not-not (∈-dec j t)).0 (λ n. p.1 ((in-minus s t j).1 (p.0, n)))

-- It is t, if t is a subset.
pub minus-part : (s t : ℕ) → t ⊆ s → s ∖ (s ∖ t) ≡ t
minus-part s t h = ⊆-antisym (s ∖ (s ∖ t)) t (minus_minus s t) (λ j m. (in-minus s (s ∖ t) j).1 (h j m, λ n. ((in-minus s t j).0 n).1 m))

-- A member of t is one of s or one of what t has more.
pub in-or-minus : (s t k : ℕ) → k ∈ t → (k ∈ s) ⊎ (k ∈ (t ∖ s))
in-or-minus s t k m = go (∈-dec k s)
  where
    go : Dec (k ∈ s) → (k ∈ s) ⊎ (k ∈ (t ∖ s))
    go (yes i) = inl i
    go (no n) = inr ((in-minus t s k).1 (m, n))

-- What the last of three growing sets has more than the first, the second has more than the first or the last more than the second.
pub minus-steps : (s t u : ℕ) → s ⊆ t → t ⊆ u → (k : ℕ) → (k ∈ (u ∖ s)) ↔ ((k ∈ (t ∖ s)) ⊎ (k ∈ (u ∖ t)))
minus-steps s t u h l k = (
  λ m. let p = (in-minus u s k).0 m in ⊎_map (λ i. (in-minus t s k).1 (i, p.1)) (λ i. i) (in-or-minus t u k p.0),
  λ c. (in-minus u s k).1 (elim c [
    | inl m ↦ let p = (in-minus t s k).0 m in (l k p.0, p.1)
    | inr m ↦ let p = (in-minus u t k).0 m in (p.0, λ n. p.1 (h k n))
  ]),
)

-- What an insertion adds.
pub insert-minus : (s k : ℕ) → (k ∈ s → ⊥) → (j : ℕ) → (j ∈ (insert s k ∖ s)) ↔ (j ≡ k)
insert-minus s k off j = (
  λ m. let p = (in-minus (insert s k) s j).0 m in elim ((in_insert s k j).0 p.0) [ inl i ↦ absurd (p.1 i) | inr e ↦ e ],
  λ e. rw e ((in-minus (insert s k) s k).1 ((in_insert s k k).1 (inr refl), off)),
)

-- The power 2 ^ k is the set of k alone.
pub in-single : (k j : ℕ) → (j ∈ 2 ^ k) ↔ (j ≡ k)
in-single k j = rw (has-power k j) (T-eqb j k)

-- The members of a set without one.
pub in-drop : (s k j : ℕ) → (j ∈ (s ∖ 2 ^ k)) ↔ ((j ∈ s) × (j ≡ k → ⊥))
in-drop s k j = (
  λ m. let p = (in-minus s (2 ^ k) j).0 m in (p.0, λ e. p.1 ((in-single k j).1 e)),
  λ p. (in-minus s (2 ^ k) j).1 (p.0, λ m. p.1 ((in-single k j).0 m)),
)

-- To take away what is no member changes nothing.
pub drop-none : (s v : ℕ) → (v ∈ s → ⊥) → s ∖ 2 ^ v ≡ s
drop-none s v off = same_set (λ k. (λ m. ((in-drop s v k).0 m).0, λ m. (in-drop s v k).1 (m, λ e. off (rw e at m))))

-- What is common to three sets is so in either order.
pub and_assoc : (s t u : ℕ) → bit_and (bit_and s t) u ≡ bit_and s (bit_and t u)
and_assoc s t u = same_set (λ k. (
  λ m.
      let p = (in_and (bit_and s t) u k).0 m in
      let q = (in_and s t k).0 p.0 in
      (in_and s (bit_and t u) k).1 (q.0, (in_and t u k).1 (q.1, p.1)),
  λ m.
      let p = (in_and s (bit_and t u) k).0 m in
      let q = (in_and t u k).0 p.1 in
      (in_and (bit_and s t) u k).1 ((in_and s t k).1 (p.0, q.0), q.1),
))

-- A member of a set below 2 ^ w is below w.
pub member-lt : (w s k : ℕ) → s < 2 ^ w → k ∈ s → k < w
member-lt w s k h m = lt_of_not-le (λ l. rw (has-bounded w h k l) at m)

-- Of a word of w bits, the members are those of the number that are below w.
pub in-mod : (w s j : ℕ) → (j ∈ (s % 2 ^ w)) ↔ ((j < w) × (j ∈ s))
in-mod w s j =
    let both = T_and (ltb j w) (has s j) in
    rw (has-mod w s j) (λ m. let p = both.0 m in (ltb→lt j w p.0, p.1), λ p. both.1 (lt→ltb j w p.0, p.1))

-- So a set without a member past w is below 2 ^ w.
pub set-lt : (w s : ℕ) → ((j : ℕ) → j ∈ s → j < w) → s < 2 ^ w
set-lt w s within =
    subst (λ x. x < 2 ^ w) (same_set (λ j. (λ m. ((in-mod w s j).0 m).1, λ m. (in-mod w s j).1 (within j m, m)))) (mod-lt s (pow_pos w))

-- The set 2 ^ n - 1 has the numbers below n.
pub in_ones : (n k : ℕ) → (k ∈ (2 ^ n - 1)) ↔ (k < n)
in_ones n k = rw (has-ones n k) (ltb→lt k n, lt→ltb k n)

-- A set that is not empty has a member.
pub empty-or-member : (s : ℕ) → (s ≡ 0) ⊎ ((k : ℕ) × (k ∈ s))
empty-or-member s = go (eq-or-lt_of_le (lowest-trailing s s).within)
  where
    go : (count_trailing_zeros s s ≡ s) ⊎ (count_trailing_zeros s s < s) → (s ≡ 0) ⊎ ((k : ℕ) × (k ∈ s))
    go (inl e) =
        let none = (lowest-none s s (count_trailing_zeros s s) (lowest-trailing s s)).0 e in
        inl (same-members-below s (lt-pow s) (pow_pos s) (λ k h. none k h ∙ sym (has-zero k)))
    go (inr h) = inr (count_trailing_zeros s s, passes (has s (count_trailing_zeros s s)) ((lowest-trailing s s).member h))

-- Of a set that is part of another all is there, or a member is missing.
pub whole-or-missing : (s t : ℕ) → s ⊆ t → (s ≡ t) ⊎ ((k : ℕ) × (k ∈ t) × (k ∈ s → ⊥))
whole-or-missing s t part = go (empty-or-member (t ∖ s))
  where
    go : (t ∖ s ≡ 0) ⊎ ((k : ℕ) × (k ∈ (t ∖ s))) → (s ≡ t) ⊎ ((k : ℕ) × (k ∈ t) × (k ∈ s → ⊥))
    go (inl none) =
        inl (⊆-antisym s t part (λ k m. (Dec.not-not (∈-dec k s)).0 (λ n. not-zero k (rw none at ((in-minus t s k).1 (m, n))))))
    go (inr (k, m)) = let p = (in-minus t s k).0 m in inr (k, p.0, p.1)

-- To take off a member is to have one fewer.
pub size-drop : (w s v : ℕ) → v < w → v ∈ s → size w s ≡ suc (size w (s ∖ 2 ^ v))
size-drop w s v h m = ap (size w) (sym whole) ∙ size-insert w (s ∖ 2 ^ v) v h lacks
  where
    lacks : has (s ∖ 2 ^ v) v ≡ false
    lacks = same_test (has (s ∖ 2 ^ v) v) false (λ i. ((in-drop s v v).0 i).1 refl) absurd

    back : (k : ℕ) → k ∈ s → Dec (k ≡ v) → (k ∈ (s ∖ 2 ^ v)) ⊎ (k ≡ v)
    back k i (yes e) = inr e
    back k i (no n) = inl ((in-drop s v k).1 (i, n))

    whole : insert (s ∖ 2 ^ v) v ≡ s
    whole = same_set (λ k. (
      λ i. elim ((in_insert (s ∖ 2 ^ v) v k).0 i) [ inl l ↦ ((in-drop s v k).0 l).0 | inr e ↦ rw e m ],
      λ i. (in_insert (s ∖ 2 ^ v) v k).1 (back k i (ℕ_discrete k v)),
    ))
