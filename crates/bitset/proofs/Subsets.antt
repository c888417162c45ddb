-- Inclusion of sets: an order, decided by one `and`, under which a smaller set is a smaller number; and what the list of subsets holds.
-- Assumes nothing.
use mathlib.Core.Path.{◌≡◌, refl, sym, ap, ◌∙◌, subst}
use mathlib.Core.Logic.{◌↔◌, ◌⊎◌, inl, inr, ∥∥₁_elim}
use mathlib.Core.Bool.{Bool, true, false, ◌&&◌, ◌||◌, or-false, true≢false}
use mathlib.Core.List.Memᴰ
use mathlib.Core.List.Pairwise
use mathlib.Core.List.{List, ◌++◌, map, Memᴰ, Pairwise-singleton, Pairwise-append}
use Prim.Native.Nat.{ℕ, zero, suc, ◌+◌, ◌-◌, ◌^◌, ◌≤◌, ◌<◌}
use native.Mathlib.Nat.{le_refl, lt_of_not-le, pow-suc, sub-add_cancel}
use native.Mathlib.Omega.{arith}
use native.Mathlib.Bridge.{le_prop}
use native.Mathlib.Decide.{dec_lt}
use denote.Floats.{is_true, passes}
use lib.Arith.{lt_of_le-ne, lt-one}
use lib.Bits.{bit_and, and_le_r}
use lib.Dec.{T}
use Rattle.sequences.specs.Rising.{Rising}
use Rattle.bitset.specs.Members.{has, ◌⊆◌, insert, subsets}
use Rattle.bitset.proofs.Members.{same-members, has-zero, has-and, has-insert, has-inserted, has-bounded, eqb-cases}

-- Every set is a subset of itself.
pub ⊆-refl : (s : ℕ) → s ⊆ s
⊆-refl s k m = m

-- A subset of a subset is a subset.
pub ⊆-trans : (s t u : ℕ) → s ⊆ t → t ⊆ u → s ⊆ u
⊆-trans s t u h l k m = l k (h k m)

-- Two tests that follow from each other are equal.
pub same_test : (a b : Bool) → (T a → T b) → (T b → T a) → a ≡ b
same_test true b f g = sym (is_true b (f tt))
same_test false true f g = absurd (g tt)
same_test false false f g = refl

-- Two sets that hold each other are equal.
pub ⊆-antisym : (s t : ℕ) → s ⊆ t → t ⊆ s → s ≡ t
⊆-antisym s t h l = same-members s t (λ k. same_test (has s k) (has t k) (h k) (l k))

-- A test that implies another is not changed by it.
pub and-absorb : (a b : Bool) → (T a → T b) → a && b ≡ a
and-absorb true b f = is_true b (f tt)
and-absorb false b f = refl

-- A test that another does not change implies it.
absorb-and : (a b : Bool) → a && b ≡ a → T a → T b
absorb-and true b e t = passes b e
absorb-and false b e t = absurd t

-- A set is a subset exactly if the common members are all it has.
pub subset-and : (s t : ℕ) → (s ⊆ t) ↔ (bit_and s t ≡ s)
subset-and s t = (
  λ h. same-members (bit_and s t) s (λ k. rw (has-and s t k) (and-absorb (has s k) (has t k) (h k))),
  λ e k. absorb-and (has s k) (has t k) (sym (has-and s t k) ∙ ap (λ x. has x k) e),
)

-- A subset is no larger a number.
pub subset-le : (s t : ℕ) → s ⊆ t → s ≤ t
subset-le s t h = subst (λ x. x ≤ t) ((subset-and s t).0 h) (and_le_r s t)

-- A subset that lacks a member is a smaller number.
pub subset-lt : (s t k : ℕ) → s ⊆ t → has t k ≡ true → has s k ≡ false → s < t
subset-lt s t k h there lacks =
    lt_of_le-ne (subset-le s t h) (λ e. true≢false (sym there ∙ ap (λ x. has x k) (sym e) ∙ lacks))

-- The empty set is a subset of every set.
pub zero-⊆ : (s : ℕ) → 0 ⊆ s
zero-⊆ s k m = absurd (rw (has-zero k) at m)

-- What a set lacks its subsets lack.
pub ⊆-lacks : (s t k : ℕ) → s ⊆ t → has t k ≡ false → has s k ≡ false
⊆-lacks s t k h e = same_test (has s k) false (λ m. rw e at (h k m)) absurd

-- A set is a subset of itself with one member more.
pub ⊆-insert : (s k : ℕ) → s ⊆ insert s k
⊆-insert s k j m = rw (has-insert s k j, is_true (has s j) m) tt

-- A subset with one more member of the set is a subset.
pub insert-⊆ : (s t k : ℕ) → s ⊆ t → has t k ≡ true → insert s k ⊆ t
insert-⊆ s t k h there j m =
    eqb-cases j k (λ b. T (has s j || b) → T (has t j)) (λ q l. rw (q, there) tt) (λ l. h j (rw (or-false (has s j)) at l))
    (rw (has-insert s k j) at m)

-- To insert w into a set below 2 ^ w is to add 2 ^ w.
insert-top : (w : ℕ) {u : ℕ} → u < 2 ^ w → insert u w ≡ u + 2 ^ w
unfolding insert
insert-top w {u} h = rw (has-bounded w h w (le_refl w), insert)

-- A number below 2 ^ (w + 1) and not below 2 ^ w is a set with the member w.
top-member : (w t : ℕ) → t < 2 ^ suc w → 2 ^ w ≤ t → t ≡ insert (t - 2 ^ w) w
top-member w t h l = sym (insert-top w (omega (arith, pow-suc 2 w)) ∙ sub-add_cancel l)

-- A set below 2 ^ (w + 1) without w is below 2 ^ w.
below_top : (w t : ℕ) → t < 2 ^ suc w → has t w ≡ false → t < 2 ^ w
below_top w t h lacks =
    lt_of_not-le (λ l. true≢false (sym (has-inserted (t - 2 ^ w) w) ∙ ap (λ x. has x w) (sym (top-member w t h l)) ∙ lacks))

-- If l has the subsets of s below 2 ^ w, then l and l with w inserted everywhere have those below 2 ^ (w + 1).
mem-doubled : (w s : ℕ) (l : List ℕ) → has s w ≡ true → ((u : ℕ) → Memᴰ u l ↔ ((u ⊆ s) × (u < 2 ^ w)))
    → (t : ℕ) → Memᴰ t (l ++ map (λ u. u + 2 ^ w) l) ↔ ((t ⊆ s) × (t < 2 ^ suc w))
mem-doubled w s l there mem t = (λ m. into (Memᴰ.append_cases l m), λ p. out p (dec_lt t (2 ^ w)))
  where
    into : Memᴰ t l ⊎ Memᴰ t (map (λ u. u + 2 ^ w) l) → (t ⊆ s) × (t < 2 ^ suc w)
    into (inl m) = let p = (mem t).0 m in (p.0, omega (arith, pow-suc 2 w))
    into (inr m) =
        let (u, m', e) = Memᴰ.of_map (λ u. u + 2 ^ w) l m in
        let p = (mem u).0 m' in
        (subst (λ x. x ⊆ s) (insert-top w p.1 ∙ e) (insert-⊆ u s w p.0 there), omega (arith, pow-suc 2 w))

    out : (t ⊆ s) × (t < 2 ^ suc w) → Dec (t < 2 ^ w) → Memᴰ t (l ++ map (λ u. u + 2 ^ w) l)
    out p (yes h) = Memᴰ.append_left (map (λ u. u + 2 ^ w) l) ((mem t).1 (p.0, h))
    out p (no h) =
        let u : ℕ = t - 2 ^ w in
        let e : t ≡ insert u w = top-member w t p.1 (omega arith) in
        let within : u ⊆ s = λ k m. p.0 k (rw e (⊆-insert u w k m)) in
        Memᴰ.append_right l (Memᴰ.cast (omega arith) (Memᴰ.map (λ u. u + 2 ^ w) ((mem u).1 (within, omega (arith, pow-suc 2 w)))))

-- A number stands in the list of subsets exactly if it is a subset below 2 ^ w.
pub mem-subsets : (w s t : ℕ) → Memᴰ t (subsets w s) ↔ ((t ⊆ s) × (t < 2 ^ w))
unfolding subsets
mem-subsets zero s t = (
  λ m. let e : t ≡ 0 = Memᴰ.eq_of_singleton m in (rw e (zero-⊆ s), omega arith),
  λ p. Memᴰ.head (lt-one p.1),
)
mem-subsets (suc w) s t = go (mem-subsets w s) (has s w) refl
  where
    go : ((u : ℕ) → Memᴰ u (subsets w s) ↔ ((u ⊆ s) × (u < 2 ^ w))) → (b : Bool) → has s w ≡ b
        → Memᴰ t (elim b [ true ↦ subsets w s ++ map (λ u. u + 2 ^ w) (subsets w s) | false ↦ subsets w s ]) ↔ ((t ⊆ s) × (t < 2 ^ suc w))
    go mem true e = mem-doubled w s (subsets w s) e mem t
    go mem false e = (
      λ m. let p = (mem t).0 m in (p.0, omega (arith, pow-suc 2 w)),
      λ p. (mem t).1 (p.0, below_top w t p.1 (⊆-lacks t s w p.0 e)),
    )

-- The list of subsets rises.
pub subsets-rising : (w s : ℕ) → Rising (subsets w s)
unfolding subsets
subsets-rising zero s = Pairwise-singleton ◌<◌ 0
subsets-rising (suc w) s = go (subsets-rising w s) (has s w)
  where
    before : (a b : ℕ) → Memᴰ a (subsets w s) → Memᴰ b (map (λ u. u + 2 ^ w) (subsets w s)) → a < b
    before a b m n =
        let p = (mem-subsets w s a).0 m in
        let q = Memᴰ.of_map (λ u. u + 2 ^ w) (subsets w s) n in
        omega arith

    go : Rising (subsets w s) → (b : Bool)
        → Rising (elim b [ true ↦ subsets w s ++ map (λ u. u + 2 ^ w) (subsets w s) | false ↦ subsets w s ])
    go h true =
        (Pairwise-append (λ a b. le_prop)).1 (
          h,
          Pairwise.map (λ a b. le_prop) (λ u. u + 2 ^ w) (λ a b l. omega arith) h,
          λ a m b n. ∥∥₁_elim m le_prop (λ m'. ∥∥₁_elim n le_prop (before a b m')),
        )
    go h false = h
