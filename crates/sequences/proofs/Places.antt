-- The places of a list and its members.
-- Assumes nothing.
use mathlib.Core.Path.{◌≡◌, refl, sym, ap, ◌∙◌}
use mathlib.Core.Logic.{◌⊎◌, inl, inr, ◌↔◌}
use mathlib.Core.List.Memᴰ
use mathlib.Core.List.{List, [], ◌∷◌, Memᴰ, map, Permᴰ}
use Prim.Native.Nat.{ℕ, zero, suc, ◌+◌, ◌<◌}
use native.Mathlib.Nat.{le_of_suc-le-suc, not-suc-le-zero, zero-lt-suc}
use native.Mathlib.Omega.{arith}
use lib.ListN.{length, get_or, drop}
use lib.Seq.{drop-cons}
use Rattle.sequences.specs.Words.{tabulate}

-- What stands at a place of a list is a member.
pub mem-at : {A : Type 0} (l : List A) (i : ℕ) (d : A) → i < length l → Memᴰ (get_or l i d) l
mem-at [] i d h = absurd (not-suc-le-zero h)
mem-at (x ∷ l) zero d h = Memᴰ.head refl
mem-at (x ∷ l) (suc i) d h = Memᴰ.tail (mem-at l i d (le_of_suc-le-suc h))

-- A law of all places is a law of all members.
pub at_mem : (P : ℕ → Type 0) (l : List ℕ) → ((i : ℕ) → i < length l → P (get_or l i 0)) → {a : ℕ} → Memᴰ a l → P a
at_mem P [] h m = absurd (Memᴰ.not-nil m)
at_mem P (x ∷ l) h {a} m = go (at_mem P l (λ i k. h (suc i) (omega arith))) (Memᴰ.cases_cons m)
  where
    go : (Memᴰ a l → P a) → (a ≡ x) ⊎ Memᴰ a l → P a
    go rest (inl e) = rw e (h 0 (zero-lt-suc (length l)))
    go rest (inr n) = rest n

-- A number is a member exactly if it stands at some place.
pub mem-place : (l : List ℕ) (c : ℕ) → Memᴰ c l ↔ ((i : ℕ) × (i < length l) × (get_or l i 0 ≡ c))
mem-place l c = (place l, λ p. Memᴰ.cast (sym p.2) (mem-at l p.0 0 p.1))
  where
    place : (l : List ℕ) → Memᴰ c l → (i : ℕ) × (i < length l) × (get_or l i 0 ≡ c)
    place [] m = absurd (Memᴰ.not-nil m)
    place (x ∷ l) m =
        elim (Memᴰ.cases_cons m) [
          | inl e ↦ (0, zero-lt-suc (length l), sym e)
          | inr n ↦ let p = place l n in (suc p.0, omega arith, p.2)
        ]

-- What stands at a place of the list of values is the value of what stands there.
pub get_or-map : (f : ℕ → ℕ) (l : List ℕ) (i : ℕ) → i < length l → get_or (map f l) i 0 ≡ f (get_or l i 0)
get_or-map f [] i h = absurd (not-suc-le-zero h)
get_or-map f (x ∷ l) zero h = refl
get_or-map f (x ∷ l) (suc i) h = get_or-map f l i (le_of_suc-le-suc h)

-- A table of n entries has n.
pub length-tabulate : (n : ℕ) (f : ℕ → ℕ) → length (tabulate n f) ≡ n
unfolding tabulate
length-tabulate zero f = refl
length-tabulate (suc n) f = ap suc (length-tabulate n (λ k. f (suc k)))

-- The entry at k is what the function says of k.
pub get_or-tabulate : (n : ℕ) (f : ℕ → ℕ) (k : ℕ) → k < n → get_or (tabulate n f) k 0 ≡ f k
unfolding tabulate
get_or-tabulate zero f k h = absurd (not-suc-le-zero h)
get_or-tabulate (suc n) f zero h = refl
get_or-tabulate (suc n) f (suc k) h = get_or-tabulate n (λ j. f (suc j)) k (le_of_suc-le-suc h)

-- A permutation is as long.
pub perm-length : {k l : List ℕ} → Permᴰ k l → length k ≡ length l
perm-length Permᴰ.nil = refl
perm-length (Permᴰ.cons e p) = ap suc (perm-length p)
perm-length (Permᴰ.swap e f) = refl
perm-length (Permᴰ.trans p q) = perm-length p ∙ perm-length q

module _ (l : List ℕ) (i : ℕ) where
  -- From a place on: two numbers and the later ones; three.
  pub drop-two : i + 1 < length l → drop i l ≡ get_or l i 0 ∷ get_or l (i + 1) 0 ∷ drop (i + 2) l
  drop-two h =
      let one : suc i ≡ i + 1 = omega arith in
      let two : suc (i + 1) ≡ i + 2 = omega arith in
      drop-cons l i 0 (omega arith)
      ∙ ap (λ d. get_or l i 0 ∷ d) (ap (λ j. drop j l) one ∙ drop-cons l (i + 1) 0 h ∙ ap (λ j. get_or l (i + 1) 0 ∷ drop j l) two)

  pub drop-three : i + 2 < length l → drop i l ≡ get_or l i 0 ∷ get_or l (i + 1) 0 ∷ get_or l (i + 2) 0 ∷ drop (i + 3) l
  drop-three h =
      let three : suc (i + 2) ≡ i + 3 = omega arith in
      drop-two (omega arith) ∙ ap (λ d. get_or l i 0 ∷ get_or l (i + 1) 0 ∷ d) (drop-cons l (i + 2) 0 h ∙ ap (λ j. get_or l (i + 2) 0 ∷ drop j l) three)
