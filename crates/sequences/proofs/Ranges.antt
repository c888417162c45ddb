-- The numbers from one on: which they are, that they rise, and how many of them pass a test, or have what it tells.
-- Assumes nothing.
use mathlib.Core.Path.{◌≡◌, refl, ap, ap₂, ◌∙◌}
use mathlib.Core.Bool.{Bool, true, false, cond}
use mathlib.Core.List.Memᴰ
use mathlib.Core.List.Pairwise
use mathlib.Core.List.{List, [], ◌∷◌, ◌++◌, Memᴰ}
use mathlib.Core.Logic.{inl, inr, ◌↔◌, ∥∥₁_elim}
use Prim.Native.Nat.{ℕ, zero, suc, ◌+◌, ◌-◌, ◌≤◌, ◌<◌, zero-le}
use native.Mathlib.Nat.{zero-add, suc-add, not-suc-le-zero}
use native.Mathlib.Bridge.{le_prop}
use native.Mathlib.Decide.{ℕ_discrete}
use native.Mathlib.Omega.{arith}
use lib.Dec.{T}
use lib.ListN.{length}
use Rattle.sequences.specs.Rising.{Rising}
use Rattle.sequences.specs.Words.{range, passing}
use Rattle.sequences.specs.Counts.{count_if, Exactly}
use Rattle.sequences.proofs.Counts.{count-nil, count-cons, count-append, count-le}
use Rattle.sequences.proofs.Words.{mem-passing, passing-rising}

-- There are n of them,
pub length-range : (k n : ℕ) → length (range k n) ≡ n
unfolding range
length-range k zero = refl
length-range k (suc n) = ap suc (length-range (suc k) n)

-- from k to before k + n,
pub mem-range : (k n m : ℕ) → Memᴰ m (range k n) ↔ ((k ≤ m) × (m < k + n))
unfolding range
mem-range k zero m = (λ i. absurd (Memᴰ.not-nil i), λ b. absurd (omega (arith, b.0, b.1)))
mem-range k (suc n) m =
    let later = mem-range (suc k) n m in (
      λ i. elim (Memᴰ.cases_cons i) [
        | inl e ↦ (omega arith, omega arith)
        | inr j ↦ let b = later.0 j in (omega (arith, b.0), omega (arith, b.1))
      ],
      λ b. elim (ℕ_discrete m k) [ yes e ↦ Memᴰ.head e | no d ↦ Memᴰ.tail (later.1 (omega (arith, b.0, d), omega (arith, b.1))) ],
    )

-- and they rise.
pub range-rising : (k n : ℕ) → Rising (range k n)
unfolding range
range-rising k zero = Pairwise.nil
range-rising k (suc n) = Pairwise.cons (λ m i. ∥∥₁_elim i le_prop (λ j. ((mem-range (suc k) n m).0 j).0)) (range-rising (suc k) n)

-- The first and the later ones.
pub range-append : (k a b : ℕ) → range k (a + b) ≡ range k a ++ range (k + a) b
unfolding range
range-append k zero b =
    let none : 0 + b ≡ b = omega arith in
    let here : k ≡ k + 0 = omega arith in
    ap₂ range here none
range-append k (suc a) b =
    let more : suc a + b ≡ suc (a + b) = omega arith in
    let there : suc k + a ≡ k + suc a = omega arith in
    ap (range k) more ∙ ap (λ l. k ∷ l) (range-append (suc k) a b ∙ ap (λ j. range (suc k) a ++ range j b) there)

module _ (p : ℕ → Bool) where
  -- As many pass a test as are listed when those that pass are.
  pub length-passing : (l : List ℕ) → length (passing p l) ≡ count_if p l
  unfolding passing count_if
  length-passing [] = refl
  length-passing (x ∷ l) = go (p x) (length-passing l)
    where
      go : (b : Bool) → length (passing p l) ≡ count_if p l
          → length {A = ℕ} (elim b [ true ↦ x ∷ passing p l | false ↦ passing p l ]) ≡ elim b [ true ↦ suc (count_if p l) | false ↦ count_if p l ]
      go true e = ap suc e
      go false e = e

  -- Where all of a range pass or none does, the count is all or nothing.
  pub count-steady : (b : Bool) (k n : ℕ) → ((j : ℕ) → k ≤ j → j < k + n → p j ≡ b) → count_if p (range k n) ≡ cond b n 0
  unfolding range
  count-steady true k zero same = count-nil p
  count-steady false k zero same = count-nil p
  count-steady true k (suc n) same =
      let rest = count-steady true (suc k) n (λ j h l. same j (omega arith) (omega arith)) in
      count-cons p k (range (suc k) n) ∙ rw (same k (omega arith) (omega arith), rest) (omega arith)
  count-steady false k (suc n) same =
      let rest = count-steady false (suc k) n (λ j h l. same j (omega arith) (omega arith)) in
      count-cons p k (range (suc k) n) ∙ rw (same k (omega arith) (omega arith), rest) (omega arith)

  -- So the count up to a number grows by all or nothing to the next.
  pub count-on : (b : Bool) (k n : ℕ) → k ≤ n → ((j : ℕ) → k ≤ j → j < n → p j ≡ b)
      → count_if p (range 0 n) ≡ count_if p (range 0 k) + cond b (n - k) 0
  count-on b k n h same =
      let all : n ≡ k + (n - k) = omega arith in
      let start : 0 + k ≡ k = omega arith in
      let later = count-steady b k (n - k) (λ j h l. same j h (omega arith)) in
      ap (λ m. count_if p (range 0 m)) all
      ∙ ap (count_if p) (range-append 0 k (n - k))
      ∙ count-append p (range 0 k) (range (0 + k) (n - k))
      ∙ ap (λ c. count_if p (range 0 k) + c) (ap (λ j. count_if p (range j (n - k))) start ∙ later)

  -- To the next number it grows by one if that passes.
  pub count_next : (b : Bool) (n : ℕ) → p n ≡ b → count_if p (range 0 (suc n)) ≡ count_if p (range 0 n) + cond b 1 0
  count_next b n e =
      let here : (j : ℕ) → n ≤ j → j < suc n → p j ≡ b = λ j h l. let at : j ≡ n = omega arith in ap p at ∙ e in
      let one : suc n - n ≡ 1 = omega arith in
      count-on b n (suc n) (omega arith) here ∙ ap (λ m. count_if p (range 0 n) + cond b m 0) one

  -- No more pass than there are.
  pub count-below : (n : ℕ) → count_if p (range 0 n) ≤ n
  count-below n = omega (arith, count-le p (range 0 n), length-range 0 n)

  -- What the test tells holds of exactly as many numbers as are counted.
  pub exactly-counted : (w : ℕ) (P : ℕ → Type 0) → ((m : ℕ) → T (p m) ↔ P m) → Exactly w P (count_if p (range 0 w))
  exactly-counted w P right = record {
    list = passing p (range 0 w);
    rising = passing-rising p (range 0 w) (range-rising 0 w);
    members = λ m.
        let there = mem-passing p (range 0 w) m in
        let numbers = mem-range 0 w m in (
          λ i. let k = there.0 i in (omega (arith, (numbers.0 k.0).1), (right m).0 k.1),
          λ k. there.1 (numbers.1 (zero-le, omega (arith, k.0)), (right m).1 k.1),
        );
    count = length-passing (range 0 w);
  }

  -- A test that stays passed once it is passed is passed by the last ones.
  module _ (stays : (i : ℕ) → T (p i) → T (p (suc i))) where
    stays-passed : (i d : ℕ) → T (p i) → T (p (d + i))
    stays-passed i zero t = rw (zero-add i) t
    stays-passed i (suc d) t = rw (suc-add d i) (stays (d + i) (stays-passed i d t))

    pub count-last : (n i : ℕ) → i < n → T (p i) ↔ (n < suc i + count_if p (range 0 n))
    count-last zero i h = absurd (not-suc-le-zero h)
    count-last (suc n) i h = go (p n) refl (count_next (p n) n refl) (count-last n i)
      where
        failed : (b : Bool) → (T b → ⊥) → b ≡ false
        failed true f = absurd (f tt)
        failed false f = refl

        go : (b : Bool) → p n ≡ b → count_if p (range 0 (suc n)) ≡ count_if p (range 0 n) + cond b 1 0
            → (i < n → T (p i) ↔ (n < suc i + count_if p (range 0 n)))
            → T (p i) ↔ (suc n < suc i + count_if p (range 0 (suc n)))
        go true e more earlier = elim (ℕ_discrete i n) [
          | yes at ↦ (λ t. omega arith, λ l. rw (at, e) tt)
          | no off ↦
              let before = earlier (omega arith) in
              (λ t. let l = before.0 t in omega arith, λ l. before.1 (omega arith))
        ]
        go false e more earlier =
            let not_yet : (j : ℕ) → j ≤ n → p j ≡ false = λ j l. failed (p j) (λ t.
            let apart : n - j + j ≡ n = omega arith in
            rw (apart, e) at (stays-passed j (n - j) t)) in
            let none = count-steady false 0 n (λ j h l. not_yet j (omega arith)) in
            (λ t. absurd (rw (not_yet i (omega arith)) at t), λ l. absurd (omega arith))

-- What holds of the same numbers holds of as many.
pub exactly-same : {w : ℕ} {P Q : ℕ → Type 0} {n : ℕ} → ((m : ℕ) → P m ↔ Q m) → Exactly w P n → Exactly w Q n
exactly-same same k = record {
  list = k.list;
  rising = k.rising;
  members = λ m. let there = k.members m in (
    λ i. let p = there.0 i in (p.0, (same m).0 p.1),
    λ q. there.1 (q.0, (same m).1 q.1),
  );
  count = k.count;
}
