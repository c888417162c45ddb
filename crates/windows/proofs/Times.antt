-- From one change to the next: the next time is found, until then nothing opens, closes, goes out or comes back, and there are at most 61
-- such stretches.
-- Assumes nothing.
--
--   Next m l n       n is the first time of l that is past m
--   left o w m       how many changes are past the minute m
use mathlib.Core.Bool.{Bool, true, false, cond, ◌&&◌, ◌||◌}
use mathlib.Core.List.Memᴰ
use mathlib.Core.List.{List, [], ◌∷◌, ◌++◌, Memᴰ}
use mathlib.Core.Logic.{◌⊎◌, inl, inr}
use mathlib.Core.Path.{◌≡◌, refl, ap₂, ◌∙◌}
use Prim.Native.Nat.{ℕ, ◌+◌, ◌*◌, ◌≤◌, ◌<◌, zero-le}
use native.Mathlib.Omega.{arith}
use borrow.Author.Tests.{ltb-true, ltb-false, leb-true, leb-false, lt-ltb, le-ltb, le-leb, lt-leb}
use lib.Dec.{leb, ltb}
use lib.ListN.{length, length-append}
use Rattle.sequences.specs.Counts.{bit, count_if}
use Rattle.sequences.proofs.Counts.{count-nil, count-cons, count-le}
use Rattle.bitset.specs.Members.{add_if}
use Rattle.windows.specs.Windows.{covers, is_open, out_at, opening_count, works_count}
use Rattle.windows.specs.Times.{times_of, sooner, soonest, changes_of}

-- ---- the next time

pub record Next (m : ℕ) (l : List ℕ) (n : ℕ) : Type 0 where
  pub past : m < n
  pub member : Memᴰ n l
  pub first : (t : ℕ) → Memᴰ t l → m < t → n ≤ t

module _ (m : ℕ) where
  -- The sooner of two times, of which the second is past m.
  sooner-next : (t n : ℕ) → m < n → Next m (n ∷ t ∷ []) (sooner m t n)
  unfolding sooner
  sooner-next t n past = go (ltb m t) (ltb t n) refl refl
    where
      among : (u v : ℕ) → Memᴰ u (n ∷ t ∷ []) → v ≤ n → (m < t → v ≤ t) → m < u → v ≤ u
      among u v i below other h =
          elim (Memᴰ.cases_cons i) [
            | inl e ↦ omega (arith, below)
            | inr j ↦ let e = Memᴰ.eq_of_singleton j in omega (arith, other (omega (arith, h, e)), e)
          ]

      go : (a b : Bool) → ltb m t ≡ a → ltb t n ≡ b → Next m (n ∷ t ∷ []) (cond (a && b) t n)
      go true true x y =
          let less = ltb-true t n y in
          record {
            past = ltb-true m t x;
            member = Memᴰ.tail (Memᴰ.head refl);
            first = λ u i h. among u t i (omega (arith, less)) (λ q. omega arith) h;
          }
      go true false x y =
          let more = ltb-false t n y in
          record { past = past; member = Memᴰ.head refl; first = λ u i h. among u n i (omega arith) (λ q. more) h }
      go false b x y =
          let before = ltb-false m t x in
          record { past = past; member = Memᴰ.head refl; first = λ u i h. among u n i (omega arith) (λ q. absurd (omega (arith, before))) h }

  -- The soonest of one past m and others.
  pub soonest-next : (l : List ℕ) (n : ℕ) → m < n → Next m (n ∷ l) (soonest m n l)
  unfolding soonest
  soonest-next [] n past = record {
    past = past;
    member = Memᴰ.head refl;
    first = λ u i h. let e = Memᴰ.eq_of_singleton i in omega (arith, e);
  }
  soonest-next (t ∷ l) n past =
      let two = sooner-next t n past in
      let all = soonest-next l (sooner m t n) two.past in
      let within = all.first (sooner m t n) (Memᴰ.head refl) two.past in
      record {
        past = all.past;
        member = elim (Memᴰ.cases_cons all.member) [
          | inl e ↦ elim (Memᴰ.cases_cons two.member) [
            | inl d ↦ Memᴰ.head (e ∙ d)
            | inr j ↦ Memᴰ.tail (Memᴰ.head (e ∙ Memᴰ.eq_of_singleton j))
          ]
          | inr j ↦ Memᴰ.tail (Memᴰ.tail j)
        ];
        first = λ u i h. elim (Memᴰ.cases_cons i) [
          | inl e ↦ omega (arith, within, two.first u (Memᴰ.head e) h)
          | inr j ↦ elim (Memᴰ.cases_cons j) [
            | inl e ↦ omega (arith, within, two.first u (Memᴰ.tail (Memᴰ.head e)) h)
            | inr k ↦ all.first u (Memᴰ.tail k) h
          ]
        ];
      }

  -- One after the other.
  pub soonest-append : (k l : List ℕ) (n : ℕ) → soonest m n (k ++ l) ≡ soonest m (soonest m n k) l
  unfolding soonest
  soonest-append [] l n = refl
  soonest-append (t ∷ k) l n = soonest-append k l (sooner m t n)

-- ---- until then

-- A test of one time does not change before it.
leb-steady : (s m n j : ℕ) → (m < s → n ≤ s) → m ≤ j → j < n → leb s j ≡ leb s m
leb-steady s m n j later h l = go (leb s m) refl
  where
    go : (b : Bool) → leb s m ≡ b → leb s j ≡ b
    go true e = let below = leb-true s m e in le-leb s j (omega (arith, below))
    go false e = let above = leb-false s m e in lt-leb s j (omega (arith, later above))

ltb-steady : (e m n j : ℕ) → (m < e → n ≤ e) → m ≤ j → j < n → ltb j e ≡ ltb m e
ltb-steady e m n j later h l = go (ltb m e) refl
  where
    go : (b : Bool) → ltb m e ≡ b → ltb j e ≡ b
    go true x = let above = ltb-true m e x in lt-ltb j e (omega (arith, later above))
    go false x = let below = ltb-false m e x in le-ltb j e (omega (arith, below))

module _ (m n j : ℕ) (h : m ≤ j) (l : j < n) where
  covers-steady : (s e : ℕ) → (m < s → n ≤ s) → (m < e → n ≤ e) → covers s e j ≡ covers s e m
  unfolding covers
  covers-steady s e start end = ap₂ ◌&&◌ (leb-steady s m n j start h l) (ltb-steady e m n j end h l)

  -- No window opens or closes,
  pub open-steady : (o : List ℕ) → ((t : ℕ) → Memᴰ t o → m < t → n ≤ t) → is_open o j ≡ is_open o m
  unfolding is_open
  open-steady [] later = refl
  open-steady (s ∷ []) later = refl
  open-steady (s ∷ e ∷ o) later =
      ap₂ ◌||◌ (covers-steady s e (later s (Memᴰ.head refl)) (later e (Memᴰ.tail (Memᴰ.head refl))))
      (open-steady o (λ t i. later t (Memᴰ.tail (Memᴰ.tail i))))

  -- and no edge comes back or goes out.
  pub out-steady : (w : List ℕ) → ((t : ℕ) → Memᴰ t (times_of w) → m < t → n ≤ t) → out_at w j ≡ out_at w m
  unfolding out_at times_of
  out-steady [] later = refl
  out-steady (s ∷ []) later = refl
  out-steady (s ∷ e ∷ []) later = refl
  out-steady (s ∷ e ∷ k ∷ w) later =
      ap₂ (λ b d. add_if b d k) (covers-steady s e (later s (Memᴰ.head refl)) (later e (Memᴰ.tail (Memᴰ.head refl))))
      (out-steady w (λ t i. later t (Memᴰ.tail (Memᴰ.tail i))))

-- ---- how many stretches there are

module _ (m n : ℕ) (h : m < n) where
  -- What is past n is past m, and n itself is past m alone.
  past-later : (t : ℕ) → bit (ltb n t) ≤ bit (ltb m t)
  past-later t = go (ltb n t) refl
    where
      go : (b : Bool) → ltb n t ≡ b → bit b ≤ bit (ltb m t)
      go true e = let more = ltb-true n t e in rw (lt-ltb m t (omega (arith, more))) (omega arith)
      go false e = zero-le

  left_after : (l : List ℕ) → count_if (ltb n) l ≤ count_if (ltb m) l
  left_after [] = rw (count-nil (ltb n)) zero-le
  left_after (t ∷ l) =
      let rest = left_after l in
      let here = past-later t in
      rw (count-cons (ltb n) t l, count-cons (ltb m) t l) (omega (arith, rest, here))

  fewer-after : (l : List ℕ) → Memᴰ n l → count_if (ltb n) l < count_if (ltb m) l
  fewer-after [] i = absurd (Memᴰ.not-nil i)
  fewer-after (t ∷ l) i = rw (count-cons (ltb n) t l, count-cons (ltb m) t l) (go (fewer-after l) (Memᴰ.cases_cons i))
    where
      go : (Memᴰ n l → count_if (ltb n) l < count_if (ltb m) l) → (n ≡ t) ⊎ Memᴰ n l
          → bit (ltb n t) + count_if (ltb n) l < bit (ltb m t) + count_if (ltb m) l
      go rest (inl e) =
          let still = left_after l in
          rw (← e, lt-ltb m n h, le-ltb n n (omega arith)) (omega (arith, still))
      go rest (inr j) =
          let less = rest j in
          let here = past-later t in
          omega (arith, less, here)

-- The changes past a minute: with each stretch there are fewer.
abbrev pub left : List ℕ → List ℕ → ℕ → ℕ
left o w m = count_if (ltb m) (changes_of o w)

pub fewer-left : (o w : List ℕ) {m n : ℕ} → Next m (changes_of o w) n → left o w n < left o w m
fewer-left o w {m} {n} next = fewer-after m n next.past (changes_of o w) next.member

-- Two of three numbers of works windows are times.
times-length : (w : List ℕ) → 3 * length (times_of w) ≤ 2 * length w
unfolding times_of
times-length [] = zero-le
times-length (s ∷ []) = zero-le
times-length (s ∷ e ∷ []) = zero-le
times-length (s ∷ e ∷ k ∷ w) = let rest = times-length w in omega (arith, rest)

-- So of 14 opening windows and 16 works windows there are at most 61: as many stretches, and spreads.
pub left-61 : (o w : List ℕ) → opening_count o ≤ 14 → works_count w ≤ 16 → (m : ℕ) → left o w m ≤ 61
left-61 o w few few' m =
    let all = count-le (ltb m) (changes_of o w) in
    let both = length-append o (times_of w) in
    let two = times-length w in
    omega (arith, all, both, two, few, few')
