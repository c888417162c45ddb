-- Lists without repeats: what they are made of, and how long they can be; and the elements of a list, each once.
-- Assumes nothing.
use mathlib.Core.Path.{◌≡◌, refl, sym, ap, ◌∙◌}
use mathlib.Core.Bool.{Bool, true, false, not, true≢false}
use mathlib.Core.HLevel.{⊥_prop}
use mathlib.Core.List.Memᴰ
use mathlib.Core.List.Pairwise
use mathlib.Core.List.{List, [], ◌∷◌, ◌++◌, map, Nodup, Nodup-nil, Nodup-cons, rel_of_Pairwise-cons, Memᴰ}
use mathlib.Core.Logic.{inl, inr, ◌↔◌, ∥∥₁_elim}
use Prim.Native.Nat.{ℕ, suc, ◌≤◌, ◌<◌, zero-le}
use native.Mathlib.Nat.{lt_of_lt_of_le}
use native.Mathlib.Omega.{arith}
use borrow.Author.Tests.{eqb-true}
use denote.Floats.{passes}
use lib.Dec.{eqb}
use lib.ListN.{length}
use Rattle.sequences.specs.Distinct.{Distinct, More, once}
use Rattle.sequences.specs.Rising.{Rising}
use Rattle.sequences.specs.Words.{every}
use Rattle.sequences.proofs.Tests.{T_not, T-eqb}
use Rattle.sequences.proofs.Words.{T-every}

-- A joined list has no element twice exactly if neither part has and no element stands in both.
pub distinct_append : (k l : List ℕ)
    → Distinct (k ++ l) ↔ (Distinct k × Distinct l × ((y : ℕ) → Memᴰ y k → Memᴰ y l → ⊥))
unfolding Distinct
distinct_append [] l = (λ d. (tt, d, λ y m n. Memᴰ.not-nil m), λ d. d.1)
distinct_append (x ∷ k) l = (
  λ d. let r = (distinct_append k l).0 d.1 in (
    (λ m. d.0 (Memᴰ.append_left l m), r.0),
    r.1,
    λ y m n. elim (Memᴰ.cases_cons m) [ inl e ↦ d.0 (Memᴰ.append_right k (Memᴰ.cast (sym e) n)) | inr m' ↦ r.2 y m' n ],
  ),
  λ d. (
    λ m. elim (Memᴰ.append_cases k m) [ inl m' ↦ d.0.0 m' | inr n ↦ d.2 x (Memᴰ.head refl) n ],
    (distinct_append k l).1 (d.0.1, d.1, λ y m n. d.2 y (Memᴰ.tail m) n),
  ),
)

-- The kit's word for them.
pub distinct-nodup : (l : List ℕ) → Distinct l → Nodup l
unfolding Distinct
distinct-nodup [] d = Nodup-nil
distinct-nodup (x ∷ l) d = Nodup-cons.1 (λ m. ∥∥₁_elim m ⊥_prop d.0, distinct-nodup l d.1)

-- Numbers that rise are no repeats.
pub rising-distinct : (l : List ℕ) → Rising l → Distinct l
unfolding Distinct
rising-distinct [] r = tt
rising-distinct (x ∷ l) r = (λ m. absurd (omega (arith, rel_of_Pairwise-cons r ∣ m ∣₁)), rising-distinct l (Pairwise.of_cons r))

-- Where different elements have different values, the values are no repeats.
pub distinct-map : (f : ℕ → ℕ) (l : List ℕ) → Distinct l → ((x y : ℕ) → Memᴰ x l → Memᴰ y l → f x ≡ f y → x ≡ y) → Distinct (map f l)
unfolding Distinct
distinct-map f [] d apart = tt
distinct-map f (x ∷ l) d apart = (
  λ m. let (y, i, e) = Memᴰ.of_map f l m in d.0 (Memᴰ.cast (apart x y (Memᴰ.head refl) (Memᴰ.tail i) (sym e)) i),
  distinct-map f l d.1 (λ y z i j. apart y z (Memᴰ.tail i) (Memᴰ.tail j)),
)

-- ---- the length

-- The list m with the element x at some place, and the rest of it.
record Taken (x : ℕ) (m : List ℕ) : Type 0 where
  rest : List ℕ
  shorter : suc (length rest) ≡ length m
  others : (y : ℕ) → (y ≡ x → ⊥) → Memᴰ y m → Memᴰ y rest

-- A member can be taken out of a list.
taken : (x : ℕ) (m : List ℕ) → Memᴰ x m → Taken x m
taken x [] i = absurd (Memᴰ.not-nil i)
taken x (y ∷ m) i =
    elim (Memᴰ.cases_cons i) [
      | inl e ↦ record {
        rest = m;
        shorter = refl;
        others = λ z differ j. elim (Memᴰ.cases_cons j) [ inl p ↦ absurd (differ (p ∙ sym e)) | inr k ↦ k ];
      }
      | inr j ↦
          let t = taken x m j in record {
            rest = y ∷ t.rest;
            shorter = ap suc t.shorter;
            others = λ z differ k. elim (Memᴰ.cases_cons k) [ inl p ↦ Memᴰ.head p | inr n ↦ Memᴰ.tail (t.others z differ n) ];
          }
    ]

-- A list without repeats whose members all stand in another list is no longer than it.
pub distinct-at-most : (l m : List ℕ) → Distinct l → ((x : ℕ) → Memᴰ x l → Memᴰ x m) → length l ≤ length m
unfolding Distinct
distinct-at-most [] m d within = zero-le
distinct-at-most (x ∷ l) m d within =
    let t : Taken x m = taken x m (within x (Memᴰ.head refl)) in
    let rest : length l ≤ length t.rest = distinct-at-most l t.rest d.1 (λ y j.
    t.others y (λ e. d.0 (Memᴰ.cast (sym e) j)) (within y (Memᴰ.tail j))) in
    omega (arith, t.shorter)

-- Two lists without repeats that have the same members are equally long.
pub distinct-length : (l m : List ℕ) → Distinct l → Distinct m → ((x : ℕ) → Memᴰ x l ↔ Memᴰ x m) → length l ≡ length m
distinct-length l m d e same = omega (arith, distinct-at-most l m d (λ x. (same x).0), distinct-at-most m l e (λ x. (same x).1))

-- More than n numbers have P exactly if a list of them, each once, is longer.
pub more-iff : (P : ℕ → Type 0) (l : List ℕ) → Distinct l → ((x : ℕ) → Memᴰ x l ↔ P x) → (n : ℕ) → (n < length l) ↔ More P n
more-iff P l d same n = (
  λ h. record { named = l; more = h; distinct = d; each = λ x. (same x).0 },
  λ o. lt_of_lt_of_le o.more (distinct-at-most o.named l o.distinct (λ x m. (same x).1 (o.each x m))),
)

-- ---- each element once

-- An element that does not differ from all of a list stands in it.
not-apart : (x : ℕ) (l : List ℕ) → every (λ y. not (eqb x y)) l ≡ false → Memᴰ x l
unfolding every
not-apart x [] e = absurd (true≢false e)
not-apart x (y ∷ l) e = go (eqb x y) refl e (not-apart x l)
  where
    go : (b : Bool) → eqb x y ≡ b → elim (not b) [ true ↦ every (λ z. not (eqb x z)) l | false ↦ false ] ≡ false
        → (every (λ z. not (eqb x z)) l ≡ false → Memᴰ x l) → Memᴰ x (y ∷ l)
    go true q e rest = Memᴰ.head (eqb-true x y q)
    go false q e rest = Memᴰ.tail (rest e)

-- What stands in a list stands in it once each was taken once, and nothing else does.
pub in-once : (l : List ℕ) (x : ℕ) → Memᴰ x (once l) ↔ Memᴰ x l
unfolding once
in-once [] x = (λ m. m, λ m. m)
in-once (y ∷ l) x = go (every (λ z. not (eqb y z)) l) refl (in-once l x)
  where
    go : (b : Bool) → every (λ z. not (eqb y z)) l ≡ b → Memᴰ x (once l) ↔ Memᴰ x l
        → Memᴰ x (elim b [ true ↦ y ∷ once l | false ↦ once l ]) ↔ Memᴰ x (y ∷ l)
    go true e rest = (
      λ m. elim (Memᴰ.cases_cons m) [ inl q ↦ Memᴰ.head q | inr n ↦ Memᴰ.tail (rest.0 n) ],
      λ m. elim (Memᴰ.cases_cons m) [ inl q ↦ Memᴰ.head q | inr n ↦ Memᴰ.tail (rest.1 n) ],
    )
    go false e rest = (
      λ m. Memᴰ.tail (rest.0 m),
      λ m. elim (Memᴰ.cases_cons m) [ inl q ↦ rest.1 (Memᴰ.cast q (not-apart y l e)) | inr n ↦ rest.1 n ],
    )

-- No element is left twice.
pub once-distinct : (l : List ℕ) → Distinct (once l)
unfolding Distinct once
once-distinct [] = tt
once-distinct (x ∷ l) = go (every (λ y. not (eqb x y)) l) refl (once-distinct l)
  where
    go : (b : Bool) → every (λ y. not (eqb x y)) l ≡ b → Distinct (once l) → Distinct (elim b [ true ↦ x ∷ once l | false ↦ once l ])
    go true e rest = (
      λ m. (T_not (eqb x x)).0 ((T-every (λ y. not (eqb x y)) l).0 (passes (every (λ y. not (eqb x y)) l) e) x ((in-once l x).0 m)) ((T-eqb x x).1 refl),
      rest,
    )
    go false e rest = rest
