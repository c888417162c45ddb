-- The steps of the code, over plain values: the search for a part, rows that are sifted one after the other, and unions that are written one
-- after the other.
-- Assumes nothing.
--
--   Sifting from rows₀ rows kept i     before row i: of the rows from `from` on those that are kept stand in front, the others are as they were
--   Uniting l m rows₀ rows end i       before set i of l: the unions of those before it with the sets of m stand in front, `end` in number
use mathlib.Core.Path.{◌≡◌, refl, sym, ap, ◌∙◌}
use mathlib.Core.List.Memᴰ
use mathlib.Core.List.{List, [], ◌∷◌, ◌++◌, map, map-append, append-nil, Pairwise, Pairwise-singleton, Pairwise-append, Memᴰ}
use mathlib.Core.Logic.Iff
use mathlib.Core.Logic.{inl, inr, ◌↔◌, ∥∥₁_elim}
use Prim.Native.Nat.{ℕ, suc, ◌+◌, ◌*◌, ◌-◌, ◌≤◌, ◌<◌, zero-le}
use native.Mathlib.Bridge.{le_prop}
use native.Mathlib.Nat.{sub_self, suc-mul, mul-le-mul_right}
use native.Mathlib.Numerals.{add-one}
use native.Mathlib.Omega.{arith}
use lib.Arith.{lt_of_le-ne}
use lib.Bits.{bit_or}
use borrow.Rule.Slice.PartMut.{mid_of, put_mid, same_len_mid}
use lib.ListN.{length, get_or, set, take, drop, length-take, drop_of_length-le, length-append, length-map, length-drop, length-set}
use lib.Seq.{take_at, take-suc, drop_at, take-take, take-add, take_all, drop-drop, take-suc-set, drop-set-lt, length-take-le, get_or-drop, split_at}
use Rattle.sequences.specs.Rising.{Rising}
use Rattle.sequences.proofs.Counts.{permutation-mem}
use Rattle.sequences.proofs.Places.{at_mem, mem-at}
use Rattle.bitset.specs.Families.{Least}
use Rattle.bitset.specs.Members.{◌⊆◌}
use Rattle.bitset.proofs.Subsets.{⊆-refl, ⊆-trans, ⊆-antisym, subset-le}
use Rattle.sorting.specs.Sorted.{Ascending}
use Rattle.ordering.specs.Ascended.{Ascended}
use Rattle.clutters.specs.Clutters.{HoldsOne, inside, tidy, unions}
use Rattle.std.specs.List.{position, position_or_len}
use Rattle.std.specs.Prelude.{Option, Some, None, true}
use Rattle.std.specs.Option.{is_some}
use Rattle.std.proofs.lemmas.List.Quantifiers.{position-Some}
use Rattle.std.proofs.lemmas.List.{drop-take}
use Rattle.std.proofs.lemmas.List.Sums.{fails_before_first}
use Rattle.std.proofs.lemmas.Grind.{common_steps}
use Rattle.clutters.specs.Steps.{PartAt, between, Written, UnitedWith, United, Tidied}
use Rattle.clutters.proofs.Clutters.{inside-iff, holds-up, holds-member, holds-within, holds-single, holds-append, holds-with, holds-unions, least-member, in-tidy, tidy-rising, tidy-unique, tidy-same, tidy-holds}

-- ---- the search for a part

-- The first set that passes the test of a part is one; if none does, no set is.
pub part-found : (l : List ℕ) (h : ℕ) (r : Option ℕ) → r ≡ position (λ s. inside s h) l → PartAt l h r
part-found l h (Some i) e =
    let found = position-Some (λ s. inside s h) l i 0 (sym e) in
    (found.0, (inside-iff (get_or l i 0) h).0 (rw found.1 tt))
part-found l h None e = λ (s, (m, p)).
    let all : length l ≤ position_or_len (λ s. inside s h) l = grind (arith, common_steps) in
    at_mem (λ x. x ⊆ h → ⊥) l (λ j k q. (rw (fails_before_first (λ s. inside s h) l j 0 (omega arith)) at ((inside-iff (get_or l j 0) h).1 q))) m p

-- ---- rows from a place on

-- The next row comes to those from p on.
between_next : (p i : ℕ) (rows : List ℕ) → p ≤ i → i < length rows → between p (i + 1) rows ≡ between p i rows ++ get_or rows i 0 ∷ []
between_next p i rows h k =
    let next : (i + 1) - p ≡ suc (i - p) = omega arith in
    let there : p + (i - p) ≡ i = omega arith in
    rw (next, take-suc (drop p rows) (i - p) 0 (omega (arith, length-drop p rows)), get_or-drop p rows (i - p) 0, there)

-- ---- rows that are lent from a place on

-- They come back as `part`, behind the others.
abbrev restored : ℕ → List ℕ → List ℕ → List ℕ
restored from rows part = put_mid from (length rows - from) rows part

module _ (from : ℕ) (rows part : List ℕ) (within : from ≤ length rows) where
  -- What is lent.
  lent : mid_of from (length rows - from) rows ≡ drop from rows
  lent = take_all (length rows - from) (drop from rows) (omega (arith, length-drop from rows))

  -- What comes back.
  restored-rest : drop from (restored from rows part) ≡ part
  restored-rest =
      drop_at (take from rows) (part ++ drop (length rows - from) (drop from rows)) from (length-take-le from rows within)
      ∙ ap (λ l. part ++ l) (drop_of_length-le (drop from rows) {i = length rows - from} (omega (arith, length-drop from rows)))
      ∙ append-nil part

  -- What is not lent.
  restored-front : take from (restored from rows part) ≡ take from rows
  restored-front = take_at (take from rows) (part ++ drop (length rows - from) (drop from rows)) from (length-take-le from rows within)

-- ---- sifting

module _ (l : List ℕ) (x : ℕ) (last : (y : ℕ) → Memᴰ y l → y ≤ x) where
  -- What holds a set that is kept is not kept itself.
  sifted-out : HoldsOne (tidy l) x → tidy (l ++ x ∷ []) ≡ tidy l
  sifted-out k =
      tidy-same (l ++ x ∷ []) l (λ h. (
        λ q. elim ((holds-append l (x ∷ []) h).0 q) [
          | inl p ↦ p
          | inr p ↦ holds-up l x h ((holds-single x h).0 p) ((tidy-holds l x).0 k)
        ],
        λ p. (holds-append l (x ∷ []) h).1 (inl p),
      ))

  -- Any other is, as the last: a part is never the larger number.
  sifted-in : (HoldsOne (tidy l) x → ⊥) → tidy (l ++ x ∷ []) ≡ tidy l ++ x ∷ []
  sifted-in none = tidy-unique (l ++ x ∷ []) (tidy l ++ x ∷ []) rises (λ a. (into a, back a))
    where
      below : (y : ℕ) → Memᴰ y (tidy l) → y < x
      below y m = lt_of_le-ne (last y (least-member l y ((in-tidy l y).0 m))) (λ e. none (y, (m, rw e (⊆-refl x))))

      rises : Rising (tidy l ++ x ∷ [])
      rises =
          (Pairwise-append (λ u v. le_prop)).1 (
            tidy-rising l,
            Pairwise-singleton ◌<◌ x,
            λ u i v j. ∥∥₁_elim i le_prop (λ i'. ∥∥₁_elim j le_prop (λ j'. rw (Memᴰ.eq_of_singleton j') (below u i'))),
          )

      into : (a : ℕ) → Memᴰ a (tidy l ++ x ∷ []) → Least (HoldsOne (l ++ x ∷ [])) a
      into a m = elim (Memᴰ.append_cases (tidy l) m) [
        | inl i ↦
            let b = (in-tidy l a).0 i in
            record {
              has = (holds-append l (x ∷ []) a).1 (inl b.has);
              least = λ d h q. elim ((holds-append l (x ∷ []) d).0 q) [
                | inl p ↦ b.least d h p
                | inr p ↦ absurd (omega (arith, subset-le x a (⊆-trans x d a ((holds-single x d).0 p) h), below a i))
              ];
            }
        | inr i ↦
            let e = Memᴰ.eq_of_singleton i in
            record {
              has = (holds-append l (x ∷ []) a).1 (inr ((holds-single x a).1 (rw e (⊆-refl x))));
              least = λ d h q. elim ((holds-append l (x ∷ []) d).0 q) [
                | inl p ↦ absurd (none ((tidy-holds l x).1 (holds-up l d x (rw e at h) p)))
                | inr p ↦ ⊆-antisym d a h (rw e ((holds-single x d).0 p))
              ];
            }
      ]

      back : (a : ℕ) → Least (HoldsOne (l ++ x ∷ [])) a → Memᴰ a (tidy l ++ x ∷ [])
      back a b = elim (Memᴰ.append_cases l (least-member (l ++ x ∷ []) a b)) [
        | inl i ↦ Memᴰ.append_left (x ∷ []) ((in-tidy l a).1 (record {
          has = holds-member l a i;
          least = λ d h p. b.least d h ((holds-append l (x ∷ []) d).1 (inl p));
        }))
        | inr i ↦ Memᴰ.append_right (tidy l) i
      ]

-- Of no sets none is kept.
tidy-none : tidy [] ≡ []
tidy-none = tidy-unique [] [] Pairwise.nil (λ a. (λ m. absurd (Memᴰ.not-nil m), λ b. absurd (Memᴰ.not-nil b.has.1.0)))

pub record Sifting (from : ℕ) (rows₀ rows : List ℕ) (kept i : ℕ) : Type 0 where
  pub start : from ≤ i
  pub place : i ≤ length rows₀
  pub few : kept + from ≤ i
  pub size : length rows ≡ length rows₀
  pub front : take kept rows ≡ tidy (between from i rows₀)
  pub left : drop i rows ≡ drop i rows₀

module _ (from : ℕ) (rows₀ : List ℕ) where
  -- At first none is kept.
  pub first-sifting : from ≤ length rows₀ → Sifting from rows₀ rows₀ 0 from
  first-sifting h = record {
    start = omega arith;
    place = h;
    few = omega arith;
    size = refl;
    front = sym (rw (sub_self from) tidy-none);
    left = refl;
  }

  module _ {rows : List ℕ} {kept i : ℕ} (t : Sifting from rows₀ rows kept i) where
    module _ (ascends : Ascending (drop from rows₀)) (inside : i < length rows) where
      -- The row that is looked at.
      abbrev row : ℕ
      row = get_or rows i 0

      -- It is as it was.
      row-left : row ≡ get_or rows₀ i 0
      row-left =
          let zero-on : i + 0 ≡ i = omega arith in
          let now : get_or (drop i rows) 0 0 ≡ row = get_or-drop i rows 0 0 ∙ ap (λ k. get_or rows k 0) zero-on in
          let was : get_or (drop i rows₀) 0 0 ≡ get_or rows₀ i 0 = get_or-drop i rows₀ 0 0 ∙ ap (λ k. get_or rows₀ k 0) zero-on in
          sym now ∙ ap (λ l. get_or l 0 0) t.left ∙ was

      place_in : i < length rows₀
      place_in = omega (arith, t.size)

      -- With it, the rows looked at.
      more : between from (i + 1) rows₀ ≡ between from i rows₀ ++ row ∷ []
      more = rw row-left (between_next from i rows₀ t.start place_in)

      -- No row before it is above it.
      above : (y : ℕ) → Memᴰ y (between from i rows₀) → y ≤ row
      above y m =
          let there : from + (i - from) ≡ i = omega (arith, t.start) in
          let whole = split_at (drop from rows₀) (i - from) 0 (omega (arith, length-drop from rows₀, t.start, place_in)) in
          let cross = ((Pairwise-append (λ u v. le_prop)).0 (rw whole at ascends)).2 in
          let is : get_or (drop from rows₀) (i - from) 0 ≡ row = get_or-drop from rows₀ (i - from) 0 ∙ ap (λ k. get_or rows₀ k 0) there ∙ sym row-left in
          rw is at (cross y ∣ m ∣₁ (get_or (drop from rows₀) (i - from) 0) ∣ Memᴰ.head refl ∣₁)

      -- The rows after it are as they were.
      left-more : (l : List ℕ) → drop i l ≡ drop i rows₀ → drop (i + 1) l ≡ drop (i + 1) rows₀
      left-more l e = rw (← drop-drop 1 i l, ← drop-drop 1 i rows₀, e)

      -- A row that holds one of those kept is left behind.
      sifting-out : HoldsOne (take kept rows) row → Sifting from rows₀ rows kept (i + 1)
      sifting-out k = record {
        start = omega (arith, t.start);
        place = omega (arith, place_in);
        few = omega (arith, t.few);
        size = t.size;
        front = t.front ∙ sym (ap tidy more ∙ sifted-out (between from i rows₀) row above (rw t.front at k));
        left = left-more rows t.left;
      }

      -- Any other is kept.
      pub sifting-in : (HoldsOne (take kept rows) row → ⊥) → Sifting from rows₀ (set rows kept row) (kept + 1) (i + 1)
      sifting-in none =
          let room : kept < length rows = omega (arith, t.few, inside) in
          record {
            start = omega (arith, t.start);
            place = omega (arith, place_in);
            few = omega (arith, t.few);
            size = length-set rows kept row ∙ t.size;
            front =
                rw (add-one kept, take-suc-set rows kept row room, t.front)
                (sym (ap tidy more ∙ sifted-in (between from i rows₀) row above (rw t.front at none)));
            left = drop-set-lt (i + 1) rows kept row (omega (arith, t.few)) ∙ left-more rows t.left;
          }

      -- By what the search has found: the row is left behind, or it is kept.
      pub sifting-found : (r : ℕ) → (r < length (take kept rows)) × (get_or (take kept rows) r 0 ⊆ row) → Sifting from rows₀ rows kept (i + 1)
      sifting-found r (inside, part) = sifting-out (get_or (take kept rows) r 0, (mem-at (take kept rows) r 0 inside, part))

    -- After the last row the list is tidied up.
    pub last-sifting : length rows ≤ i → Tidied (drop from rows₀) rows₀ rows kept
    last-sifting h =
        let all : between from i rows₀ ≡ drop from rows₀ = take_all (i - from) (drop from rows₀) (omega (arith, length-drop from rows₀, t.size)) in
        let front : take kept rows ≡ tidy (drop from rows₀) = t.front ∙ ap tidy all in
        record {
          size = t.size;
          count = sym (length-take-le kept rows (omega (arith, t.size, t.few, t.place))) ∙ ap length front;
          tidied = front;
        }

-- ---- sorting

-- Sets in another order are the same once tidied up.
tidy-ascended : (l m : List ℕ) → Ascended l m → tidy m ≡ tidy l
tidy-ascended l m s = tidy-same m l (λ h. (
  holds-within m l (λ a. permutation-mem m l s.permutes) h,
  holds-within l m (λ a. permutation-mem l m (λ p. sym (s.permutes p))) h,
))

module _ (from : ℕ) (rows sorted : List ℕ) (within : from ≤ length rows) (s : Ascended (mid_of from (length rows - from) rows) sorted) where
  restored-length : length (restored from rows sorted) ≡ length rows
  restored-length = same_len_mid from (length rows - from) rows sorted s.same_length

  -- They ascend.
  pub sorted-ascend : (from ≤ length (restored from rows sorted)) × Ascending (drop from (restored from rows sorted))
  sorted-ascend = (rw restored-length within, rw (restored-rest from rows sorted within) s.ascends)

  -- What is tidied up is what stood there before.
  pub sorted-tidied : {rows' : List ℕ} {r : ℕ} → Tidied (drop from (restored from rows sorted)) (restored from rows sorted) rows' r → Tidied (drop from rows) rows rows' r
  sorted-tidied {rows'} {r} t =
      let same : tidy (drop from (restored from rows sorted)) ≡ tidy (drop from rows) =
      ap tidy (restored-rest from rows sorted within) ∙ tidy-ascended (drop from rows) sorted (rw (lent from rows sorted within) at s) in
      record {
        size = t.size ∙ restored-length;
        count = t.count ∙ ap length same;
        tidied = t.tidied ∙ same;
      }

-- ---- uniting

-- What lies inside a set spares its unions: each of them holds the set.
pub spared : (s : ℕ) (l : List ℕ) (i : ℕ) → i < length l → get_or l i 0 ⊆ s → (h : ℕ) → HoldsOne (s ∷ []) h ↔ HoldsOne (map (bit_or s) l) h
spared s l i inside part h =
    Iff.trans (holds-single s h) (Iff.trans (
      λ p. (p, (get_or l i 0, (mem-at l i 0 inside, ⊆-trans (get_or l i 0) s h part p))),
      λ (p, k). p,
    )
    (Iff.symm (holds-with s l h)))

-- No rows are written.
pub written-none : (rows : List ℕ) → Written [] rows rows 0
written-none rows = record { size = refl; count = refl; front = refl }

module _ {w rows₀ rows : List ℕ} {n : ℕ} (t : Written w rows₀ rows n) where
  -- They fit into the rows.
  written-within : n ≤ length rows
  written-within = omega (arith, t.count, ap length t.front, length-take n rows)

  -- One row more.
  written-next : n < length rows → (v : ℕ) → Written (w ++ v ∷ []) rows₀ (set rows n v) (n + 1)
  written-next room v = record {
    size = length-set rows n v ∙ t.size;
    count = omega (arith, t.count, length-append w (v ∷ []));
    front = rw (add-one n, take-suc-set rows n v room, t.front);
  }

  -- Rows behind them.
  written-more : {v part : List ℕ} {r : ℕ} → Written v (mid_of n (length rows - n) rows) part r → Written (w ++ v) rows₀ (restored n rows part) (n + r)
  written-more {v} {part} {r} more = record {
    size = same_len_mid n (length rows - n) rows part more.size ∙ t.size;
    count = omega (arith, t.count, more.count, length-append w v);
    front = take-add n r (restored n rows part) ∙ rw (restored-front n rows part written-within, restored-rest n rows part written-within, t.front, more.front);
  }

module _ (s : ℕ) (l rows₀ : List ℕ) (room : length l ≤ length rows₀) where
  -- If one of the sets lies inside s, s alone is written.
  pub united-spared : (r : Option ℕ) → PartAt l s r → is_some r ≡ true → UnitedWith s l rows₀ (set rows₀ 0 s) 1
  united-spared (Some i) (inside, part) found = record {
    sets = s ∷ [];
    few = omega arith;
    same = spared s l i inside part;
    written = written-next (written-none rows₀) (omega arith) s;
  }
  united-spared None none found = absurd (cc)

  -- The next one is.
  pub next-writing : {rows : List ℕ} {k : ℕ} → k < length l → Written (map (bit_or s) (take k l)) rows₀ rows k
      → Written (map (bit_or s) (take (k + 1) l)) rows₀ (set rows k (bit_or s (get_or l k 0))) (k + 1)
  next-writing {rows} {k} h t =
      rw (add-one k, take-suc l k 0 h, map-append (bit_or s) (take k l) (get_or l k 0 ∷ []), ← add-one k)
      (written-next t (omega (arith, t.size)) (bit_or s (get_or l k 0)))

  -- After the last set all unions are written.
  pub last-writing : {rows : List ℕ} {k : ℕ} → k ≡ length l → Written (map (bit_or s) (take k l)) rows₀ rows k → UnitedWith s l rows₀ rows (length l)
  last-writing {rows} {k} all t = record {
    sets = map (bit_or s) l;
    few = omega (arith, length-map l (bit_or s));
    same = λ h. Iff.rfl;
    written = rw (all, take_all (length l) l (omega arith)) at t;
  }

pub record Uniting (l m rows₀ rows : List ℕ) (end i : ℕ) : Type 0 where
  pub sets : List ℕ
  pub few : length sets ≤ i * length m
  pub same : (h : ℕ) → HoldsOne sets h ↔ HoldsOne (unions (take i l) m) h
  pub written : Written sets rows₀ rows end

-- At first there are no unions.
pub first-uniting : (l m rows₀ : List ℕ) → Uniting l m rows₀ rows₀ 0 0
unfolding unions
first-uniting l m rows₀ = record { sets = []; few = zero-le; same = λ h. Iff.rfl; written = written-none rows₀ }

module _ (l m rows₀ : List ℕ) {rows : List ℕ} {end i : ℕ} (t : Uniting l m rows₀ rows end i) (inside : i < length l) where
  -- There are rows for the unions with the next set, behind the others.
  pub uniting-room : length l * length m ≤ length rows₀ → length m ≤ length (mid_of end (length rows - end) rows)
  uniting-room room =
      let more : suc i * length m ≡ i * length m + length m = suc-mul i (length m) in
      let most : suc i * length m ≤ length l * length m = mul-le-mul_right (length m) inside in
      rw (lent end rows rows (written-within t.written)) (omega (arith, t.written.count, t.written.size, t.few, more, most, length-drop end rows))

  -- With its unions come those of one set more.
  pub next-uniting : {part : List ℕ} {r : ℕ} → UnitedWith (get_or l i 0) m (mid_of end (length rows - end) rows) part r → Uniting l m rows₀ (restored end rows part) (end + r) (i + 1)
  next-uniting {part} {r} u =
      let x : ℕ = get_or l i 0 in
      let next : take (i + 1) l ≡ take i l ++ x ∷ [] = rw (add-one i) (take-suc l i 0 inside) in
      let with-next : (h : ℕ) → HoldsOne u.sets h ↔ ((x ⊆ h) × HoldsOne m h) = λ h. Iff.trans (u.same h) (holds-with x m h) in
      let before : (h : ℕ) → HoldsOne t.sets h ↔ (HoldsOne (take i l) h × HoldsOne m h) =
      λ h. Iff.trans (t.same h) (holds-unions (take i l) m h) in
      let both : (h : ℕ) → HoldsOne (t.sets ++ u.sets) h ↔ (HoldsOne (take i l ++ x ∷ []) h × HoldsOne m h) = λ h. (
        λ k. elim ((holds-append t.sets u.sets h).0 k) [
          | inl a ↦ let (b, q) = (before h).0 a in ((holds-append (take i l) (x ∷ []) h).1 (inl b), q)
          | inr a ↦ let (b, q) = (with-next h).0 a in ((holds-append (take i l) (x ∷ []) h).1 (inr ((holds-single x h).1 b)), q)
        ],
        λ (k, q). (holds-append t.sets u.sets h).1 (elim ((holds-append (take i l) (x ∷ []) h).0 k) [
          | inl a ↦ inl ((before h).1 (a, q))
          | inr a ↦ inr ((with-next h).1 ((holds-single x h).0 a, q))
        ]),
      ) in
      record {
        sets = t.sets ++ u.sets;
        few = rw (add-one i, suc-mul i (length m)) (omega (arith, t.few, u.few, length-append t.sets u.sets));
        same = λ h. rw next (Iff.trans (both h) (Iff.symm (holds-unions (take i l ++ x ∷ []) m h)));
        written = written-more t.written u.written;
      }

module _ (p m : ℕ) (rows : List ℕ) (parted : p ≤ m) (room : m + p * (m - p) ≤ length rows) {lists behind first second : List ℕ}
    (lists-are : lists ≡ take m rows) (behind-is : behind ≡ drop m rows) (first-is : first ≡ take p lists) (second-is : second ≡ drop p lists) where
  -- How many sets stand in both lists, in the first and in the second.
  lists-length : length lists ≡ m
  lists-length = rw lists-are (length-take-le m rows (omega arith))

  first-length : length first ≡ p
  first-length = rw first-is (length-take-le p lists (omega (arith, lists-length)))

  second-length : length second ≡ m - p
  second-length = rw second-is (omega (arith, length-drop p lists, lists-length))

  -- There are rows for all unions.
  pub unions-room : length first * length second ≤ length behind
  unions-room = rw (first-length, second-length, behind-is) (omega (arith, length-drop m rows, room))

  -- After the last set the unions of all stand behind the two lists.
  pub last-uniting : {written : List ℕ} {end i : ℕ} → Uniting first second behind written end i → i ≡ length first → United p m rows (lists ++ written) (m + end)
  last-uniting {written} {end} {i} t all =
      let whole : i ≡ p = all ∙ first-length in
      let first-are : take i first ≡ take p rows =
      rw (whole, first-is, lists-are) (take-take p p (take m rows) (omega arith) ∙ take-take p m rows parted) in
      let there : p + (m - p) ≡ m = omega arith in
      let second-are : second ≡ between p m rows = rw (second-is, lists-are) (rw there at (drop-take p (m - p) rows)) in
      let few : length t.sets ≤ p * (m - p) = rw (whole, second-length) at t.few in
      record {
        sets = t.sets;
        same = rw (first-are, second-are) at t.same;
        followed = record {
          size = omega (arith, length-append lists written, lists-length, t.written.size, ap length behind-is, length-drop m rows, room);
          end = omega (arith, t.written.count);
          written =
              take-add m end (lists ++ written)
              ∙ rw (take_at lists written m lists-length, drop_at lists written m lists-length, t.written.front, lists-are);
        };
        within = omega (arith, t.written.count, few, room);
      }
