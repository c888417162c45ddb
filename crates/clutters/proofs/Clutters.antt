-- What lists of sets hold: the lists joined hold what either does, their unions what both do, and a list tidied up what it did before. What
-- is tidied up is the least of what the list holds, and so depends on nothing else.
-- Assumes nothing.
use mathlib.Core.Path.{◌≡◌, refl, sym, ◌∙◌}
use mathlib.Core.Bool.{not, ◌||◌}
use mathlib.Core.List.Memᴰ
use mathlib.Core.List.{List, [], ◌∷◌, ◌++◌, map, Memᴰ}
use mathlib.Core.Logic.Iff
use mathlib.Core.Logic.{◌⊎◌, inl, inr, ◌↔◌}
use Prim.Native.Nat.{ℕ, ◌*◌, ◌≤◌}
use native.Mathlib.Nat.{zero-mul, suc-mul}
use native.Mathlib.Omega.{arith}
use lib.Bits.{bit_and, bit_or}
use lib.Dec.{T, eqb}
use lib.ListN.{length, length-append, length-map}
use Rattle.sequences.specs.Rising.{Rising}
use Rattle.sequences.specs.Words.{passing}
use Rattle.sequences.proofs.Tests.{T-dec, T-or, T_not, T-eqb}
use Rattle.sequences.proofs.Distinct.{rising-distinct, distinct-at-most}
use Rattle.sequences.proofs.Rising.{rising-unique, in-arranged, arranged-rising}
use Rattle.sequences.proofs.Words.{T-every, mem-passing}
use Rattle.bitset.specs.Families.{Least}
use Rattle.bitset.specs.Members.{◌⊆◌}
use Rattle.bitset.proofs.Families.{shrink, least-same}
use Rattle.bitset.proofs.Sets.{in-or}
use Rattle.bitset.proofs.Subsets.{⊆-refl, ⊆-trans, ⊆-antisym, subset-and}
use Rattle.clutters.specs.Clutters.{HoldsOne, inside, alone, tidy, unions}

-- ---- what a list holds

-- The test of a part is right.
pub inside-iff : (s t : ℕ) → T (inside s t) ↔ (s ⊆ t)
unfolding inside
inside-iff s t = Iff.trans (T-eqb (bit_and s t) s) (Iff.symm (subset-and s t))

-- What holds a set of the list does so as it grows.
pub holds-up : (l : List ℕ) (s t : ℕ) → s ⊆ t → HoldsOne l s → HoldsOne l t
holds-up l s t h (r, (m, p)) = (r, (m, ⊆-trans r s t p h))

-- A set of the list holds itself.
pub holds-member : (l : List ℕ) (s : ℕ) → Memᴰ s l → HoldsOne l s
holds-member l s m = (s, (m, ⊆-refl s))

-- A list all of whose sets are in another holds no more than that.
pub holds-within : (l m : List ℕ) → ((s : ℕ) → Memᴰ s l → Memᴰ s m) → (h : ℕ) → HoldsOne l h → HoldsOne m h
holds-within l m within h (r, (i, p)) = (r, (within r i, p))

-- One set is held by what it lies inside.
pub holds-single : (s h : ℕ) → HoldsOne (s ∷ []) h ↔ (s ⊆ h)
holds-single s h = (λ (r, (i, p)). rw (Memᴰ.eq_of_singleton i) at p, λ p. (s, (Memᴰ.head refl, p)))

-- Lists joined hold what one of them holds.
pub holds-append : (l m : List ℕ) (h : ℕ) → HoldsOne (l ++ m) h ↔ (HoldsOne l h ⊎ HoldsOne m h)
holds-append l m h = (
  λ (r, (i, p)). elim (Memᴰ.append_cases l i) [ inl j ↦ inl (r, (j, p)) | inr j ↦ inr (r, (j, p)) ],
  λ c. elim c [
    | inl k ↦ holds-within l (l ++ m) (λ s. Memᴰ.append_left m) h k
    | inr k ↦ holds-within m (l ++ m) (λ s. Memᴰ.append_right l) h k
  ],
)

-- Whether a list holds something inside a set is decided.
pub holds-dec : (l : List ℕ) (h : ℕ) → Dec (HoldsOne l h)
holds-dec [] h = no (λ (r, (i, p)). Memᴰ.not-nil i)
holds-dec (s ∷ l) h = go (T-dec (inside s h)) (holds-dec l h)
  where
    go : Dec (T (inside s h)) → Dec (HoldsOne l h) → Dec (HoldsOne (s ∷ l) h)
    go (yes t) d = yes (s, (Memᴰ.head refl, (inside-iff s h).0 t))
    go (no n) (yes k) = yes (holds-within l (s ∷ l) (λ r. Memᴰ.tail) h k)
    go (no n) (no f) = no (λ k. elim ((holds-append (s ∷ []) l h).0 k) [ inl p ↦ n ((inside-iff s h).1 ((holds-single s h).0 p)) | inr q ↦ f q ])

-- ---- unions

-- A union lies inside what both sets lie inside.
or-⊆ : (s t h : ℕ) → (bit_or s t ⊆ h) ↔ ((s ⊆ h) × (t ⊆ h))
or-⊆ s t h = (
  λ p. (λ k m. p k ((in-or s t k).1 (inl m)), λ k m. p k ((in-or s t k).1 (inr m))),
  λ p k m. elim ((in-or s t k).0 m) [ inl i ↦ p.0 k i | inr i ↦ p.1 k i ],
)

-- The unions with one set hold what holds it and a set of the list.
pub holds-with : (s : ℕ) (m : List ℕ) (h : ℕ) → HoldsOne (map (bit_or s) m) h ↔ ((s ⊆ h) × HoldsOne m h)
holds-with s m h = (
  λ (r, (i, p)).
      let (t, j, e) = Memᴰ.of_map (bit_or s) m i in
      let both = (or-⊆ s t h).0 (rw (← e) at p) in
      (both.0, (t, (j, both.1))),
  λ (p, (t, (j, q))). (bit_or s t, (Memᴰ.map (bit_or s) j, (or-⊆ s t h).1 (p, q))),
)

-- Unions are of one set from each list.
pub in-unions : (l m : List ℕ) (a : ℕ) → Memᴰ a (unions l m) ↔ ((s : ℕ) × (Memᴰ s l × ((t : ℕ) × (Memᴰ t m × (a ≡ bit_or s t)))))
unfolding unions
in-unions [] m a = (λ i. absurd (Memᴰ.not-nil i), λ (s, (i, r)). absurd (Memᴰ.not-nil i))
in-unions (x ∷ l) m a = (
  λ i. elim (Memᴰ.append_cases (map (bit_or x) m) i) [
    | inl j ↦ let (t, k, e) = Memᴰ.of_map (bit_or x) m j in (x, (Memᴰ.head refl, (t, (k, sym e))))
    | inr j ↦ let (s, (k, r)) = (in-unions l m a).0 j in (s, (Memᴰ.tail k, r))
  ],
  λ (s, (i, (t, (j, e)))). elim (Memᴰ.cases_cons i) [
    | inl q ↦ Memᴰ.append_left (unions l m) (Memᴰ.cast (rw q at e) (Memᴰ.map (bit_or x) j))
    | inr k ↦ Memᴰ.append_right (map (bit_or x) m) ((in-unions l m a).1 (s, (k, (t, (j, e)))))
  ],
)

-- They hold what both lists hold.
pub holds-unions : (l m : List ℕ) (h : ℕ) → HoldsOne (unions l m) h ↔ (HoldsOne l h × HoldsOne m h)
holds-unions l m h = (
  λ (r, (i, p)).
      let (s, (j, (t, (k, e)))) = (in-unions l m r).0 i in
      let both = (or-⊆ s t h).0 (rw e at p) in
      ((s, (j, both.0)), (t, (k, both.1))),
  λ ((s, (j, p)), (t, (k, q))). (bit_or s t, ((in-unions l m (bit_or s t)).1 (s, (j, (t, (k, refl)))), (or-⊆ s t h).1 (p, q))),
)

-- ---- tidying

-- The test whether no other set of the list lies inside is right.
alone-iff : (l : List ℕ) (s : ℕ) → T (alone l s) ↔ ((t : ℕ) → Memᴰ t l → t ⊆ s → t ≡ s)
unfolding alone
alone-iff l s =
    let all = T-every (λ t. not (inside t s) || eqb t s) l in
    let one : (t : ℕ) → T (not (inside t s) || eqb t s) ↔ (t ⊆ s → t ≡ s) = λ t. (
      λ b p. elim ((T-or (not (inside t s)) (eqb t s)).0 b) [
        | inl n ↦ absurd ((T_not (inside t s)).0 n ((inside-iff t s).1 p))
        | inr e ↦ (T-eqb t s).0 e
      ],
      λ f. (T-or (not (inside t s)) (eqb t s)).1 (elim (T-dec (inside t s)) [
        | yes i ↦ inr ((T-eqb t s).1 (f ((inside-iff t s).0 i)))
        | no n ↦ inl ((T_not (inside t s)).1 n)
      ]),
    ) in
    (λ b t m. (one t).0 (all.0 b t m), λ f. all.1 (λ t m. (one t).1 (f t m)))

-- A least set of what a list holds is one of its sets.
pub least-member : (l : List ℕ) (a : ℕ) → Least (HoldsOne l) a → Memᴰ a l
least-member l a b = let (s, (i, p)) = b.has in Memᴰ.cast (sym (b.least s p (holds-member l s i))) i

-- The list tidied up has exactly the least sets of what the list holds.
pub in-tidy : (l : List ℕ) (a : ℕ) → Memᴰ a (tidy l) ↔ Least (HoldsOne l) a
unfolding tidy
in-tidy l a =
    let members = Iff.trans (in-arranged (passing (alone l) l) a) (mem-passing (alone l) l a) in (
      λ m.
          let (i, t) = members.0 m in record {
            has = holds-member l a i;
            least = λ d h (s, (j, p)).
                let e = (alone-iff l a).0 t s j (⊆-trans s d a p h) in
                ⊆-antisym d a h (rw e at p);
          },
      λ b. members.1 (least-member l a b, (alone-iff l a).1 (λ t i p. b.least t p (holds-member l t i))),
    )

-- It rises.
pub tidy-rising : (l : List ℕ) → Rising (tidy l)
unfolding tidy
tidy-rising l = arranged-rising (passing (alone l) l)

-- It is the one rising list of these sets.
pub tidy-unique : (l k : List ℕ) → Rising k → ((a : ℕ) → Memᴰ a k ↔ Least (HoldsOne l) a) → tidy l ≡ k
tidy-unique l k r same = rising-unique (tidy l) k (tidy-rising l) r (λ a. Iff.trans (in-tidy l a) (Iff.symm (same a)))

-- Lists that hold the same are the same once tidied up.
pub tidy-same : (l m : List ℕ) → ((h : ℕ) → HoldsOne l h ↔ HoldsOne m h) → tidy l ≡ tidy m
tidy-same l m same = tidy-unique l (tidy m) (tidy-rising m) (λ a. Iff.trans (in-tidy m a) (least-same (HoldsOne m) (HoldsOne l) (λ h. Iff.symm (same h)) a))

-- Tidied up, a list holds what it held.
pub tidy-holds : (l : List ℕ) (h : ℕ) → HoldsOne (tidy l) h ↔ HoldsOne l h
tidy-holds l h = (
  λ (s, (i, p)). holds-up l s h p ((in-tidy l s).0 i).has,
  λ k.
      let (m, (p, b)) = shrink (HoldsOne l) (holds-up l) (holds-dec l) h k in
      (m, ((in-tidy l m).1 b, p)),
)

-- A list of which no set holds another has exactly the least sets of what it holds.
pub clutter-least : (l : List ℕ) → ((s t : ℕ) → Memᴰ s l → Memᴰ t l → s ⊆ t → s ≡ t) → (a : ℕ) → Memᴰ a l ↔ Least (HoldsOne l) a
clutter-least l apart a = (
  λ i. record {
    has = holds-member l a i;
    least = λ d h (s, (j, p)). ⊆-antisym d a h (rw (apart s a j i (⊆-trans s d a p h)) at p);
  },
  least-member l a,
)

-- No set is added.
pub tidy-few : (l : List ℕ) → length (tidy l) ≤ length l
tidy-few l = distinct-at-most (tidy l) l (rising-distinct (tidy l) (tidy-rising l)) (λ a m. least-member l a ((in-tidy l a).0 m))

-- There are as many unions as pairs.
pub unions-count : (l m : List ℕ) → length (unions l m) ≡ length l * length m
unfolding unions
unions-count [] m = sym (zero-mul (length m))
unions-count (s ∷ l) m =
    length-append (map (bit_or s) m) (unions l m)
    ∙ omega (arith, length-map m (bit_or s), unions-count l m, suc-mul (length l) (length m))
