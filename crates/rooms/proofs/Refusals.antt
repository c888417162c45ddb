-- The refusals of the calls for several rooms: each is given exactly if its own condition holds and no earlier fault stands.
-- Assumes nothing.
--
--   Case e N ts cuts work    the five cases of a call
use mathlib.Core.Path.{◌≡◌, refl, sym, ap, ◌∙◌}
use mathlib.Core.Bool.{true, false, not}
use mathlib.Core.List.Memᴰ
use mathlib.Core.List.{List, [], ◌∷◌, Memᴰ}
use mathlib.Core.Logic.{◌⊎◌, inl, inr, ◌↔◌}
use Prim.Native.Nat.{ℕ, ◌≤◌, ◌<◌}
use native.Mathlib.Decide.{ℕ_discrete, dec_lt}
use native.Mathlib.Omega.{arith}
use borrow.Author.Tests.{lt-ltb, le-ltb}
use denote.Floats.{is_true}
use lib.Dec.{T, leb, ltb, leb→le, le→leb}
use lib.ListN.{length}
use Rattle.sequences.specs.Rising.{arranged}
use Rattle.sequences.specs.Words.{every}
use Rattle.sequences.proofs.Tests.{T-dec}
use Rattle.sequences.proofs.Words.{T-every}
use Rattle.bitset.proofs.Subsets.{same_test}
use Rattle.network.specs.declared.Network.{Network}
use Rattle.network.specs.Record.{◌when◌, ◌then◌, among, fault_of}
use Rattle.network.proofs.Refusals.{none_then, some_then, some-when, none-when}
use Rattle.network.proofs.Numbers.{not-fault}
use Rattle.rooms.specs.declared.Extent.{Extent}
use Rattle.rooms.specs.Silences.{Package}
use Rattle.rooms.specs.Rooms.{packaged, package_fault, sets_for, needs, rooms_refusal}
use Rattle.rooms.proofs.Packages.{packaged-iff}

-- All of some numbers are at most n, or one is more.
enough-or-short : (l : List ℕ) (n : ℕ) → ((k : ℕ) → Memᴰ k l → k ≤ n) ⊎ ((k : ℕ) × (Memᴰ k l × (n < k)))
enough-or-short [] n = inl (λ k m. absurd (Memᴰ.not-nil m))
enough-or-short (x ∷ l) n = go (dec_lt n x) (enough-or-short l n)
  where
    go : Dec (n < x) → ((k : ℕ) → Memᴰ k l → k ≤ n) ⊎ ((k : ℕ) × (Memᴰ k l × (n < k)))
        → ((k : ℕ) → Memᴰ k (x ∷ l) → k ≤ n) ⊎ ((k : ℕ) × (Memᴰ k (x ∷ l) × (n < k)))
    go (yes more) r = inr (x, (Memᴰ.head refl, more))
    go (no few) (inl all) = inl (λ k m. elim (Memᴰ.cases_cons m) [ inl e ↦ omega arith | inr i ↦ all k i ])
    go (no few) (inr (k, (m, more))) = inr (k, (Memᴰ.tail m, more))

module _ (e : Extent) (N : Network) (ts cuts work : List ℕ) where
  -- Every step has enough work rows, or one has too few.
  abbrev Enough : Type 0
  Enough = (n : ℕ) → Memᴰ n (needs e N ts) → n ≤ length work

  abbrev Short : Type 0
  Short = (n : ℕ) × (Memᴰ n (needs e N ts) × (length work < n))

  -- The five cases of a call.
  pub data Case : Type 0 where
    faulty : (fault_of N ≡ 0 → ⊥) → Case
    no-package : fault_of N ≡ 0 → (Package N ts → ⊥) → Case
    short : fault_of N ≡ 0 → Package N ts → Short → Case
    outnumbered : fault_of N ≡ 0 → Package N ts → Enough → length cuts < length (sets_for e N (arranged ts)) → Case
    complete : fault_of N ≡ 0 → Package N ts → Enough → length (sets_for e N (arranged ts)) ≤ length cuts → Case

  -- Every call is one of them.
  pub call-case : Case
  call-case =
      go (ℕ_discrete (fault_of N) 0) (T-dec (packaged N ts)) (enough-or-short (needs e N ts) (length work))
      (dec_lt (length cuts) (length (sets_for e N (arranged ts))))
    where
      go : Dec (fault_of N ≡ 0) → Dec (T (packaged N ts)) → Enough ⊎ Short → Dec (length cuts < length (sets_for e N (arranged ts))) → Case
      go (no f) p s d = faulty f
      go (yes ok) (no f) s d = no-package ok (λ p. f ((packaged-iff N ts).1 p))
      go (yes ok) (yes p) (inr s) d = short ok ((packaged-iff N ts).0 p) s
      go (yes ok) (yes p) (inl s) (yes h) = outnumbered ok ((packaged-iff N ts).0 p) s h
      go (yes ok) (yes p) (inl s) (no h) = complete ok ((packaged-iff N ts).0 p) s (omega arith)

  -- ---- record and rooms

  pub package-faulty : (fault_of N ≡ 0 → ⊥) → package_fault N ts ≡ fault_of N
  unfolding package_fault
  package-faulty f = some_then (fault_of N) (19 when not (packaged N ts)) (omega arith)

  pub package-none : fault_of N ≡ 0 → Package N ts → package_fault N ts ≡ 0
  unfolding package_fault
  package-none ok p = none_then (19 when not (packaged N ts)) ok ∙ none-when 19 (ap not (is_true (packaged N ts) ((packaged-iff N ts).1 p)))

  pub package-19 : fault_of N ≡ 0 → (Package N ts → ⊥) → package_fault N ts ≡ 19
  unfolding package_fault
  package-19 ok f =
      none_then (19 when not (packaged N ts)) ok
      ∙ some-when 19 (ap not (same_test (packaged N ts) false (λ t. f ((packaged-iff N ts).0 t)) absurd))

  -- What refuses record or rooms refuses the call.
  pub refusal-first : (package_fault N ts ≡ 0 → ⊥) → rooms_refusal e N ts cuts work ≡ package_fault N ts
  unfolding rooms_refusal
  refusal-first f =
      some_then (package_fault N ts)
      (20 when not (every (λ n. leb n (length work)) (needs e N ts)) then 12 when ltb (length cuts) (length (sets_for e N (arranged ts)))) (omega arith)

  -- ---- the refusal in each case

  pub refusal-faulty : (fault_of N ≡ 0 → ⊥) → rooms_refusal e N ts cuts work ≡ fault_of N
  refusal-faulty f = let by = package-faulty f in refusal-first (λ z. f (sym by ∙ z)) ∙ by

  pub refusal-no-package : fault_of N ≡ 0 → (Package N ts → ⊥) → rooms_refusal e N ts cuts work ≡ 19
  refusal-no-package ok f = let by = package-19 ok f in refusal-first (λ z. omega (arith, by, z)) ∙ by

  -- The test of the work rows.
  enough-true : Enough → every (λ n. leb n (length work)) (needs e N ts) ≡ true
  enough-true s = is_true _ ((T-every (λ n. leb n (length work)) (needs e N ts)).1 (λ n m. le→leb n (length work) (s n m)))

  short-false : Short → every (λ n. leb n (length work)) (needs e N ts) ≡ false
  short-false (n, (m, h)) =
      same_test (every (λ n. leb n (length work)) (needs e N ts)) false
      (λ t. absurd (omega (arith, leb→le n (length work) ((T-every (λ n. leb n (length work)) (needs e N ts)).0 t n m)))) absurd

  module _ (ok : fault_of N ≡ 0) (p : Package N ts) where
    pub refusal-short : Short → rooms_refusal e N ts cuts work ≡ 20
    unfolding rooms_refusal
    refusal-short s =
        none_then _ (package-none ok p)
        ∙ rw (some-when 20 (ap not (short-false s))) (some_then 20 (12 when ltb (length cuts) (length (sets_for e N (arranged ts)))) (omega arith))

    module _ (s : Enough) where
      refusal-rows : rooms_refusal e N ts cuts work ≡ (12 when ltb (length cuts) (length (sets_for e N (arranged ts))))
      unfolding rooms_refusal
      refusal-rows = none_then _ (package-none ok p) ∙ none_then _ (none-when 20 (ap not (enough-true s)))

      pub refusal-outnumbered : length cuts < length (sets_for e N (arranged ts)) → rooms_refusal e N ts cuts work ≡ 12
      refusal-outnumbered h = refusal-rows ∙ some-when 12 (lt-ltb (length cuts) (length (sets_for e N (arranged ts))) h)

      pub refusal-complete : length (sets_for e N (arranged ts)) ≤ length cuts → rooms_refusal e N ts cuts work ≡ 0
      refusal-complete h = refusal-rows ∙ none-when 12 (le-ltb (length cuts) (length (sets_for e N (arranged ts))) h)

  -- ---- each refusal exactly if its condition holds

  module _ (r : ℕ) (is : rooms_refusal e N ts cuts work ≡ r) where
    -- The case of a call that gave the refusal r, where r is none of the record's.
    given : (fault_of N ≡ r → ⊥) → (C : Type 0) → ((fault_of N ≡ 0) → (Package N ts → ⊥) → r ≡ 19 → C)
        → (fault_of N ≡ 0 → Package N ts → Short → r ≡ 20 → C)
        → (fault_of N ≡ 0 → Package N ts → Enough → length cuts < length (sets_for e N (arranged ts)) → r ≡ 12 → C)
        → (fault_of N ≡ 0 → Package N ts → Enough → length (sets_for e N (arranged ts)) ≤ length cuts → r ≡ 0 → C) → C
    given other C a b c d = go call-case
      where
        go : Case → C
        go (faulty f) = absurd (other (sym (refusal-faulty f) ∙ is))
        go (no-package ok f) = a ok f (sym is ∙ refusal-no-package ok f)
        go (short ok p s) = b ok p s (sym is ∙ refusal-short ok p s)
        go (outnumbered ok p s h) = c ok p s h (sym is ∙ refusal-outnumbered ok p s h)
        go (complete ok p s h) = d ok p s h (sym is ∙ refusal-complete ok p s h)

  pub no-package-iff : (rooms_refusal e N ts cuts work ≡ 19) ↔ ((fault_of N ≡ 0) × (Package N ts → ⊥))
  unfolding among
  no-package-iff = (
    λ is. given 19 is (not-fault N 19 (λ t. t)) ((fault_of N ≡ 0) × (Package N ts → ⊥)) (λ ok f _. (ok, f))
        (λ _ _ _ x. absurd (omega arith)) (λ _ _ _ _ x. absurd (omega arith)) (λ _ _ _ _ x. absurd (omega arith)),
    λ (ok, f). refusal-no-package ok f,
  )

  pub short-iff : (rooms_refusal e N ts cuts work ≡ 20) ↔ ((fault_of N ≡ 0) × Package N ts × Short)
  unfolding among
  short-iff = (
    λ is. given 20 is (not-fault N 20 (λ t. t)) ((fault_of N ≡ 0) × Package N ts × Short) (λ _ _ x. absurd (omega arith))
        (λ ok p s _. (ok, p, s)) (λ _ _ _ _ x. absurd (omega arith)) (λ _ _ _ _ x. absurd (omega arith)),
    λ (ok, p, s). refusal-short ok p s,
  )

  pub outnumbered-iff : (rooms_refusal e N ts cuts work ≡ 12)
      ↔ ((fault_of N ≡ 0) × Package N ts × Enough × (length cuts < length (sets_for e N (arranged ts))))
  unfolding among
  outnumbered-iff = (
    λ is. given 12 is (not-fault N 12 (λ t. t)) ((fault_of N ≡ 0) × Package N ts × Enough × (length cuts < length (sets_for e N (arranged ts))))
        (λ _ _ x. absurd (omega arith)) (λ _ _ _ x. absurd (omega arith)) (λ ok p s h _. (ok, p, s, h)) (λ _ _ _ _ x. absurd (omega arith)),
    λ (ok, p, s, h). refusal-outnumbered ok p s h,
  )

  pub complete-iff : (rooms_refusal e N ts cuts work ≡ 0)
      ↔ ((fault_of N ≡ 0) × Package N ts × Enough × (length (sets_for e N (arranged ts)) ≤ length cuts))
  complete-iff = (
    λ is. go call-case is,
    λ (ok, p, s, h). refusal-complete ok p s h,
  )
    where
      go : Case → rooms_refusal e N ts cuts work ≡ 0 → (fault_of N ≡ 0) × Package N ts × Enough × (length (sets_for e N (arranged ts)) ≤ length cuts)
      go (faulty f) is = absurd (f (sym (refusal-faulty f) ∙ is))
      go (no-package ok f) is = absurd (omega (arith, refusal-no-package ok f))
      go (short ok p s) is = absurd (omega (arith, refusal-short ok p s))
      go (outnumbered ok p s h) is = absurd (omega (arith, refusal-outnumbered ok p s h))
      go (complete ok p s h) is = (ok, p, s, h)
