-- Families of sets and their blockers: what meets disjoint sets, shrinking to a least set, and that the blocker of a clutter's blocker is
-- the clutter.
-- Assumes nothing.
--
--   Decided F g      the sets of F lie inside g, and it is decided whether a set holds one of them
use mathlib.Core.Path.{◌≡◌, refl, sym}
use mathlib.Core.List.Pairwise
use mathlib.Core.List.{List, [], ◌∷◌, Pairwise, rel_of_Pairwise-cons, Memᴰ}
use mathlib.Core.Logic.Dec
use mathlib.Core.Logic.Iff
use mathlib.Core.Logic.{inl, inr, ◌↔◌}
use Prim.Native.Nat.{ℕ, zero, suc, ◌^◌, ◌≤◌, ◌<◌, zero-le}
use native.Mathlib.Nat.{lt_of_le_of_lt, not-suc-le-zero, le_of_suc-le-suc, eq-or-lt_of_le}
use native.Mathlib.Decide.{ℕ_discrete}
use native.Mathlib.Omega.{arith}
use lib.Bits.{bit_and}
use lib.ListN.{length}
use Rattle.bitset.specs.Families.{Meets, Disjoint, Holds, Least, Transversal, Blocker, Clutter}
use Rattle.bitset.specs.Members.{◌⊆◌, ◌∖◌, ◌∈◌, size}
use Rattle.bitset.proofs.Members.{lt-pow, has-zero}
use Rattle.bitset.proofs.Subsets.{⊆-refl, ⊆-trans, ⊆-antisym, subset-le, zero-⊆}
use Rattle.bitset.proofs.Sets.{∈-dec, in_and, in-minus, minus-⊆, minus-mono, minus_minus, in-drop, member-lt, empty-or-member, size-drop}

-- ---- disjoint sets

-- A set that meets each of some disjoint sets has a member for each of them.
pub disjoint-at-most : (w t : ℕ) → t < 2 ^ w → (l : List ℕ) → Pairwise Disjoint l → ((r : ℕ) → Memᴰ r l → Meets r t) → length l ≤ size w t
disjoint-at-most w t h [] apart met = zero-le
disjoint-at-most w t h (r ∷ l) apart met =
    let (k, (a, b)) = met r (Memᴰ.head refl) in
    let others : (s : ℕ) → Memᴰ s l → Meets s (t ∖ 2 ^ k) = λ s i.
    let (j, (c, d)) = met s (Memᴰ.tail i) in
    (j, (c, (in-drop t k j).1 (d, λ e. rel_of_Pairwise-cons apart ∣ i ∣₁ (k, (a, rw e at c))))) in
    let rest = disjoint-at-most w (t ∖ 2 ^ k) (lt_of_le_of_lt (subset-le (t ∖ 2 ^ k) t (minus-⊆ t (2 ^ k))) h) l (Pairwise.of_cons apart) others in
    omega (arith, rest, size-drop w t k (member-lt w t k h b) b)

-- ---- least sets

-- A subset of t that has P, and of whose members below w none can be dropped.
record Trimmed (P : ℕ → Type 0) (w t : ℕ) : Type 0 where
  set : ℕ
  within : set ⊆ t
  has : P set
  none : (k : ℕ) → k < w → k ∈ set → P (set ∖ 2 ^ k) → ⊥

module _ (P : ℕ → Type 0) (up : (s t : ℕ) → s ⊆ t → P s → P t) where
  -- A set that has P is a least one exactly if none of its members can be dropped.
  pub least-drop : (t : ℕ) → P t → Least P t ↔ ((k : ℕ) → k ∈ t → P (t ∖ 2 ^ k) → ⊥)
  least-drop t p = (
    λ l k m q.
        let e = l.least (t ∖ 2 ^ k) (λ j n. ((in-drop t k j).0 n).0) q in
        ((in-drop t k k).0 (rw e m)).1 refl,
    λ f.
        record {
          has = p;
          least = λ d h q. ⊆-antisym d t h (λ k m. (Dec.not-not (∈-dec k d)).0 (λ n.
              f k m (up d (t ∖ 2 ^ k) (λ j a. (in-drop t k j).1 (h j a, λ e. n (rw e at a))) q)));
        },
  )

  module _ (dec : (t : ℕ) → Dec (P t)) where
    -- The members below w are tried in turn, and each is dropped for which P stays: then none of them can be dropped any more.
    trim : (w t : ℕ) → P t → Trimmed P w t
    trim zero t p = record { set = t; within = λ k m. m; has = p; none = λ k h. absurd (not-suc-le-zero h) }
    trim (suc w) t p = go (trim w t p) (dec ((trim w t p).set ∖ 2 ^ w))
      where
        go : (r : Trimmed P w t) → Dec (P (r.set ∖ 2 ^ w)) → Trimmed P (suc w) t
        go r (yes q) =
            let s : ℕ = r.set in
            let d : ℕ = s ∖ 2 ^ w in
            record {
              set = d;
              within = λ k m. r.within k (minus-⊆ s (2 ^ w) k m);
              has = q;
              none = λ k h m z. let p = (in-drop s w k).0 m in elim (eq-or-lt_of_le (le_of_suc-le-suc h)) [
                | inl e ↦ p.1 e
                | inr l ↦ r.none k l p.0 (up (d ∖ 2 ^ k) (s ∖ 2 ^ k) (minus-mono d s (2 ^ k) (minus-⊆ s (2 ^ w))) z)
              ];
            }
        go r (no n) = record {
          set = r.set;
          within = r.within;
          has = r.has;
          none = λ k h m z. elim (eq-or-lt_of_le (le_of_suc-le-suc h)) [ inl e ↦ n (rw e at z) | inr l ↦ r.none k l m z ];
        }

    -- A set that has P holds a least one that has it.
    pub shrink : (t : ℕ) → P t → (m : ℕ) × ((m ⊆ t) × Least P m)
    shrink t p =
        let r = trim t t p in
        (r.set, (r.within, (least-drop r.set r.has).1 (λ k m. r.none k (member-lt t t k (lt-pow t) (r.within k m)) m)))

-- ---- blockers

-- Transversals stay transversals as they grow.
pub transversal-up : (F : ℕ → Type 0) (s t : ℕ) → s ⊆ t → Transversal F s → Transversal F t
transversal-up F s t h v r f = let m = v r f in (m.0, (m.1.0, h m.0 m.1.1))

-- Families with the same sets have the same transversals.
pub transversal-same : (F G : ℕ → Type 0) → ((r : ℕ) → F r ↔ G r) → (t : ℕ) → Transversal F t ↔ Transversal G t
transversal-same F G same t = (λ v r f. v r ((same r).1 f), λ v r f. v r ((same r).0 f))

-- What has the same meaning has the same least sets.
pub least-same : (P Q : ℕ → Type 0) → ((t : ℕ) → P t ↔ Q t) → (t : ℕ) → Least P t ↔ Least Q t
least-same P Q same t = (
  λ l. record { has = (same t).0 l.has; least = λ d h q. l.least d h ((same d).1 q) },
  λ l. record { has = (same t).1 l.has; least = λ d h p. l.least d h ((same d).0 p) },
)

-- Families with the same sets have the same blocker.
pub blocker-same : (F G : ℕ → Type 0) → ((r : ℕ) → F r ↔ G r) → (t : ℕ) → Blocker F t ↔ Blocker G t
blocker-same F G same = least-same (Transversal F) (Transversal G) (transversal-same F G same)

-- A set is a transversal exactly if the rest of the ground set holds no set of the family.
pub transversal-rest : (F : ℕ → Type 0) (g : ℕ) → ((r : ℕ) → F r → r ⊆ g) → (t : ℕ) → Transversal F t ↔ (Holds F (g ∖ t) → ⊥)
transversal-rest F g inside t = (
  λ v c. let m = v c.0 c.1.0 in ((in-minus g t m.0).0 (c.1.1 m.0 m.1.0)).1 m.1.1,
  λ n r f. elim (empty-or-member (bit_and r t)) [
    | inl e ↦ absurd (n (r, (f, λ k m. (in-minus g t k).1 (inside r f k m, λ l. rw (e, has-zero k) at ((in_and r t k).1 (m, l))))))
    | inr m ↦ (m.0, (in_and r t m.0).0 m.1)
  ],
)

-- A set holds a set of the family exactly if its part inside the ground set does.
pub holds-inside : (F : ℕ → Type 0) (g : ℕ) → ((r : ℕ) → F r → r ⊆ g) → (h : ℕ) → Holds F (bit_and h g) ↔ Holds F h
holds-inside F g inside h = (
  λ c. (c.0, (c.1.0, λ k m. ((in_and h g k).0 (c.1.1 k m)).0)),
  λ c. (c.0, (c.1.0, λ k m. (in_and h g k).1 (c.1.1 k m, inside c.0 c.1.0 k m))),
)

-- A least transversal lies inside the ground set.
pub blocker-inside : (F : ℕ → Type 0) (g : ℕ) → ((r : ℕ) → F r → r ⊆ g) → (t : ℕ) → Blocker F t → t ⊆ g
blocker-inside F g inside t b k m =
    let e = b.least (bit_and t g) (λ j n. ((in_and t g j).0 n).0)
    (λ r f. let c = b.has r f in (c.0, (c.1.0, (in_and t g c.0).1 (c.1.1, inside r f c.0 c.1.0)))) in
    ((in_and t g k).0 (rw e m)).1

-- The least transversal of no sets is the empty set.
pub blocker-none : (F : ℕ → Type 0) → ((r : ℕ) → F r → ⊥) → (t : ℕ) → Blocker F t ↔ (t ≡ 0)
blocker-none F none t = (
  λ b. sym (b.least 0 (zero-⊆ t) (λ r f. absurd (none r f))),
  λ e. record { has = λ r f. absurd (none r f); least = λ d h v. rw e (⊆-antisym d 0 (rw e at h) (zero-⊆ d)) },
)

-- The sets of F lie inside g, and it is decided whether a set holds one of them.
pub record Decided (F : ℕ → Type 0) (g : ℕ) : Type 0 where
  pub inside : (r : ℕ) → F r → r ⊆ g
  pub decide : (h : ℕ) → Dec (Holds F h)

module _ {F : ℕ → Type 0} {g : ℕ} (D : Decided F g) where
  -- Whether a set is a transversal is decided.
  pub transversal-dec : (t : ℕ) → Dec (Transversal F t)
  transversal-dec t = Dec.of_iff (Iff.symm (transversal-rest F g D.inside t)) (Dec.not (D.decide (g ∖ t)))

  -- A transversal holds a least one.
  pub transversal-shrink : (t : ℕ) → Transversal F t → (m : ℕ) × ((m ⊆ t) × Blocker F m)
  transversal-shrink = shrink (Transversal F) (transversal-up F) transversal-dec

  -- A set meets every least transversal exactly if it holds a set of the family.
  pub meets-blocker : (h : ℕ) → Transversal (Blocker F) h ↔ Holds F h
  meets-blocker h = (
    λ v. (Dec.not-not (D.decide h)).0 (λ n.
        let rest = (transversal-rest F g D.inside (g ∖ h)).1 (λ c. n (c.0, (c.1.0, λ k m. minus_minus g h k (c.1.1 k m)))) in
        let b = transversal-shrink (g ∖ h) rest in
        let m = v b.0 b.1.1 in
        ((in-minus g h m.0).0 (b.1.0 m.0 m.1.0)).1 m.1.1),
    λ c m b. let k = b.has c.0 c.1.0 in (k.0, (k.1.1, c.1.1 k.0 k.1.0)),
  )

  -- Each member of a least transversal is the only one that the transversal shares with some set of the family.
  pub blocker-private : (t : ℕ) → Blocker F t → (e : ℕ) → e ∈ t → (r : ℕ) × (F r × (e ∈ r) × ((k : ℕ) → k ∈ r → k ∈ t → k ≡ e))
  blocker-private t b e m =
      let kept = (least-drop (Transversal F) (transversal-up F) t b.has).0 b e m in
      let c = (Dec.not-not (D.decide (g ∖ (t ∖ 2 ^ e)))).0 (λ n. kept ((transversal-rest F g D.inside (t ∖ 2 ^ e)).1 n)) in
      let alone : (k : ℕ) → k ∈ c.0 → k ∈ t → k ≡ e = λ k a l.
      (Dec.not-not (ℕ_discrete k e)).0 (λ n. ((in-minus g (t ∖ 2 ^ e) k).0 (c.1.1 k a)).1 ((in-drop t e k).1 (l, n))) in
      let s = b.has c.0 c.1.0 in
      (c.0, (c.1.0, rw (alone s.0 s.1.0 s.1.1) at s.1.0, alone))

  -- The blocker of the blocker of a clutter is the clutter.
  pub blocker-blocker : Clutter F → (r : ℕ) → F r ↔ Blocker (Blocker F) r
  blocker-blocker clutter r = (
    λ f.
        record {
          has = (meets-blocker r).1 (r, (f, ⊆-refl r));
          least = λ d h v.
              let c = (meets-blocker d).0 v in
              let e = clutter c.0 r c.1.0 f (⊆-trans c.0 d r c.1.1 h) in
              ⊆-antisym d r h (rw e at c.1.1);
        },
    λ b.
        let c = (meets-blocker r).0 b.has in
        rw (b.least c.0 c.1.1 ((meets-blocker c.0).1 (c.0, (c.1.0, ⊆-refl c.0)))) at c.1.0,
  )

-- Two clutters have the same blocker exactly if they have the same sets.
pub same-blocker : {F G : ℕ → Type 0} {g g' : ℕ} → Decided F g → Decided G g' → Clutter F → Clutter G
    → ((t : ℕ) → Blocker F t ↔ Blocker G t) ↔ ((r : ℕ) → F r ↔ G r)
same-blocker {F} {G} D E c k = (
  λ same r. Iff.trans (blocker-blocker D c r) (Iff.trans (blocker-same (Blocker F) (Blocker G) same r) (Iff.symm (blocker-blocker E k r))),
  λ same. blocker-same F G same,
)
