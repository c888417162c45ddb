-- Scans: the members of a set are gone through one by one, the lowest first, and what was done for each is known at the end.
-- Assumes nothing.
--
--   Less s k t       the set t is s without its member k
--   Done P all left  of all members but those that are left, P holds
--   Gathered Comes base all left acc     the set acc holds base and what comes with each member but those that are left
--   Sifted Stays base all left acc       the set acc holds base without those members, but for those that are left, which do not stay
use mathlib.Core.Path.{◌≡◌, refl}
use mathlib.Core.Bool.{false, not, ◌&&◌}
use mathlib.Core.Logic.{◌⊎◌, inl, inr, ◌↔◌}
use Prim.Native.Nat.{ℕ, ◌^◌, ◌≤◌, ◌<◌}
use native.Mathlib.Decide.{ℕ_discrete, dec_lt}
use native.Mathlib.Omega.{arith}
use denote.Floats.{is_true, passes}
use lib.Dec.{eqb}
use Rattle.bitset.specs.Members.{has, ◌∈◌, ◌⊆◌, insert, ◌∖◌, Lowest}
use Rattle.bitset.proofs.Subsets.{⊆-refl, subset-lt, same_test}
use Rattle.sequences.proofs.Tests.{T_and, T_not, T-eqb}
use Rattle.bitset.proofs.Members.{has-zero}
use Rattle.bitset.proofs.Sets.{same_set, in_insert, in-minus, member-lt, empty-or-member}

-- The set t is s without its member k.
pub record Less (s k t : ℕ) : Type 0 where
  pub member : k ∈ s
  pub rest : (j : ℕ) → (j ∈ t) ↔ ((j ∈ s) × (j ≡ k → ⊥))

-- A set without its lowest member is less by that one.
pub less-lowest : (w s k t : ℕ) → Lowest w s k → k < w → ((j : ℕ) → has t j ≡ has s j && not (eqb j k)) → Less s k t
less-lowest w s k t low h rest = record {
  member = passes (has s k) (low.member h);
  rest = λ j. rw (rest j) (
    λ m. let p = (T_and (has s j) (not (eqb j k))).0 m in (p.0, λ e. (T_not (eqb j k)).0 p.1 ((T-eqb j k).1 e)),
    λ p. (T_and (has s j) (not (eqb j k))).1 (p.0, (T_not (eqb j k)).1 (λ t. p.1 ((T-eqb j k).0 t))),
  );
}

-- A set that is less is a smaller number.
pub less-lt : (s k t : ℕ) → Less s k t → t < s
less-lt s k t l =
    subset-lt t s k (λ j m. ((l.rest j).0 m).0) (is_true (has s k) l.member)
    (same_test (has t k) false (λ m. ((l.rest k).0 m).1 refl) absurd)

-- A set of members below the width whose lowest is not below the width has none.
pub none_left : (w all s k : ℕ) → all < 2 ^ w → s ⊆ all → Lowest w s k → w ≤ k → (j : ℕ) → j ∈ s → ⊥
none_left w all s k small within low h j m =
    rw (low.none_below j (let l = member-lt w all j small (within j m) in omega arith)) at m

-- The lowest member of a set of such members is below the width, if there is one.
pub lowest-lt : (w s k : ℕ) → s < 2 ^ w → (s ≡ 0 → ⊥) → Lowest w s k → k < w
lowest-lt w s k small some low = go (empty-or-member s) (dec_lt k w)
  where
    go : (s ≡ 0) ⊎ ((j : ℕ) × (j ∈ s)) → Dec (k < w) → k < w
    go (inl e) d = absurd (some e)
    go (inr m) (yes h) = h
    go (inr m) (no n) = absurd (none_left w s s k small (⊆-refl s) low (omega arith) m.0 m.1)

-- ---- what holds of each member

-- Of all members but those that are left, P holds.
pub record Done (P : ℕ → Type 0) (all left : ℕ) : Type 0 where
  pub within : left ⊆ all
  pub done : (e : ℕ) → e ∈ all → (e ∈ left → ⊥) → P e

module _ (P : ℕ → Type 0) (all : ℕ) where
  -- At first all are left.
  pub done_first : Done P all all
  done_first = record { within = ⊆-refl all; done = λ e m n. absurd (n m) }

  -- Where P holds of k, one less is left.
  pub done_next : (left k next : ℕ) → Less left k next → P k → Done P all left → Done P all next
  done_next left k next l p d = record {
    within = λ e m. d.within e ((l.rest e).0 m).0;
    done = λ e m n. go e m n (ℕ_discrete e k);
  }
    where
      go : (e : ℕ) → e ∈ all → (e ∈ next → ⊥) → Dec (e ≡ k) → P e
      go e m n (yes q) = rw q p
      go e m n (no q) = d.done e m (λ i. n ((l.rest e).1 (i, q)))

-- ---- what comes with the members

-- The set acc holds base and what comes with each member but those that are left.
pub record Gathered (Comes : ℕ → ℕ → Type 0) (base all left acc : ℕ) : Type 0 where
  pub kept : base ⊆ acc
  pub comes : (v : ℕ) → v ∈ acc → (v ∈ base) ⊎ ((e : ℕ) × ((e ∈ all) × Comes e v))
  pub done : Done (λ e. (v : ℕ) → Comes e v → v ∈ acc) all left

module _ (Comes : ℕ → ℕ → Type 0) (base all : ℕ) where
  -- At first there is the base alone.
  pub gathered-first : Gathered Comes base all all base
  gathered-first = record { kept = ⊆-refl base; comes = λ v m. inl m; done = done_first (λ e. (v : ℕ) → Comes e v → v ∈ base) all }

  -- Where what comes with k is added, one less is left.
  pub gathered_next : (left k next acc acc' : ℕ) → Less left k next → ((v : ℕ) → (v ∈ acc') ↔ ((v ∈ acc) ⊎ Comes k v))
      → Gathered Comes base all left acc → Gathered Comes base all next acc'
  gathered_next left k next acc acc' l adds g =
      let more : Done (λ e. (v : ℕ) → Comes e v → v ∈ acc') all left = record {
        within = g.done.within;
        done = λ e m n v c. (adds v).1 (inl (g.done.done e m n v c));
      } in
      record {
        kept = λ v m. (adds v).1 (inl (g.kept v m));
        comes = λ v m. elim ((adds v).0 m) [
          | inl i ↦ g.comes v i
          | inr c ↦ inr (k, (g.done.within k l.member, c))
        ];
        done = done_next (λ e. (v : ℕ) → Comes e v → v ∈ acc') all left k next l (λ v c. (adds v).1 (inr c)) more;
      }

  -- Where none is left, there is the base and all that comes with a member.
  pub gathered-last : (left acc : ℕ) → ((j : ℕ) → j ∈ left → ⊥) → Gathered Comes base all left acc
      → (v : ℕ) → (v ∈ acc) ↔ ((v ∈ base) ⊎ ((e : ℕ) × ((e ∈ all) × Comes e v)))
  gathered-last left acc none g v =
      (g.comes v, λ c. elim c [ inl m ↦ g.kept v m | inr j ↦ g.done.done j.0 j.1.0 (none j.0) v j.1.1 ])

-- ---- members that stay

-- The set acc holds base without those members, but for those that are left, which do not stay.
pub record Sifted (Stays : ℕ → Type 0) (base all left acc : ℕ) : Type 0 where
  pub within : left ⊆ all
  pub holds : (j : ℕ) → (j ∈ acc) ↔ ((j ∈ base) × (j ∈ all → (j ∈ left → ⊥) → Stays j))

module _ (Stays : ℕ → Type 0) (base all : ℕ) where
  -- At first there is the whole base.
  pub sifted-first : Sifted Stays base all all base
  sifted-first = record { within = ⊆-refl all; holds = λ j. (λ m. (m, λ i n. absurd (n i)), λ p. p.0) }

  -- Where k stays, one less is left.
  pub sifted-stays : (left k next acc : ℕ) → Less left k next → Stays k → Sifted Stays base all left acc → Sifted Stays base all next acc
  sifted-stays left k next acc l stays s = record {
    within = λ j m. s.within j ((l.rest j).0 m).0;
    holds = λ j. (
      λ m. let p = (s.holds j).0 m in (p.0, λ i n. go j (p.1 i) n (ℕ_discrete j k)),
      λ p. (s.holds j).1 (p.0, λ i n. p.1 i (λ m. n ((l.rest j).0 m).0)),
    );
  }
    where
      go : (j : ℕ) → ((j ∈ left → ⊥) → Stays j) → (j ∈ next → ⊥) → Dec (j ≡ k) → Stays j
      go j before n (yes e) = rw e stays
      go j before n (no d) = before (λ m. n ((l.rest j).1 (m, d)))

  -- Where k does not stay and is taken away, one less is left.
  pub sifted-goes : (left k next acc acc' : ℕ) → Less left k next → (Stays k → ⊥) → ((j : ℕ) → (j ∈ acc') ↔ ((j ∈ acc) × (j ≡ k → ⊥)))
      → Sifted Stays base all left acc → Sifted Stays base all next acc'
  sifted-goes left k next acc acc' l goes taken s = record {
    within = λ j m. s.within j ((l.rest j).0 m).0;
    holds = λ j. (
      λ m. let q = (taken j).0 m in let p = (s.holds j).0 q.0 in (p.0, λ i n. p.1 i (λ m'. n ((l.rest j).1 (m', q.1)))),
      λ p. (taken j).1 (
        (s.holds j).1 (p.0, λ i n. p.1 i (λ m. n ((l.rest j).0 m).0)),
        λ e. goes (rw e at (p.1 (rw e (s.within k l.member)) (λ m. ((l.rest j).0 m).1 e))),
      ),
    );
  }

  -- Where none is left, there is the base without the members that do not stay.
  pub sifted-last : (left acc : ℕ) → ((j : ℕ) → j ∈ left → ⊥) → Sifted Stays base all left acc
      → (j : ℕ) → (j ∈ acc) ↔ ((j ∈ base) × (j ∈ all → Stays j))
  sifted-last left acc none s j = (
    λ m. let p = (s.holds j).0 m in (p.0, λ i. p.1 i (none j)),
    λ p. (s.holds j).1 (p.0, λ i n. p.1 i),
  )

-- ---- members gone through

-- At first none is.
pub gone-first : (s : ℕ) → s ∖ s ≡ 0
gone-first s = same_set (λ k. (λ m. let p = (in-minus s s k).0 m in absurd (p.1 p.0), λ m. absurd (rw (has-zero k) at m)))

-- Where one fewer is left, one more is.
pub gone-next : (s left k next : ℕ) → left ⊆ s → Less left k next → s ∖ next ≡ insert (s ∖ left) k
gone-next s left k next within l = same_set (λ j. (
  λ m. let p = (in-minus s next j).0 m in (in_insert (s ∖ left) k j).1 (go j p.0 p.1 (ℕ_discrete j k)),
  λ m. elim ((in_insert (s ∖ left) k j).0 m) [
    | inl i ↦ let p = (in-minus s left j).0 i in (in-minus s next j).1 (p.0, λ n. p.1 ((l.rest j).0 n).0)
    | inr e ↦ rw e ((in-minus s next k).1 (within k l.member, λ n. ((l.rest k).0 n).1 refl))
  ],
))
  where
    go : (j : ℕ) → j ∈ s → (j ∈ next → ⊥) → Dec (j ≡ k) → (j ∈ (s ∖ left)) ⊎ (j ≡ k)
    go j m n (yes e) = inr e
    go j m n (no q) = inl ((in-minus s left j).1 (m, λ i. n ((l.rest j).1 (i, q))))

-- Where none is left, all are.
pub gone-last : (s left : ℕ) → ((j : ℕ) → j ∈ left → ⊥) → s ∖ left ≡ s
gone-last s left none = same_set (λ j. (λ m. ((in-minus s left j).0 m).0, λ m. (in-minus s left j).1 (m, none j)))
