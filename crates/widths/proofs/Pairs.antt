-- The pairs of nodes that the edges of a set join: which they are, and how many, which is the number of edges that lead their pair; and
-- how many there are depends on which they are alone.
-- Assumes nothing.
use mathlib.Core.Path.{◌≡◌, refl, sym, ap, ◌∙◌}
use mathlib.Core.List.Memᴰ
use mathlib.Core.List.{List, map, Memᴰ}
use mathlib.Core.Logic.Dec
use mathlib.Core.Logic.{inl, inr, ◌↔◌}
use Prim.Native.Nat.{ℕ, ◌≤◌, ◌<◌}
use native.Mathlib.Decide.{ℕ_discrete}
use native.Mathlib.Omega.{arith}
use lib.ListN.{length-map}
use Rattle.sequences.specs.Distinct.{Distinct, once}
use Rattle.sequences.proofs.First.{first-number}
use Rattle.sequences.proofs.Distinct.{rising-distinct, distinct-map, distinct-at-most, distinct-length, in-once, once-distinct}
use Rattle.bitset.specs.Members.{◌∈◌, insert, size, members}
use Rattle.bitset.proofs.Size.{size-le}
use Rattle.bitset.proofs.Sets.{∈-dec, in_insert}
use Rattle.bitset.proofs.MemberList.{in_members, members-rising, length-members}
use Rattle.network.specs.declared.Network.{Network}
use Rattle.network.specs.Ends.{ends_of}
use Rattle.twins.specs.Twins.{Leading}
use Rattle.widths.specs.Widths.{pairs_of, width_of}

module _ (N : Network) where
  -- Edge by edge: what the edges of a set join.
  in-joined : (c p : ℕ) → Memᴰ p (map (ends_of N) (members 64 c)) ↔ ((k : ℕ) × (k ∈ c) × (k < 64) × (ends_of N k ≡ p))
  in-joined c p = (
    λ m.
        let (k, i, e) = Memᴰ.of_map (ends_of N) (members 64 c) m in
        let (there, h) = (in_members 64 c k).0 i in
        (k, there, h, e),
    λ (k, there, h, e). Memᴰ.cast (sym e) (Memᴰ.map (ends_of N) ((in_members 64 c k).1 (there, h))),
  )

  -- The pairs of a set are those that its edges join.
  pub in_pairs : (c p : ℕ) → Memᴰ p (pairs_of N c) ↔ ((k : ℕ) × (k ∈ c) × (k < 64) × (ends_of N k ≡ p))
  unfolding pairs_of
  in_pairs c p =
      let each = in-once (map (ends_of N) (members 64 c)) p in
      (λ m. (in-joined c p).0 (each.0 m), λ k. each.1 ((in-joined c p).1 k))

  -- No pair is there twice.
  pub pairs-distinct : (c : ℕ) → Distinct (pairs_of N c)
  unfolding pairs_of
  pairs-distinct c = once-distinct (map (ends_of N) (members 64 c))

  -- ---- the width

  -- There are no more pairs than edges.
  pub width-le : (c : ℕ) → width_of N c ≤ size 64 c
  unfolding width_of pairs_of
  width-le c =
      let joined : List ℕ = map (ends_of N) (members 64 c) in
      omega (
        arith,
        distinct-at-most (once joined) joined (once-distinct joined) (λ p. (in-once joined p).0),
        length-map (members 64 c) (ends_of N),
        length-members 64 c,
      )

  -- A width has a place in the table.
  pub width-lt : (c : ℕ) {w : ℕ} → w ≡ width_of N c → w < 65
  width-lt c e = omega (arith, width-le c, size-le 64 c)

  -- Each edge of a set joins a pair that one of its edges leads, which is no higher.
  leader : (c k : ℕ) → k ∈ c → (j : ℕ) × (j ≤ k) × Leading N c j × (ends_of N j ≡ ends_of N k)
  leader c k there =
      let (j, h, (i, e), none) =
      first-number (λ j. (j ∈ c) × (ends_of N j ≡ ends_of N k)) (λ j. Dec.and (∈-dec j c) (ℕ_discrete (ends_of N j) (ends_of N k))) k (there, refl) in
      (j, h, (i, λ q l m f. none q l (m, f ∙ e)), e)

  -- So the width is the number of edges that lead.
  pub leads-width : (c l : ℕ) → ((k : ℕ) → (k ∈ l) ↔ Leading N c k) → size 64 l ≡ width_of N c
  unfolding width_of
  leads-width c l leads =
      sym (length-members 64 l)
      ∙ sym (length-map (members 64 l) (ends_of N))
      ∙ distinct-length (map (ends_of N) (members 64 l)) (pairs_of N c)
      (distinct-map (ends_of N) (members 64 l) (rising-distinct (members 64 l) (members-rising 64 l)) different)
      (pairs-distinct c)
      (λ p. (within p, found p))
    where
      different : (j k : ℕ) → Memᴰ j (members 64 l) → Memᴰ k (members 64 l) → ends_of N j ≡ ends_of N k → j ≡ k
      different j k m n e =
          let first : Leading N c j = (leads j).0 ((in_members 64 l j).0 m).0 in
          let second : Leading N c k = (leads k).0 ((in_members 64 l k).0 n).0 in
          let not-before : j < k → ⊥ = λ h. second.1 j h first.0 e in
          let not_after : k < j → ⊥ = λ h. first.1 k h second.0 (sym e) in
          omega arith

      within : (p : ℕ) → Memᴰ p (map (ends_of N) (members 64 l)) → Memᴰ p (pairs_of N c)
      within p m =
          let (k, there, h, e) = (in-joined l p).0 m in
          (in_pairs c p).1 (k, ((leads k).0 there).0, h, e)

      found : (p : ℕ) → Memᴰ p (pairs_of N c) → Memᴰ p (map (ends_of N) (members 64 l))
      found p m =
          let (k, there, h, e) = (in_pairs c p).0 m in
          let (j, below, first, same) = leader c k there in
          (in-joined l p).1 (j, (leads j).1 first, omega arith, same ∙ e)

  -- Where no two edges of a set join the same pair, its width is the number of its edges.
  pub width-plain : (c : ℕ) → ((j k : ℕ) → j ∈ c → k ∈ c → ends_of N j ≡ ends_of N k → j ≡ k) → width_of N c ≡ size 64 c
  width-plain c apart =
      sym (leads-width c c (λ k. (λ m. (m, λ j h i e. absurd (omega (arith, apart j k i m e))), λ p. p.0)))

-- ---- by the pairs alone

-- Sets that join the same pairs have the same width, be it in two networks.
pub width-pairs : (M N : Network) (c d : ℕ) → ((p : ℕ) → Memᴰ p (pairs_of M c) ↔ Memᴰ p (pairs_of N d)) → width_of M c ≡ width_of N d
unfolding width_of
width-pairs M N c d = distinct-length (pairs_of M c) (pairs_of N d) (pairs-distinct M c) (pairs-distinct N d)

-- A set whose edges join the same pairs in two networks has the same width in both.
pub width-agrees : (M N : Network) (c : ℕ) → ((k : ℕ) → k ∈ c → ends_of M k ≡ ends_of N k) → width_of M c ≡ width_of N c
width-agrees M N c same = width-pairs M N c c (λ p. (
  λ m. let (k, there, h, e) = (in_pairs M c p).0 m in (in_pairs N c p).1 (k, there, h, sym (same k there) ∙ e),
  λ m. let (k, there, h, e) = (in_pairs N c p).0 m in (in_pairs M c p).1 (k, there, h, same k there ∙ e),
))

-- One edge more of a pair that is joined does not widen a set.
pub width-again : (N : Network) (c j k : ℕ) → j ∈ c → j < 64 → ends_of N j ≡ ends_of N k → width_of N (insert c k) ≡ width_of N c
width-again N c j k there h same = width-pairs N N (insert c k) c (λ p. (
  λ m. let (i, m', l, e) = (in_pairs N (insert c k) p).0 m in
      elim ((in_insert c k i).0 m') [
        | inl n ↦ (in_pairs N c p).1 (i, n, l, e)
        | inr q ↦ (in_pairs N c p).1 (j, there, h, same ∙ sym (ap (ends_of N) q) ∙ e)
      ],
  λ m. let (i, n, l, e) = (in_pairs N c p).0 m in (in_pairs N (insert c k) p).1 (i, (in_insert c k i).1 (inl n), l, e),
))
