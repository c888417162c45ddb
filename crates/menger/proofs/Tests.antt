-- The tests of minpaths that share no edge, and of the fewest edges of rows, are right.
-- Assumes that the edges have numbers below 64 and ends below the node count.
use mathlib.Core.Bool.{Bool, not, ◌&&◌}
use mathlib.Core.List.Memᴰ
use mathlib.Core.List.Pairwise
use mathlib.Core.List.{List, [], ◌∷◌, Memᴰ}
use mathlib.Core.Logic.Iff
use mathlib.Core.Logic.{inl, inr, ◌↔◌, ∥∥₁_elim}
use mathlib.Core.HLevel.{¬_prop}
use Prim.Native.Nat.{ℕ, ◌^◌, ◌<◌}
use native.Mathlib.Omega.{arith}
use denote.Floats.{passes}
use lib.Bits.{bit_and}
use lib.Dec.{T, eqb, ltb, ltb→lt, lt→ltb}
use lib.ListN.{length, get_or}
use Rattle.sequences.specs.Counts.{count_if}
use Rattle.sequences.specs.Words.{every}
use Rattle.sequences.proofs.Counts.{member-counted}
use Rattle.sequences.proofs.Places.{mem-at, mem-place}
use Rattle.sequences.proofs.Tests.{T_and, T_not, T-eqb}
use Rattle.sequences.proofs.Words.{T-every}
use Rattle.bitset.specs.Members.{◌⊆◌, ◌∖◌, members, size}
use Rattle.bitset.specs.Families.{Disjoint, Transversal}
use Rattle.bitset.proofs.Subsets.{⊆-trans, subset-and}
use Rattle.bitset.proofs.Sets.{in_and, minus-⊆, member-lt, not-zero}
use Rattle.bitset.proofs.MemberList.{in_members}
use Rattle.bitset.proofs.Families.{least-drop, transversal-up}
use Rattle.network.specs.declared.Network.{Network}
use Rattle.network.specs.Record.{present}
use Rattle.graph.specs.Paths.{Minpath}
use Rattle.graph.specs.Cuts.{Mincut}
use Rattle.graph.specs.Reach.{Bounded}
use Rattle.graph.specs.CutTests.{reaches}
use Rattle.graph.proofs.Minpaths.{minpath-present}
use Rattle.graph.proofs.Cuts.{minpath-reach, meets-mincuts, minpath-blocker}
use Rattle.menger.specs.Separate.{Apart, Fewest}
use Rattle.menger.specs.Tests.{minpath_test, apart_test, fewest_test}

module _ (N : Network) (B : Bounded N) where
  -- The source reaches the sink over a set of present edges exactly if the set meets every mincut.
  reaches-transversal : (h : ℕ) → h ⊆ present N → T (reaches N h) ↔ Transversal (Mincut N) h
  reaches-transversal h l = Iff.trans (minpath-reach N B h l) (Iff.symm (meets-mincuts N B h))

  -- The test of a minpath is right.
  pub minpath_test-iff : (r : ℕ) → T (minpath_test N r) ↔ Minpath N r
  unfolding minpath_test
  minpath_test-iff r =
      let kept : ℕ → Bool = λ e. not (reaches N (r ∖ 2 ^ e)) in
      let outer = T_and (eqb (bit_and r (present N)) r) (reaches N r && every kept (members 64 r)) in
      let inner = T_and (reaches N r) (every kept (members 64 r)) in
      let within = Iff.trans (T-eqb (bit_and r (present N)) r) (Iff.symm (subset-and r (present N))) in
      let all = T-every kept (members 64 r) in
      let part : r ⊆ present N → (e : ℕ) → T (reaches N (r ∖ 2 ^ e)) ↔ Transversal (Mincut N) (r ∖ 2 ^ e) =
      λ l e. reaches-transversal (r ∖ 2 ^ e) (⊆-trans (r ∖ 2 ^ e) r (present N) (minus-⊆ r (2 ^ e)) l) in
      let least = least-drop (Transversal (Mincut N)) (transversal-up (Mincut N)) r in (
        λ t.
            let l = within.0 (outer.0 t).0 in
            let both = inner.0 (outer.0 t).1 in
            (minpath-blocker N B r).1 ((least ((reaches-transversal r l).0 both.0)).1 (λ e m v.
            let listed = (in_members 64 r e).1 (m, member-lt 64 (present N) e B.edges (l e m)) in
            (T_not (reaches N (r ∖ 2 ^ e))).0 (all.0 both.1 e listed) ((part l e).1 v))),
        λ m.
            let l = minpath-present N r m in
            let b = (minpath-blocker N B r).0 m in
            outer.1 (
              within.1 l,
              inner.1 (
                (reaches-transversal r l).1 b.has,
                all.1 (λ e i. (T_not (reaches N (r ∖ 2 ^ e))).1 (λ t. (least b.has).0 b e ((in_members 64 r e).0 i).0 ((part l e).0 t))),
              ),
            ),
      )

  -- Lists that pass are minpaths no two of which share an edge.
  pub apart_test-apart : (l : List ℕ) → T (apart_test N l) → Apart N l
  unfolding apart_test
  apart_test-apart [] t = record { minpaths = λ r m. absurd (Memᴰ.not-nil m); disjoint = Pairwise.nil }
  apart_test-apart (r ∷ l) t =
      let outer = (T_and (minpath_test N r) (every (λ s. eqb (bit_and r s) 0) l && apart_test N l)).0 t in
      let inner = (T_and (every (λ s. eqb (bit_and r s) 0) l) (apart_test N l)).0 outer.1 in
      let rest = apart_test-apart l inner.1 in
      let off : (s : ℕ) → Memᴰ s l → Disjoint r s = λ s m (k, (a, b)).
      not-zero k (rw ((T-eqb (bit_and r s) 0).0 ((T-every (λ x. eqb (bit_and r x) 0) l).0 inner.0 s m)) at ((in_and r s k).1 (a, b))) in
      record {
        minpaths = λ s m. elim (Memᴰ.cases_cons m) [ inl e ↦ rw e ((minpath_test-iff r).0 outer.0) | inr i ↦ rest.minpaths s i ];
        disjoint = Pairwise.cons (λ s m. ∥∥₁_elim m ¬_prop (off s)) rest.disjoint;
      }

-- A number that passes is the fewest edges in any row of the list.
pub fewest_test-fewest : (cuts : List ℕ) (k : ℕ) → T (fewest_test cuts k) → Fewest (length cuts) cuts k
unfolding fewest_test
fewest_test-fewest cuts k t =
    let is : ℕ → Bool = λ c. eqb (size 64 c) k in
    let below : ℕ → Bool = λ c. not (ltb (size 64 c) k) in
    let both = (T_and (ltb 0 (count_if is cuts)) (every below cuts)).0 t in
    let (c, m, e) = member-counted is cuts (ltb→lt 0 (count_if is cuts) both.0) in
    let (i, h, q) = (mem-place cuts c).0 m in
    record {
      row = (i, h, rw q ((T-eqb (size 64 c) k).0 (passes (is c) e)));
      fewest = λ j l.
          let row : ℕ = get_or cuts j 0 in
          let none : size 64 row < k → ⊥ = λ less. (T_not (ltb (size 64 row) k)).0 ((T-every below cuts).0 both.1 row (mem-at cuts j 0 l)) (lt→ltb (size 64 row) k less) in
          omega (arith, none);
    }
