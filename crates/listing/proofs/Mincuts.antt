-- The computed list of mincuts is the complete list.
-- Assumes that the edges have numbers below 64 and ends below the node count; where it says so, a sound network.
use mathlib.Core.Path.{◌≡◌, refl}
use mathlib.Core.List.Memᴰ
use mathlib.Core.List.{[], ◌∷◌, Pairwise-singleton}
use mathlib.Core.Logic.Iff
use Prim.Native.Nat.{ℕ, ◌^◌, ◌<◌}
use native.Mathlib.Nat.{lt_of_le_of_lt}
use Rattle.sequences.proofs.Words.{mem-passing, passing-rising}
use Rattle.bitset.specs.Members.{subsets}
use Rattle.bitset.proofs.Subsets.{subset-le, mem-subsets, subsets-rising}
use Rattle.network.specs.Record.{present}
use Rattle.network.specs.declared.Network.{Network}
use Rattle.graph.specs.Reach.{Bounded}
use Rattle.graph.specs.Paths.{Minpath}
use Rattle.graph.specs.Cuts.{Mincut}
use Rattle.graph.specs.CutTests.{mincut_test}
use Rattle.graph.specs.Relevant.{source_side_of}
use Rattle.graph.proofs.Cuts.{mincut_test-iff, mincut-none}
use Rattle.graph.proofs.Sound.{Sound}
use Rattle.graph.proofs.Correspondence.{side-of-mincut, side-none}
use Rattle.branches.specs.Lists.{Lists}
use Rattle.branches.proofs.Lists.{lists-unique}
use Rattle.listing.specs.List.{mincuts, source_sides}

-- ---- the complete list

-- The computed list rises, and its members are exactly the mincuts.
pub mincuts-lists : (N : Network) → Bounded N → Lists N (mincuts N)
unfolding mincuts
mincuts-lists N B =
    let present : ℕ = present N in
    let test = mincut_test-iff N B in record {
      rising = passing-rising (mincut_test N) (subsets 64 present) (subsets-rising 64 present);
      members = λ c. (
        λ m. (test c).0 ((mem-passing (mincut_test N) (subsets 64 present) c).0 m).1,
        λ k.
            let below : c < 2 ^ 64 = lt_of_le_of_lt (subset-le c present k.cut.present) B.edges in
            (mem-passing (mincut_test N) (subsets 64 present) c).1 ((mem-subsets 64 present c).1 (k.cut.present, below), (test c).1 k),
      );
    }

-- Without a minpath the list is the empty cut beside the source alone.
pub mincuts-none : (N : Network) → Sound N → ((r : ℕ) → Minpath N r → ⊥) → (mincuts N ≡ 0 ∷ []) × (source_sides N ≡ 2 ^ N.source ∷ [])
mincuts-none N S none =
    let empty : Mincut N 0 = (mincut-none N none 0).1 refl in
    let one : mincuts N ≡ 0 ∷ [] = lists-unique N (mincuts N) (0 ∷ []) (mincuts-lists N S.bounded) (record {
      rising = Pairwise-singleton ◌<◌ 0;
      members = λ c. Iff.trans (Memᴰ.eq_of_singleton, Memᴰ.head) (Iff.symm (mincut-none N none c));
    }) in
    (one, rw (one, (side-none N S none (source_side_of N 0)).0 (side-of-mincut N S 0 empty).0))
