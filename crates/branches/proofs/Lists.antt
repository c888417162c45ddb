-- The complete list is unique, and two networks have equal lists exactly if they have the same minpaths.
-- Assumes bounded networks for the second.
use mathlib.Core.Path.{◌≡◌}
use mathlib.Core.List.{List}
use mathlib.Core.Logic.Iff
use mathlib.Core.Logic.{◌↔◌}
use Prim.Native.Nat.{ℕ}
use Rattle.sequences.proofs.Rising.{rising-unique}
use Rattle.network.specs.declared.Network.{Network}
use Rattle.graph.specs.Reach.{Bounded}
use Rattle.graph.specs.Paths.{SameMinpaths}
use Rattle.graph.proofs.Cuts.{same-minpaths}
use Rattle.branches.specs.Lists.{Lists}

-- A network has one complete list.
pub lists-unique : (N : Network) (l k : List ℕ) → Lists N l → Lists N k → l ≡ k
lists-unique N l k p q = rising-unique l k p.rising q.rising (λ c. Iff.trans (p.members c) (Iff.symm (q.members c)))

-- Two networks have equal complete lists exactly if they have the same minpaths.
pub lists-equal : (N M : Network) → Bounded N → Bounded M → (l k : List ℕ) → Lists N l → Lists M k → (l ≡ k) ↔ SameMinpaths N M
lists-equal N M B C l k p q =
    let same = same-minpaths N M B C in (
      λ e. same.1 (λ c. Iff.trans (Iff.symm (p.members c)) (rw e (q.members c))),
      λ s. rising-unique l k p.rising q.rising (λ c. Iff.trans (p.members c) (Iff.trans (same.0 s c) (Iff.symm (q.members c)))),
    )
