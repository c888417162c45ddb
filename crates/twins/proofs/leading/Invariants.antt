-- `leading` meets its contract. The invariant: of the edges gone through those without a lower twin in the set stay. Assumes nothing.
use Prim.Native.Nat.{◌%◌, ◌^◌}
use lib.ListN.{get_or}
use Rattle.bitset.specs.Families.{Meets}
use Rattle.bitset.proofs.Scans.{Sifted}
use Rattle.twins.proofs.leading.Given as goal

abbrev pub invariant-loop-k : goal.invariant-loop-k
invariant-loop-k l =
    (goal.iterator-loop-k).can_next l.k-iterator × (goal.iterator-loop-k).is_finite l.k-iterator
    × Sifted (λ k. Meets (get_or l.lower k 0) l.set.0 → ⊥) l.set.0 (l.initial.k-iterator.left % 2 ^ 64)
    (l.k-iterator.left % 2 ^ 64) l.leads.0
