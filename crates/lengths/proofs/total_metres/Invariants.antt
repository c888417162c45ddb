-- `total_metres` meets its contract. The invariant: the total so far and that of the members left make the whole, and 65,535 metres for each
-- member left still fit. Assumes nothing.
use mathlib.Core.Path.{◌≡◌}
use Prim.Native.Nat.{ℕ, ◌+◌, ◌*◌, ◌≤◌}
use lib.ListN.{length}
use Rattle.bitset.specs.Members.{members}
use Rattle.network.specs.declared.Network.{Network}
use Rattle.lengths.specs.Lengths.{total_metres}
use Rattle.lengths.proofs.total_metres.Given as goal

-- What holds at each turn.
pub record Turn (network : Network) (set total left : ℕ) : Type 0 where
  pub whole : total + total_metres network left ≡ total_metres network set
  pub room : total + 65535 * length (members 64 left) ≤ 65535 * 64

abbrev pub invariant-loop-k : goal.invariant-loop-k
invariant-loop-k l =
    (goal.iterator-loop-k).can_next l.k-iterator × (goal.iterator-loop-k).is_finite l.k-iterator × Turn l.network l.fn.set.0 l.total l.k-iterator.left
