-- `reader::decode_edges` meets its contract. The invariant: the walk from here gives what the walk from the start gives.
-- The measure is what is left of the bytes. Assumes nothing.
use mathlib.Core.Path.{◌≡◌}
use Prim.Native.Nat.{◌-◌}
use lib.ListN.{length, drop}
use Rattle.format.specs.Format.{walk}
use Rattle.reader.proofs.decoding.decode_edges.Given as goal

abbrev pub invariant-loop-network : goal.invariant-loop-network
invariant-loop-network l = walk l.network l.next (drop l.at l.plan) ≡ walk l.initial.network l.initial.next (drop l.initial.at l.plan)

abbrev pub decreases-loop-network : goal.decreases-loop-network
decreases-loop-network l = length l.plan - l.at
