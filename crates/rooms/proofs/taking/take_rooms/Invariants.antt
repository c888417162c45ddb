-- `taking::take_rooms` meets its contract. The invariant: the sets for the rooms so far stand in front. Assumes nothing.
use Prim.Native.Nat.{◌≤◌}
use lib.ListN.{length}
use Rattle.bitset.specs.Members.{members}
use Rattle.node_set.specs.Width.{node_width}
use Rattle.rooms.proofs.Steps.{Taking}
use Rattle.rooms.proofs.taking.take_rooms.Given as goal

abbrev pub invariant-loop-room : goal.invariant-loop-room
invariant-loop-room l =
    (goal.iterator-loop-room).can_next l.room-iterator × (goal.iterator-loop-room).is_finite l.room-iterator
    × Taking l.extent l.asked.accepted.network (members node_width l.asked.rooms.0) (length l.fn.rows) l.rows l.count l.room-iterator.left
    × (l.count ≤ length l.fn.rows)
