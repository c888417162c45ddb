-- `package::check_rooms` meets its contract. The invariant: the rooms so far fit, and are in the set. Assumes nothing.
use Rattle.rooms.proofs.Packages.{Packing}
use Rattle.rooms.proofs.package.check_rooms.Given as goal

abbrev pub invariant-loop-room : goal.invariant-loop-room
invariant-loop-room l = Packing l.network l.rooms l.seen.0 l.room-index
