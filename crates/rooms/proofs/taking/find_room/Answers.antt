-- `taking::find_room` meets its contract: the enumeration's, with as many rows wanted as there are. Assumes nothing.
use Rattle.rooms.proofs.taking.find_room.Goals as goal

pub returns : goal.returns
returns c = (_, rw c.part_of.ensures at c.enumerate.ensures)
