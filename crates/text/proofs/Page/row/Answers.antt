-- `row` meets its contract: the cables, the bar between two spaces, the points and the end of the line are written one after the other.
-- Assumes nothing.
use Rattle.text.specs.Text.{line_up_to}
use Rattle.text.proofs.Written.{room-front, room-rest, appended-text}
use Rattle.text.proofs.Page.row.Goals as goal

pub numbers-requires : goal.numbers-requires
unfolding line_up_to
numbers-requires c = room-front _ (room-front _ (room-front _ c.requires))

pub text-requires : goal.text-requires
unfolding line_up_to
text-requires c = room-rest (room-front _ (room-front _ c.requires)) c.numbers.ensures

pub numbers-requires-2 : goal.numbers-requires-2
unfolding line_up_to
numbers-requires-2 c = room-rest (room-front _ c.requires) (appended-text c.numbers.ensures c.text.ensures)

pub text-requires-2 : goal.text-requires-2
unfolding line_up_to
text-requires-2 c = room-rest c.requires (appended-text (appended-text c.numbers.ensures c.text.ensures) c.numbers-2.ensures)

pub returns : goal.returns
unfolding line_up_to
returns c = appended-text (appended-text (appended-text c.numbers.ensures c.text.ensures) c.numbers-2.ensures) c.text-2.ensures
