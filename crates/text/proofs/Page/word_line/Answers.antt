-- `word_line` meets its contract: the word, a space, the number and the end of the line are written one after the other.
-- Assumes nothing.
use Rattle.text.specs.Text.{word_line}
use Rattle.text.proofs.Written.{room-front, room-rest, appended-text}
use Rattle.text.proofs.Page.word_line.Goals as goal

pub text-requires : goal.text-requires
unfolding word_line
text-requires c = room-front _ (room-front _ (room-front _ c.requires))

pub text-requires-2 : goal.text-requires-2
unfolding word_line
text-requires-2 c = room-rest (room-front _ (room-front _ c.requires)) c.text.ensures

pub number-requires : goal.number-requires
unfolding word_line
number-requires c = room-rest (room-front _ c.requires) (appended-text c.text.ensures c.text-2.ensures)

pub text-requires-3 : goal.text-requires-3
unfolding word_line
text-requires-3 c = room-rest c.requires (appended-text (appended-text c.text.ensures c.text-2.ensures) c.number.ensures)

pub returns : goal.returns
unfolding word_line
returns c = appended-text (appended-text (appended-text c.text.ensures c.text-2.ensures) c.number.ensures) c.text-3.ensures
