-- `put_list` meets its contract: no list is longer than the page.
-- Assumes nothing.
use mathlib.Core.Path.{refl}
use borrow.Author.Rules.{rules}
use Rattle.text.proofs.Written.{room-rest, appended-text}
use Rattle.text.proofs.Bound.{room-word}
use Rattle.text.proofs.Lists.{room-list, list-printed}
use Rattle.text.proofs.put_list.Goals as goal

pub word_line-requires : goal.word_line-requires
word_line-requires c = room-word _ _ (search rules) (search rules) (search rules)

pub rows-requires : goal.rows-requires
rows-requires c =
    room-rest (room-list _ _ _ _ c.min-rows.ensures (search rules) (search rules) (search rules)) c.word_line.ensures

pub returns : goal.returns
returns c =
    list-printed _ _ _ _ c.min-rows.ensures (search rules) (search rules) refl (search rules) (appended-text c.word_line.ensures c.rows.ensures)
