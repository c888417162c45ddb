-- `put_refusal` meets its contract: the line of the word refused and a number is far shorter than the page.
-- Assumes nothing.
use mathlib.Core.Path.{refl}
use borrow.Author.Rules.{rules}
use Rattle.text.proofs.Written.{appended-printed}
use Rattle.text.proofs.Bound.{room-word}
use Rattle.text.proofs.put_refusal.Goals as goal

pub word_line-requires : goal.word_line-requires
word_line-requires c = room-word _ _ (search rules) (search rules) (search rules)

pub returns : goal.returns
returns c = appended-printed refl (room-word _ _ (search rules) (search rules) (search rules)) c.word_line.ensures
