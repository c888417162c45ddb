use borrow.Author.Rules.{rules}
use Rattle.text.proofs.Written.{room-front, left-room, left-text, left-none}
use Rattle.text.proofs.Decimal.{decimal-large}
use Rattle.text.proofs.NumberTexts.{left-small, left-large}
use Rattle.text.proofs.Page.+number.Goals as goal

pub put-requires : goal.put-requires
put-requires t c = (search rules, left-room (left-small _ _ c.if-n-lt10.true) c.requires)

pub returns-then-n-lt10 : goal.returns-then-n-lt10
returns-then-n-lt10 t c = left-none (left-text (left-small _ _ c.if-n-lt10.true) c.put.ensures)

pub number-requires : goal.number-requires
number-requires t c = (search rules, room-front _ (rw (decimal-large c.args.n c.if-n-lt10.false) at c.requires))

pub put-requires-2 : goal.put-requires-2
put-requires-2 t c = (search rules, left-room (left-large c.if-n-lt10.false c.number.ensures) c.requires)

pub returns : goal.returns
returns t c = left-none (left-text (left-large c.if-n-lt10.false c.number.ensures) c.put-2.ensures)
