-- `spaced` meets its contract: behind the space come the one digit, or the two.
-- Assumes nothing.
use borrow.Author.Rules.{rules}
use Rattle.text.proofs.Decimal.{decimal-small, decimal-two}
use Rattle.text.proofs.Page.spaced.Goals as goal

pub put-requires : goal.put-requires
put-requires c = (search rules, rw (decimal-small c.args.n c.if-n-lt10.true) at c.requires.room)

pub returns-then-n-lt10 : goal.returns-then-n-lt10
returns-then-n-lt10 c = rw (decimal-small c.args.n c.if-n-lt10.true) c.put.ensures

pub put-requires-else-n-lt10 : goal.put-requires-else-n-lt10
put-requires-else-n-lt10 c = (search rules, rw (decimal-two c.args.n c.if-n-lt10.false c.requires.digits) at c.requires.room)

pub returns-else-n-lt10 : goal.returns-else-n-lt10
returns-else-n-lt10 c = rw (decimal-two c.args.n c.if-n-lt10.false c.requires.digits) c.put-else-n-lt10.ensures
