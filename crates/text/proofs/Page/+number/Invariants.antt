-- `number` meets its contract: from 10 on it writes the tenth and then one more digit. The measure is the number.
-- Assumes nothing.
use Rattle.text.proofs.Page.+number.Given as goal

abbrev pub decreases-number : goal.decreases-number
decreases-number l = l.n
