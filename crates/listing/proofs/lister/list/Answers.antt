-- `lister::list` meets its contract: a fault is a law of the call, and the rest is `list_part`.
-- Assumes nothing.
use borrow.Author.Rules.{rules}
use Rattle.listing.proofs.Call.{answered-refused}
use Rattle.listing.proofs.Meaning.{answered-means}
use Rattle.listing.proofs.lister.list.Goals as goal

pub returns-in_err-accepted-clause-value : goal.returns-in_err-accepted-clause-value
returns-in_err-accepted-clause-value c = answered-refused _ _ _ _ _ c.from_residual.ensures.1 c.in_err-accepted.ensures.refusal

pub returns-in_err-accepted-clause-means : goal.returns-in_err-accepted-clause-means
returns-in_err-accepted-clause-means c =
    (answered-means _ (search rules) _ _ (answered-refused _ _ _ _ _ c.from_residual.ensures.1 c.in_err-accepted.ensures.refusal)).1

pub returns-clause-means : goal.returns-clause-means
returns-clause-means c = (answered-means _ (search rules) _ _ (search rules)).1
