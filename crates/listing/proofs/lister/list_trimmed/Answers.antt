-- `lister::list_trimmed` meets its contract: a refusal of the test is a law of the call, and the rest is `list_part`.
-- Assumes nothing.
use mathlib.Core.Path.{◌≡◌, sym}
use borrow.Author.Rules.{rules}
use Rattle.network.specs.Refusals.{number_of}
use Rattle.trimmed.specs.Trimmed.{trimmed_fault}
use Rattle.listing.proofs.Trimmed.{trimmed-answered-passed, trimmed-answered, trimmed-means}
use Rattle.listing.proofs.lister.list_trimmed.Goals as goal

pub returns-in_err-part : goal.returns-in_err-part
returns-in_err-part c =
    let refusal : number_of c.in_err-part.field-0.0 ≡ trimmed_fault c.args.network = search rules in
    let both = trimmed-means _ _ _ (search rules) (trimmed-answered-passed _ _ _ _ _ c.from_residual.ensures.1 refusal) in
    record { value = both.0; means = both.1 }

pub returns : goal.returns
returns c =
    let both = trimmed-means _ _ _ (search rules) (trimmed-answered _ _ _ (sym c.in_ok-part.ensures.refusal) (rw c.in_ok-part.ensures.same at c.list_part.ensures)) in
    record { value = both.0; means = both.1 }
