-- `Booking::book` meets its contract: each return is the set of its case.
-- Assumes nothing.
use mathlib.Core.Path.{ap, ◌∙◌}
use Rattle.bitset.proofs.Results.{with-member}
use Rattle.bitset.specs.Members.{add_if}
use Rattle.windows.proofs.window.Booking.book.Goals as goal

pub returns-then-covers : goal.returns-then-covers
unfolding add_if
returns-then-covers c =
    let a = c.args in
    with-member 64 a.out.0 a.self.edge _ c.requires c.with.ensures ∙ ap (λ b. add_if b a.out.0 a.self.edge) c.if-covers.ensures

pub returns-else-covers : goal.returns-else-covers
unfolding add_if
returns-else-covers c = let a = c.args in ap (λ b. add_if b a.out.0 a.self.edge) c.if-covers.ensures
