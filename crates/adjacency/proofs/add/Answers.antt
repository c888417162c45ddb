-- `add` meets its contract: to add a member below the width is to insert it.
-- Assumes nothing.
use mathlib.Core.Path.{ap, ◌∙◌}
use borrow.Author.Rules.{rules}
use lib.ListN.{set}
use Rattle.bitset.proofs.Results.{with-member}
use Rattle.adjacency.proofs.add.Goals as goal

pub returns : goal.returns
returns g c =
    let a = c.args in
    ap (set a.table.now a.a) (c.word.ensures ∙ with-member 64 _ a.k _ (search rules) (rw (c.of.ensures) at c.with.ensures))
