-- `lister::list_part` meets its contract: each way out is a law of the call.
-- Assumes nothing.
use native.Mathlib.Omega.{arith}
use borrow.Author.Rules.{rules}
use Rattle.network.specs.Record.{Stored}
use Rattle.listing.proofs.Call.{answered-unpaired, answered-unfilled, answered-complete}
use Rattle.listing.proofs.lister.list_part.Goals as goal

pub returns-then-differ : goal.returns-then-differ
returns-then-differ c = answered-unpaired _ _ _ c.args.part.accepted.accepted (λ e. omega (arith, c.if-differ.true))

pub returns-then-too_many : goal.returns-then-too_many
returns-then-too_many c =
    let accepted = c.args.part.accepted in
    let stored : Stored accepted.network = search rules in
    answered-unfilled _ _ _ stored accepted.accepted c.if-differ.false c.fill-count.ensures c.if-too_many.true

pub returns : goal.returns
returns c =
    let accepted = c.args.part.accepted in
    let stored : Stored accepted.network = search rules in
    answered-complete _ _ _ stored accepted.accepted c.if-differ.false c.fill-count.ensures c.if-too_many.false _ _ c.sort_rows.ensures
