use borrow.Author.Rules.{rules}
use Rattle.std.proofs.lemmas.Slice.Zip.{Zip-more, either_empty_from_Zip}
use Rattle.text.proofs.Written.{room-front, left-room, left-text, left-none}
use Rattle.text.proofs.Rows.{left-row, left-nothing}
use Rattle.text.proofs.Page.rows.Goals as goal

pub row-requires : goal.row-requires
row-requires c =
    room-front _ (left-room (left-row (Zip-more c.loop-cut.cut-iterator c.next.new.self _ _ c.in-Some.is c.next.ensures.steps) c.loop-cut.invariant.2) c.requires)

pub loop-cut-preserved : goal.loop-cut-preserved
loop-cut-preserved c =
    (search rules, search rules, left-text (left-row (Zip-more c.loop-cut.cut-iterator c.next.new.self _ _ c.in-Some.is c.next.ensures.steps) c.loop-cut.invariant.2) c.row.ensures)

pub returns : goal.returns
returns c = left-none (left-nothing (either_empty_from_Zip c.loop-cut.cut-iterator c.next.new.self _ c.in-None.is c.next.ensures.steps) c.loop-cut.invariant.2)
