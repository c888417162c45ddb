-- `rows` meets its contract. The loop's invariant: the lines of the rows that are still to come are left to be written.
-- Assumes nothing.
use Rattle.std.specs.Iterator.Adapters.{zip_first, zip_second}
use Rattle.std.specs.Slice.Iter.{iter_rest}
use Rattle.text.specs.Text.{row_lines}
use Rattle.text.proofs.Written.{Left}
use Rattle.text.proofs.Page.rows.Given as goal

abbrev pub invariant-loop-cut : goal.invariant-loop-cut
invariant-loop-cut l =
    (goal.iterator-loop-cut).can_next l.cut-iterator ×
    (goal.iterator-loop-cut).is_finite l.cut-iterator ×
    Left l.fn.self (row_lines l.cuts l.sides) l.self (row_lines (iter_rest (zip_first l.cut-iterator)) (iter_rest (zip_second l.cut-iterator)))
