-- `width_table` meets its contract.
-- Assumes nothing.
use mathlib.Core.Path.{refl, sym}
use native.Mathlib.Omega.{arith}
use borrow.Author.Rules.{rules}
use Rattle.network.specs.Record.{present, Stored}
use Rattle.network.proofs.Refusals.{number-some}
use Rattle.network.proofs.Sets.{rows-record, rows-absent, rows_none}
use Rattle.widths.proofs.Answers.{widths-passed, widths-refused, widths-given, widths-mean}
use Rattle.widths.proofs.Counting.{edges_of-within}
use Rattle.widths.proofs.width_table.Goals as goal

pub returns-in_err-accepted : goal.returns-in_err-accepted
returns-in_err-accepted c =
    let N = c.args.network in
    let cuts = c.args.cuts.now in
    let stored : Stored N = search rules in
    let refused = rows-record N cuts _ c.in_err-accepted.ensures.refusal (number-some _) in
    let both = widths-mean N cuts stored (widths-passed N cuts _ _ c.from_residual.ensures.1 (sym refused)) in
    record { value = both.0; means = both.1 }

pub returns-then-not-is_subset : goal.returns-then-not-is_subset
returns-then-not-is_subset c =
    let N = c.args.network in
    let rows = c.args.cuts.now in
    let stored : Stored N = search rules in
    let out = c.is_subset.ensures.fails c.if-not-is_subset.true in
    let inside = edges_of-within rows _ (present N) c.count_rows-counted.ensures.1 in
    let absent = rows-absent N rows (sym c.in_ok-accepted.ensures.refusal) (λ i. out (inside.1 i)) in
    let both = widths-mean N rows stored (widths-refused N rows 14 (sym absent) (λ e. omega arith)) in
    record { value = both.0; means = both.1 }

pub returns : goal.returns
returns c =
    let N = c.args.network in
    let rows = c.args.cuts.now in
    let stored : Stored N = search rules in
    let counted = rw c.in_ok-accepted.ensures.same at c.count_rows-counted.ensures in
    let within = c.is_subset.ensures.holds c.if-not-is_subset.false in
    let inside = (edges_of-within rows _ (present N) counted.1).0 within in
    let none = rows_none N rows (sym c.in_ok-accepted.ensures.refusal) inside in
    let both = widths-mean N rows stored (widths-given N rows 0 _ (sym none) refl (counted.0 inside)) in
    record { value = both.0; means = both.1 }
