-- `main` is safe: what is written out is a part of the page.
-- Assumes nothing.
use Rattle.std.proofs.Common.{sym, length-take-le}
use Rattle.text.proofs.Written.{printed-within}
use Rattle.report.proofs.Reports.{report-read}
use Rattle.list.proofs.main.Goals as goal

pub slice_bounds-page-end : goal.slice_bounds-page-end
slice_bounds-page-end c = printed-within (report-read c.report-printed.ensures)

pub slice_bounds-write_all-end-2 : goal.slice_bounds-write_all-end-2
slice_bounds-write_all-end-2 c = sym (length-take-le _ _ (printed-within (report-read c.report-printed.ensures)))
