-- `list_plan` meets its contract: the reader's refusal is the report, or what the list call gives for the network read.
-- Assumes nothing.
use borrow.Author.Rules.{rules}
use Rattle.network.proofs.Refusals.{number-some}
use Rattle.report.proofs.Reports.{report-unread, report-passed, report-answered}
use Rattle.report.proofs.list_plan.Goals as goal

pub returns-in_err-network : goal.returns-in_err-network
returns-in_err-network c =
    report-passed c.args.plan.now c.args.cuts.now c.args.sides.now _ _ c.from_residual.ensures.1
    (report-unread c.args.plan.now _ c.in_err-network.ensures.value (number-some _))

pub returns : goal.returns
returns c =
    let made = c.list.ensures.value in
    report-answered c.args.plan.now _ c.in_ok-network.ensures.value c.args.cuts.now c.args.sides.now (search rules) (search rules) c.list.result made.0 made.1 made.2
