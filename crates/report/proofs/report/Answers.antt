-- `report` meets its contract: what is printed is the report of the first bytes, and they decide it.
-- Assumes nothing.
use mathlib.Core.Path.{◌≡◌, sym, ap, ◌∙◌}
use Prim.Native.Nat.{min}
use borrow.Author.Rules.{rules}
use lib.ListN.{length, take}
use Rattle.std.proofs.lemmas.List.{take_min}
use Rattle.report.proofs.Reports.{report-whole, report-printed}
use Rattle.report.proofs.report.Goals as goal

pub returns : goal.returns
returns c = record {
  printed = λ s e.
      let plan = c.args.plan.now in
      let long : length plan ≡ 521 = search rules in
      let first : take c.min-end.result plan ≡ take c.args.read plan =
      ap (λ n. take n plan) (c.min-end.ensures ∙ ap (min c.args.read) (sym long)) ∙ take_min c.args.read plan in
      rw (report-whole s first long e) (report-printed _ _ _ _ c.list_plan-listed.ensures c.print.ensures);
}
