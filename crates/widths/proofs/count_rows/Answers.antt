-- `count_rows` meets its contract: by the number of their edges where each edge present is alone, else by their leading edges.
-- Assumes nothing.
use mathlib.Core.Path.{◌∙◌}
use Rattle.twins.proofs.Twins.{alone-found}
use Rattle.widths.proofs.Counting.{table-plain}
use Rattle.widths.proofs.count_rows.Goals as goal

pub returns-then-is_subset : goal.returns-then-is_subset
returns-then-is_subset c =
    let N = c.args.accepted.network in
    let found = c.leading-alone in
    let alone = alone-found N c.lower_twins-lower.result _ _ c.empty.ensures found.ensures in
    let met = c.by_size.ensures in
    (λ inside. met.0 ∙ table-plain N _ _ c.lower_twins-lower.ensures alone (c.is_subset.ensures.holds c.if-is_subset.true) c.args.cuts.now inside, met.1)

pub returns-else-is_subset : goal.returns-else-is_subset
returns-else-is_subset c =
    let N = c.args.accepted.network in
    let found = c.leading-alone in
    let alone = alone-found N c.lower_twins-lower.result _ _ c.empty.ensures found.ensures in
    let met = c.by_leading.ensures in
    (met.0 N c.lower_twins-lower.ensures alone, met.1)
