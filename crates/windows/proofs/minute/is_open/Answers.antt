-- `minute::is_open` meets its contract.
-- Assumes nothing.
use mathlib.Core.Path.{ap, ◌∙◌}
use Rattle.std.proofs.Common.{rules, tests}
use lib.ListN.{get_or}
use Rattle.std.specs.List.{list_any}
use Rattle.std.proofs.lemmas.Iterator.{YieldsList-from_slice}
use Rattle.std.proofs.lemmas.Iterator.Search.{any_from_yields_List}
use Rattle.windows.specs.Windows.{covers}
use Rattle.windows.proofs.Chunks.{open-pairs}
use Rattle.windows.proofs.minute.is_open.Goals as goal

pub returns : goal.returns
returns c =
    let m = c.args.minute in
    any_from_yields_List (λ w. covers (get_or w 0 0) (get_or w 1 0) m) _ _ _ c.any.ensures.ran
    (YieldsList-from_slice c.as_chunks.result.0.now cc) (λ x b q k. search (rules, tests))
    ∙ ap (list_any (λ w. covers (get_or w 0 0) (get_or w 1 0) m)) c.as_chunks.ensures.front ∙ open-pairs m c.args.openings.now
