-- `cutlist_list` meets its contract, by those of `assemble` and the list call.
-- Assumes nothing.
use mathlib.Core.Path.{ap, ◌∙◌}
use Rattle.network.specs.declared.Network.{Network}
use Rattle.listing.specs.List.{Listed}
use Rattle.listing.specs.List.{listed_by, cut_rows_after, side_rows_after}
use Rattle.capi.proofs.cutlist_list.Goals as goal

pub returns : goal.returns
returns c =
    let a = c.args in
    let e = c.list.ensures.value in
    let cuts = a.cuts.now in
    let sides = a.sides.now in
    let N = c.assemble-to_list.ensures in
    record {
      listing = record {
        refusal = c.told-refusal.ensures.0 ∙ ap (λ (d : Listed). d.refusal) e.0 ∙ ap (λ (M : Network). (listed_by M cuts sides).refusal) N;
        count = c.told-refusal.ensures.1 ∙ ap (λ (d : Listed). d.count) e.0 ∙ ap (λ (M : Network). (listed_by M cuts sides).count) N;
        cut-rows = e.1 ∙ ap (λ (M : Network). cut_rows_after M cuts sides) N;
        side-rows = e.2 ∙ ap (λ (M : Network). side_rows_after M cuts sides) N;
      };
      means = rw (c.told-refusal.ensures.0, c.told-refusal.ensures.1) (rw N at c.list.ensures.means);
    }
