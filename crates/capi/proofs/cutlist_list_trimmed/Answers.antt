-- `cutlist_list_trimmed` meets its contract, by those of `assemble` and the call that lists a trimmed network.
-- Assumes nothing.
use mathlib.Core.Path.{ap, ◌∙◌}
use Rattle.network.specs.declared.Network.{Network}
use Rattle.listing.specs.List.{Listed}
use Rattle.listing.specs.Trimmed.{trimmed_listed_by, trimmed_cut_rows, trimmed_side_rows}
use Rattle.capi.proofs.cutlist_list_trimmed.Goals as goal

pub returns : goal.returns
returns c =
    let a = c.args in
    let e = c.list_trimmed.ensures.value in
    let cuts = a.cuts.now in
    let sides = a.sides.now in
    let N = c.assemble-offered.ensures in
    record {
      trimmed_listing = record {
        refusal = c.told-not_listed.ensures.0 ∙ ap (λ (d : Listed). d.refusal) e.0 ∙ ap (λ (M : Network). (trimmed_listed_by M cuts sides).refusal) N;
        count = c.told-not_listed.ensures.1 ∙ ap (λ (d : Listed). d.count) e.0 ∙ ap (λ (M : Network). (trimmed_listed_by M cuts sides).count) N;
        cut-rows = e.1 ∙ ap (λ (M : Network). trimmed_cut_rows M cuts sides) N;
        side-rows = e.2 ∙ ap (λ (M : Network). trimmed_side_rows M cuts sides) N;
      };
      means = rw (c.told-not_listed.ensures.0, c.told-not_listed.ensures.1) (rw N at c.list_trimmed.ensures.means);
    }
