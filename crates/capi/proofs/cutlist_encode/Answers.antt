-- `cutlist_encode` meets its contract, by those of `assemble` and the writer.
-- Assumes nothing.
use mathlib.Core.Path.{ap, ◌∙◌}
use Rattle.network.specs.declared.Network.{Network}
use Rattle.format.specs.Format.{Encoded}
use Rattle.format.specs.Format.{encoded_by, bytes_after}
use Rattle.capi.proofs.cutlist_encode.Goals as goal

pub returns : goal.returns
returns c =
    let e = c.encode.ensures.value in
    let lent = c.args.plan.now in
    let N = c.assemble-to_write.ensures in
    record {
      written = record {
        refusal = c.told-refusal.ensures.0 ∙ ap (λ (d : Encoded). d.refusal) e.0 ∙ ap (λ (M : Network). (encoded_by M lent).refusal) N;
        count = c.told-refusal.ensures.1 ∙ ap (λ (d : Encoded). d.count) e.0 ∙ ap (λ (M : Network). (encoded_by M lent).count) N;
        bytes = e.1 ∙ ap (λ (M : Network). bytes_after M lent) N;
      };
      means = rw (c.told-refusal.ensures.0, c.told-refusal.ensures.1) (rw N at c.encode.ensures.means);
    }
