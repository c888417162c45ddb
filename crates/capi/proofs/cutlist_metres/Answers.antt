-- `cutlist_metres` meets its contract, by those of `assemble` and the total.
-- Assumes nothing.
use mathlib.Core.Path.{ap, ◌∙◌}
use Rattle.lengths.specs.Lengths.{Measured}
use Rattle.lengths.specs.Lengths.{total_of}
use Rattle.capi.proofs.cutlist_metres.Goals as goal

pub returns : goal.returns
returns c =
    let a = c.args in
    let call = c.total.ensures in
    let N = c.assemble-to_measure.ensures in
    let total = call.value ∙ ap (λ N. total_of N a.set) N in
    record {
      total = record { refusal = c.told-refusal.ensures.0 ∙ ap (λ (m : Measured). m.refusal) total; metres = c.told-refusal.ensures.1 ∙ ap (λ (m : Measured). m.metres) total };
      means = rw (c.told-refusal.ensures.0, c.told-refusal.ensures.1) (rw N at call.means);
    }
