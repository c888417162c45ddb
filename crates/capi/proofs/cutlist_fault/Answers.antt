-- `cutlist_fault` meets its contract, by those of `assemble` and the record test.
-- Assumes nothing.
use mathlib.Core.Path.{ap, ◌∙◌}
use Rattle.network.specs.Record.{fault_of}
use Rattle.capi.proofs.cutlist_fault.Goals as goal

pub returns : goal.returns
returns c =
    let N = c.assemble-to_test.ensures in
    record { value = c.told-refusal.ensures.0 ∙ c.fault.ensures.value ∙ ap fault_of N; means = rw (c.told-refusal.ensures.0) (rw N at c.fault.ensures.means) }
