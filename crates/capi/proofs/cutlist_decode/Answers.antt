-- `cutlist_decode` meets its contract: number and record are those that the reader ensures.
-- Assumes nothing.
use mathlib.Core.Path.{ap, ◌∙◌}
use Rattle.format.specs.Format.{Decoded}
use Rattle.network.specs.Record.{bare}
use Rattle.capi.proofs.cutlist_decode.Goals as goal

pub returns : goal.returns
unfolding bare
returns c =
    let call = c.decode.ensures in
    let told = c.told-refusal.ensures in
    record {
      read = record {
        refusal = told.0 ∙ ap (λ (d : Decoded). d.refusal) call.value;
        network = told.1 ∙ ap (λ (d : Decoded). d.network) call.value;
      };
      means = rw (told.0, told.1) (call.means);
    }
