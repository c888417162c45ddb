-- `cutlist_silent_minutes` meets its contract, by those of `assemble` and the call that counts silent minutes.
-- Assumes nothing.
use mathlib.Core.Path.{ap, ◌∙◌}
use Rattle.network.specs.declared.Network.{Network}
use Rattle.maintenance.specs.Outage.{Outage}
use Rattle.maintenance.specs.Outage.{outage_of}
use Rattle.capi.proofs.cutlist_silent_minutes.Goals as goal

pub returns : goal.returns
returns c =
    let a = c.args in
    let call = c.silent_minutes-outage.ensures in
    let N = c.assemble-scheduled.ensures in
    let counted = call.value ∙ ap (λ (M : Network). outage_of M a.openings.now a.works.now) N in
    record {
      counted = record { refusal = c.told-refusal.ensures.0 ∙ ap (λ (d : Outage). d.refusal) counted; minutes = c.told-refusal.ensures.1 ∙ ap (λ (d : Outage). d.minutes) counted };
      means = rw (c.told-refusal.ensures.0, c.told-refusal.ensures.1) (rw N at call.means);
    }
