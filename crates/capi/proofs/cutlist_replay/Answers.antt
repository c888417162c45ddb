-- `cutlist_replay` meets its contract, by those of `assemble` and the call that plays a log back.
-- Assumes nothing.
use mathlib.Core.Path.{ap, ◌∙◌}
use Rattle.network.specs.declared.Network.{Network}
use Rattle.replay.specs.Replay.{Replayed}
use Rattle.replay.specs.Replay.{replayed_by, silent_after}
use Rattle.capi.proofs.cutlist_replay.Goals as goal

pub returns : goal.returns
returns c =
    let e = c.replay.ensures.value in
    let a = c.args in
    let log = a.log.now in
    let lent = a.silent.now in
    let N = c.assemble-cabled.ensures in
    record {
      played = record {
        refusal = c.told-refusal.ensures.0 ∙ ap (λ (d : Replayed). d.refusal) e.0 ∙ ap (λ (M : Network). (replayed_by M log lent).refusal) N;
        count = c.told-refusal.ensures.1 ∙ ap (λ (d : Replayed). d.count) e.0 ∙ ap (λ (M : Network). (replayed_by M log lent).count) N;
        bytes = e.1 ∙ ap (λ (M : Network). silent_after M log lent) N;
      };
      means = rw (c.told-refusal.ensures.0, c.told-refusal.ensures.1) (rw N at c.replay.ensures.means);
    }
