-- `cutlist_simulate` meets its contract, by those of `assemble` and the call that drills a hall.
-- Assumes nothing.
use mathlib.Core.Path.{ap, ◌∙◌}
use Rattle.network.specs.declared.Network.{Network}
use Rattle.simulation.specs.declared.Simulated.{Simulated}
use Rattle.simulation.specs.Simulation.{Tallied}
use Rattle.simulation.specs.Simulation.{simulated_by}
use Rattle.capi.proofs.cutlist_simulate.Goals as goal

pub returns : goal.returns
returns c =
    let a = c.args in
    let call = c.simulate-simulated.ensures in
    let N = c.assemble-drilled.ensures in
    let drilled = call.value ∙ ap (λ (M : Network). simulated_by M a.start a.failure a.repair a.steps) N in
    record {
      drilled = record {
        refusal = c.told-refusal.ensures.0 ∙ ap (λ (d : Tallied). d.refusal) drilled;
        silent = ap (λ (g : Simulated). g.silent) c.told-refusal.ensures.1 ∙ ap (λ (d : Tallied). d.silent) drilled;
        number = ap (λ (g : Simulated). g.number) c.told-refusal.ensures.1 ∙ ap (λ (d : Tallied). d.number) drilled;
      };
      means = rw (c.told-refusal.ensures.0, c.told-refusal.ensures.1) (rw N at call.means);
    }
