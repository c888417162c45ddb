use mathlib.Core.Path.{ap, ◌∙◌}
use Rattle.bitset.proofs.Going.{came-lt}
use Rattle.bitset.proofs.Results.{empty-zero}
use Rattle.sets.specs.declared.going.Members.{Members}
use Rattle.simulation.proofs.Steps.{drawn-first, drawn-next, drawn-last}
use Rattle.simulation.proofs.State.step.Goals as goal

pub loop-edge-init : goal.loop-edge-init
loop-edge-init c =
    let start = c.into_iter-edge-iterator in (
      tt,
      tt,
      drawn-first _ _ _ _ (ap (λ (m : Members). m.left) start.ensures.into_iter_gives ∙ c.members-edge-items.ensures)
          (empty-zero _ c.empty-failing.ensures) (empty-zero _ c.empty-repaired.ensures),
    )

pub add_below-failing-requires : goal.add_below-failing-requires
add_below-failing-requires c = came-lt 64 _ _ _ c.in-Some.ensures.steps

pub add_below-repaired-requires : goal.add_below-repaired-requires
add_below-repaired-requires c = came-lt 64 _ _ _ c.in-Some.ensures.steps

pub loop-edge-preserved : goal.loop-edge-preserved
loop-edge-preserved c = (
  tt,
  tt,
  drawn-next _ _ _ _ c.loop-edge.invariant.2 c.in-Some.ensures.steps
      c.advance-number.ensures c.draw-drawn.ensures c.add_below-failing.ensures c.add_below-repaired.ensures,
)

pub returns : goal.returns
returns c = drawn-last _ _ _ _ c.loop-edge.invariant.2 c.in-None.ensures.steps.0 c.after_draws.ensures
