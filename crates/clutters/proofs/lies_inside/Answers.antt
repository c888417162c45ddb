use mathlib.Core.Path.{refl}
use Rattle.clutters.specs.Clutters.{inside}
use Rattle.clutters.proofs.lies_inside.Goals as goal

pub returns : goal.returns
unfolding inside
returns c = refl
