use Rattle.clutters.proofs.Clutters.{inside-iff}
use Rattle.clutters.proofs.Steps.{part-found}
use Rattle.clutters.proofs.part_at.Goals as goal

pub returns-then-lies_inside : goal.returns-then-lies_inside
returns-then-lies_inside c = (c.if-guess-sets.true, (inside-iff _ _).0 (rw (← c.lies_inside.ensures, c.if-lies_inside.true) tt))

pub returns : goal.returns
returns c = part-found _ _ _ c.first_part.ensures
