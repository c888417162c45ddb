use borrow.Author.Rules.{rules}
use Rattle.clutters.proofs.Steps.{first-sifting, sifting-found, sifting-in, last-sifting}
use Rattle.clutters.proofs.sift.Goals as goal
use Rattle.clutters.proofs.sift.Goals.{in-Some, in-None}

pub loop-i-init : goal.loop-i-init
loop-i-init c = first-sifting _ _ c.requires.0

pub loop-i-preserved : goal.loop-i-preserved
loop-i-preserved c =
    elim c.match-part_at.branch [
      | in-Some w ↦ rw (w.rows-is, w.kept-is) (sifting-found _ _ c.loop-i.invariant c.requires.1 (search rules) _ w.in-Some.ensures)
      | in-None w ↦ rw (w.rows-is, w.kept-is) (sifting-in _ _ c.loop-i.invariant c.requires.1 (search rules) w.in-None.ensures)
    ]

pub returns : goal.returns
returns c = last-sifting _ _ c.loop-i.invariant (search rules)
