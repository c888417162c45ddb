use borrow.Author.Rules.{rules}
use Rattle.clutters.proofs.Steps.{part-found, united-spared, written-none, next-writing, last-writing}
use Rattle.clutters.proofs.unite_with.Goals as goal

pub returns-then-spared : goal.returns-then-spared
returns-then-spared c = united-spared _ _ _ c.requires _ (part-found _ _ _ c.first_part.ensures) (search rules)

pub loop-k-init : goal.loop-k-init
loop-k-init c = written-none _

pub loop-k-preserved : goal.loop-k-preserved
loop-k-preserved c = next-writing _ _ _ c.requires c.loop-k-test.true c.loop-k.invariant

pub returns : goal.returns
returns c = last-writing _ _ _ c.requires (search rules) c.loop-k.invariant
