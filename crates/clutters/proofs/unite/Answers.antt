use borrow.Author.Rules.{rules}
use Rattle.clutters.proofs.Steps.{first-uniting, uniting-room, next-uniting, unions-room, last-uniting}
use Rattle.clutters.proofs.unite.Goals as goal

pub loop-set-init : goal.loop-set-init
loop-set-init c = first-uniting _ _ _

pub unite_with-end-requires : goal.unite_with-end-requires
unite_with-end-requires c =
    let lists = c.split_at_mut-lists.ensures in
    uniting-room _ _ _ c.loop-set.invariant c.loop-set-test.true
    (unions-room _ _ _ c.requires.0 c.requires.1 lists.front lists.back c.split_at.ensures.front c.split_at.ensures.back)

pub loop-set-preserved : goal.loop-set-preserved
loop-set-preserved c = next-uniting _ _ _ c.loop-set.invariant c.loop-set-test.true c.unite_with-end.ensures

pub returns : goal.returns
returns c =
    let lists = c.split_at_mut-lists.ensures in
    last-uniting _ _ _ c.requires.0 c.requires.1 lists.front lists.back c.split_at.ensures.front c.split_at.ensures.back
    c.loop-set.invariant (search rules)
