use mathlib.Core.Path.{refl, sym, ◌∙◌}
use borrow.Author.Rules.{rules}
use Rattle.bitset.proofs.Going.{came-lt, all-left, less-came, none-came}
use Rattle.bitset.proofs.Scans.{done_first, done_next}
use Rattle.network.specs.Record.{present}
use Rattle.trimmed.proofs.loopless.Goals as goal

pub loop-k-init : goal.loop-k-init
loop-k-init c =
    (tt, tt, rw (all-left 64 c.into_iter-k-iterator.result.left (present c.args.network) (search rules) (search rules)) (done_first _ _))

pub bounds-network-at : goal.bounds-network-at
bounds-network-at c = came-lt 64 _ _ _ c.in-Some.ensures.steps

pub bounds-network-at-in-loop-k : goal.bounds-network-at-in-loop-k
bounds-network-at-in-loop-k c = came-lt 64 _ _ _ c.in-Some.ensures.steps

pub returns-then-network-at : goal.returns-then-network-at
returns-then-network-at c =
    let less = less-came 64 _ _ _ c.in-Some.ensures.steps in
    (absurd, λ p. p _ _ (c.loop-k.invariant.2.within _ less.member, c.if-network-at.true, refl))

pub loop-k-preserved : goal.loop-k-preserved
loop-k-preserved c = (tt, tt, done_next _ _ _ _ _ (less-came 64 _ _ _ c.in-Some.ensures.steps) c.if-network-at.false c.loop-k.invariant.2)

pub returns : goal.returns
returns c =
    let none = none-came 64 _ c.in-None.ensures.steps.0 in
    (λ t k v p. c.loop-k.invariant.2.done k p.0 (none k) (p.1 ∙ sym p.2), λ p. tt)
