use borrow.Author.Rules.{rules}
use Rattle.bitset.proofs.Results.{in_without, in-difference}
use Rattle.bitset.proofs.Scans.{sifted-first, sifted-stays, sifted-goes, sifted-last}
use Rattle.bitset.proofs.Going.{came-lt, all-left, less-came, none-came}
use Rattle.twins.proofs.leading.Goals as goal

pub loop-k-init : goal.loop-k-init
loop-k-init c = (tt, tt, sifted-first _ _ _)

pub led-requires : goal.led-requires
led-requires c = came-lt 64 _ _ _ c.in-Some.ensures.steps

pub loop-k-preserved-then-led : goal.loop-k-preserved-then-led
loop-k-preserved-then-led c =
    let l = c.loop-k in
    let less = less-came 64 _ _ _ c.in-Some.ensures.steps in
    (tt, tt, sifted-goes _ _ _ _ _ _ _ _ less (λ stays. stays (c.led.ensures.holds c.if-led.true)) (in_without _ _ _ c.without-leads.ensures) l.invariant.2)

pub loop-k-preserved : goal.loop-k-preserved
loop-k-preserved c =
    let l = c.loop-k in
    let less = less-came 64 _ _ _ c.in-Some.ensures.steps in
    (tt, tt, sifted-stays _ _ _ _ _ _ _ less (c.led.ensures.fails c.if-led.false) l.invariant.2)

pub returns : goal.returns
returns c =
    let a = c.args in
    let l = c.loop-k in
    let start = all-left 64 c.into_iter-k-iterator.result.left c.difference.result.0 (search rules) (search rules) in
    let off = in-difference a.set.0 a.alone.0 _ (rw start c.difference.ensures) in
    let none = none-came 64 _ c.in-None.ensures.steps.0 in
    λ k. let held = sifted-last _ _ _ _ _ none l.invariant.2 k in (
      λ m. let p = held.0 m in (p.0, λ n. p.1 ((off k).1 (p.0, n))),
      λ p. held.1 (p.0, λ i. p.1 ((off k).0 i).1),
    )
