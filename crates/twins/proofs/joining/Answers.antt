use borrow.Author.Rules.{rules}
use Rattle.bitset.proofs.Results.{in_without}
use Rattle.bitset.proofs.Scans.{sifted-first, sifted-stays, sifted-goes, sifted-last}
use Rattle.bitset.proofs.Going.{came-lt, all-left, less-came, none-came}
use Rattle.twins.proofs.joining.Goals as goal

pub loop-j-init : goal.loop-j-init
loop-j-init c = (tt, tt, rw (all-left 64 c.into_iter-j-iterator.result.left c.args.edges.0 (search rules) (search rules)) (sifted-first _ _ _))

pub bounds-pairs-j : goal.bounds-pairs-j
bounds-pairs-j c = came-lt 64 _ _ _ c.in-Some.ensures.steps

pub loop-j-preserved-then-pairs-j : goal.loop-j-preserved-then-pairs-j
loop-j-preserved-then-pairs-j c =
    let l = c.loop-j in
    let less = less-came 64 _ _ _ c.in-Some.ensures.steps in
    (tt, tt, sifted-goes _ _ _ _ _ _ _ _ less c.if-pairs-j.true (in_without _ _ _ c.without-joins.ensures) l.invariant.2)

pub loop-j-preserved : goal.loop-j-preserved
loop-j-preserved c =
    let l = c.loop-j in
    let less = less-came 64 _ _ _ c.in-Some.ensures.steps in
    (tt, tt, sifted-stays _ _ _ _ _ _ _ less c.if-pairs-j.false l.invariant.2)

pub returns : goal.returns
returns c =
    let l = c.loop-j in
    let none = none-came 64 _ c.in-None.ensures.steps.0 in
    λ j. let held = sifted-last _ _ _ _ _ none l.invariant.2 j in
    (λ m. let p = held.0 m in (p.0, p.1 p.0), λ p. held.1 (p.0, λ i. p.1))
