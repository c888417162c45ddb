use mathlib.Core.Path.{sym, ap, ◌∙◌}
use mathlib.Core.Bool.{not}
use Prim.Native.Nat.{◌^◌}
use borrow.Author.Rules.{rules}
use lib.Dec.{T}
use Rattle.bitset.specs.Members.{◌∖◌}
use Rattle.bitset.proofs.Results.{without-minus}
use Rattle.bitset.proofs.Scans.{done_first, done_next}
use Rattle.graph.specs.CutTests.{severed}
use Rattle.bitset.proofs.Going.{all-left, less-came, none-came}
use Rattle.connectivity.proofs.Answers.{needed-true, needed-false}
use Rattle.connectivity.proofs.judging.all_needed.Goals as goal

pub loop-k-init : goal.loop-k-init
loop-k-init c = (tt, tt, rw (all-left 64 c.into_iter-k-iterator.result.left c.args.set.0 (search rules) (search rules)) (done_first _ _))

pub returns-then-severed : goal.returns-then-severed
returns-then-severed c =
    let a = c.args in
    let less = less-came 64 _ _ _ c.in-Some.ensures.steps in
    let there = c.loop-k.invariant.2.within _ less.member in
    sym (needed-false a.accepted.network a.set.0 (search rules) _ there
    (ap (severed a.accepted.network) (sym (without-minus a.set.0 _ _ c.without.ensures)) ∙ sym c.severed.ensures ∙ c.if-severed.true))

pub loop-k-preserved : goal.loop-k-preserved
loop-k-preserved c =
    let a = c.args in
    let less = less-came 64 _ _ _ c.in-Some.ensures.steps in
    let needed : T (not (severed a.accepted.network (a.set.0 ∖ 2 ^ c.in-Some.k))) =
    rw (← without-minus a.set.0 _ _ c.without.ensures, ← c.severed.ensures, c.if-severed.false) tt in
    (tt, tt, done_next _ a.set.0 _ _ _ less needed c.loop-k.invariant.2)

pub returns : goal.returns
returns c =
    let a = c.args in
    let none = none-came 64 _ c.in-None.ensures.steps.0 in
    sym (needed-true a.accepted.network a.set.0 (λ e m. c.loop-k.invariant.2.done e m (none e)))
