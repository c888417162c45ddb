use mathlib.Core.Path.{sym, ◌∙◌}
use Prim.Native.Nat.{◌<◌}
use borrow.Author.Rules.{rules}
use denote.Floats.{passes}
use lib.ListN.{length, length-set}
use Rattle.bitset.proofs.Going.{came-lt, all-left, less-came, none-came}
use Rattle.contraction.proofs.Ends.{moving-first, moving-last, moving-stays, moving-goes}
use Rattle.contraction.proofs.moved.Goals as goal

pub loop-k-init : goal.loop-k-init
loop-k-init c =
    let start = all-left 64 c.into_iter-k-iterator.result.left c.args.edges.0 (search rules) (search rules) in
    (tt, tt, rw start (moving-first _ _ _ _), search rules)

pub bounds-ends-at : goal.bounds-ends-at
bounds-ends-at c = came-lt 64 _ _ _ c.in-Some.ensures.steps

pub bounds-ends-at-then-lies_at : goal.bounds-ends-at-then-lies_at
bounds-ends-at-then-lies_at c = came-lt 64 _ _ _ c.in-Some.ensures.steps

pub loop-k-preserved-then-lies_at : goal.loop-k-preserved-then-lies_at
loop-k-preserved-then-lies_at c =
    let turn = c.loop-k.invariant in
    let came = c.in-Some.ensures.steps in
    let inside : c.in-Some.k < length c.loop-k.ends = rw turn.3 (came-lt 64 _ _ _ came) in
    let goes = moving-goes _ _ _ _ turn.2 (less-came 64 _ _ _ came) inside (passes _ (sym c.lies_at.ensures ∙ c.if-lies_at.true)) in
    (tt, tt, goes, simp length-set turn.3)

pub loop-k-preserved : goal.loop-k-preserved
loop-k-preserved c =
    let turn = c.loop-k.invariant in
    let less = less-came 64 _ _ _ c.in-Some.ensures.steps in
    (tt, tt, moving-stays _ _ _ _ turn.2 less (λ i. rw (sym c.lies_at.ensures ∙ c.if-lies_at.false) at i), turn.3)

pub returns : goal.returns
returns c = moving-last _ _ _ _ c.loop-k.invariant.2 (none-came 64 _ c.in-None.ensures.steps.0)
