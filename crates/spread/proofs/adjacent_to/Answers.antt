use mathlib.Core.Logic.{inl, inr}
use borrow.Author.Rules.{rules}
use Rattle.bitset.proofs.Results.{in-union}
use Rattle.bitset.proofs.Scans.{gathered-first, gathered_next, gathered-last}
use Rattle.bitset.proofs.Going.{came-lt, all-left, less-came, none-came}
use Rattle.node_set.specs.Width.{node_width}
use Rattle.spread.proofs.adjacent_to.Goals as goal

pub loop-v-init : goal.loop-v-init
loop-v-init c = (tt, tt, rw (all-left node_width c.into_iter-v-iterator.result.left c.args.nodes.0 (search rules) (search rules)) (gathered-first _ _ _))

pub bounds-adjacent-v : goal.bounds-adjacent-v
bounds-adjacent-v c = came-lt node_width _ _ _ c.in-Some.ensures.steps

pub loop-v-preserved : goal.loop-v-preserved
loop-v-preserved c =
    let l = c.loop-v in (
      tt,
      tt,
      gathered_next _ _ _ _ _ _ l.beside.0 _ (less-came node_width _ _ _ c.in-Some.ensures.steps)
          (in-union l.beside.0 _ _ c.union-beside.ensures) l.invariant.2,
    )

pub returns : goal.returns
returns c w =
    let l = c.loop-v in
    let all = gathered-last _ _ _ _ _ (none-came node_width _ c.in-None.ensures.steps.0) l.invariant.2 w in (
      λ m. elim (all.0 m) [ inl i ↦ absurd (rw (c.empty-beside.ensures w) at i) | inr p ↦ p ],
      λ p. all.1 (inr p),
    )
