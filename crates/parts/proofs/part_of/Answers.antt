use mathlib.Core.Path.{◌≡◌, sym}
use mathlib.Core.Logic.{◌⊎◌, inl, inr}
use borrow.Author.Rules.{rules}
use borrow.Author.Tests.{eqb-true, eqb-false}
use Rattle.bitset.proofs.Results.{difference-minus}
use Rattle.node_set.specs.Width.{node_width}
use Rattle.parts.proofs.Parts.{lowest-one, looked, search-first, search-next, search-less, search-last, fresh-lt}
use Rattle.parts.proofs.part_of.Goals as goal
use Rattle.parts.proofs.part_of.Goals.{then-loop-missing-test+else-not-is_empty, else-loop-missing-test}

pub loop-missing-init : goal.loop-missing-init
loop-missing-init c =
    let one = lowest-one node_width c.args.targets.0 _ _ (search rules) c.without_lowest-missing.ensures c.difference-fresh.ensures in
    search-first _ _ _ _ (λ w m. c.requires w ((one.members w).0 m).0) _ (difference-minus _ _ _ c.difference-left.ensures)

pub bounds-adjacent-slot : goal.bounds-adjacent-slot
bounds-adjacent-slot c =
    let some = eqb-false _ 0 (sym c.if-not-is_empty.ensures) in
    fresh-lt _ _ _ _ _ _ _ c.loop-missing.invariant node_width _ (search rules) some c.lowest-slot.ensures

pub loop-missing-smaller : goal.loop-missing-smaller
loop-missing-smaller c =
    let l = c.loop-missing in
    let some = eqb-false _ 0 (sym c.if-not-is_empty.ensures) in
    search-less _ _ _ _ _ _ _ l.invariant _ _ _
    (looked _ _ _ _ _ _ _ l.invariant node_width _ _ _ _ _ _ (search rules) some c.lowest-slot.ensures c.without_lowest-others.ensures
    c.intersection-found.ensures c.difference-left-in-loop-missing.ensures c.difference-missing.ensures c.union-fresh.ensures)

pub loop-missing-preserved : goal.loop-missing-preserved
loop-missing-preserved c =
    let l = c.loop-missing in
    let some = eqb-false _ 0 (sym c.if-not-is_empty.ensures) in
    search-next _ _ _ _ _ _ _ l.invariant _ _ _
    (looked _ _ _ _ _ _ _ l.invariant node_width _ _ _ _ _ _ (search rules) some c.lowest-slot.ensures c.without_lowest-others.ensures
    c.intersection-found.ensures c.difference-left-in-loop-missing.ensures c.difference-missing.ensures c.union-fresh.ensures)

pub returns : goal.returns
returns c =
    let l = c.loop-missing in
    let one = lowest-one node_width c.args.targets.0 _ _ (search rules) c.without_lowest-missing.ensures c.difference-fresh.ensures in
    let end : (l.missing.0 ≡ 0) ⊎ (l.fresh.0 ≡ 0) =
    elim c.loop-missing-test.branch [
      | then-loop-missing-test+else-not-is_empty w ↦ inr (eqb-true _ 0 (sym w.if-not-is_empty.ensures))
      | else-loop-missing-test w ↦ inl (eqb-true _ 0 (sym w.loop-missing-test.ensures))
    ] in
    search-last _ _ _ _ _ _ _ l.invariant _ one c.requires end _ (difference-minus _ _ _ c.difference.ensures)
