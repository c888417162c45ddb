use mathlib.Core.Path.{sym, ◌∙◌}
use Prim.Native.Nat.{◌^◌, ◌<◌}
use native.Mathlib.Omega.{arith}
use borrow.Author.Rules.{rules}
use borrow.Author.Tests.{eqb-true, eqb-false}
use Rattle.node_set.specs.Width.{node_width}
use Rattle.spread.proofs.Rounds.{finds, spread-first, spread-next, spread-larger, spread-last}
use Rattle.spread.proofs.reach.Goals as goal

pub loop-within-init : goal.loop-within-init
loop-within-init c = record { word = search rules; inside = spread-first _ _ _ }

pub loop-within-smaller : goal.loop-within-smaller
loop-within-smaller c =
    let l = c.loop-within in
    let next = c.union-spread.result.0 in
    let new = finds _ _ l.spread.0 l.fresh.0 _ _ _ c.adjacent_to-beside.ensures c.intersection-inside.ensures c.difference-found.ensures in
    let larger : l.spread.0 < next =
    spread-larger _ _ _ _ _ _ l.invariant.inside new next c.union-spread.ensures (eqb-false _ _ (sym c.is_empty.ensures ∙ c.if-is_empty.false)) in
    let small : next < 2 ^ node_width = search rules in
    omega (arith, larger, small)

pub loop-within-preserved : goal.loop-within-preserved
loop-within-preserved c =
    let l = c.loop-within in
    let new = finds _ _ l.spread.0 l.fresh.0 _ _ _ c.adjacent_to-beside.ensures c.intersection-inside.ensures c.difference-found.ensures in
    record {
      word = search rules;
      inside = spread-next _ _ _ _ _ _ l.invariant.inside new _ c.union-spread.ensures;
    }

pub returns : goal.returns
returns c =
    let l = c.loop-within in
    let new = finds _ _ l.spread.0 l.fresh.0 _ _ _ c.adjacent_to-beside.ensures c.intersection-inside.ensures c.difference-found.ensures in
    spread-last _ _ _ _ _ _ l.invariant.inside new (eqb-true _ _ (sym c.is_empty.ensures ∙ c.if-is_empty.true))
