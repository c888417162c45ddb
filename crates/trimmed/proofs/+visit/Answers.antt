use mathlib.Core.Path.{refl, sym}
use mathlib.Core.Logic.Dec
use mathlib.Core.Logic.{inl, inr}
use native.Mathlib.Omega.{arith}
use borrow.Author.Rules.{rules}
use borrow.Author.Tests.{eqb-true, eqb-false}
use Rattle.bitset.proofs.Sets.{∈-dec, not-zero}
use Rattle.bitset.proofs.Results.{with-member, in-difference, in-intersection, in-union}
use Rattle.bitset.proofs.Scans.{none_left}
use Rattle.bitset.proofs.Subsets.{⊆-refl}
use Rattle.node_set.specs.Width.{node_width}
use Rattle.trimmed.proofs.Visits.{next-fresh, no_other, some-other, found-fewer, visiting-first, visiting-next, visiting-hangs, visiting-last, ends-visited}
use Rattle.trimmed.proofs.+visit.Goals as goal

pub loop-back-init : goal.loop-back-init
loop-back-init t c =
    rw (with-member node_width _ c.args.v _ c.requires.0 c.with.ensures) (visiting-first _ c.requires.2 c.args.visited.now.0 c.args.v c.requires.1)

pub returns-then-w-ge-NODE_WIDTH : goal.returns-then-w-ge-NODE_WIDTH
returns-then-w-ge-NODE_WIDTH t c =
    let fresh = c.difference-fresh in
    let l = c.loop-back in
    let new = in-difference _ l.visited.0 fresh.result.0 fresh.ensures in
    let none = none_left node_width fresh.result.0 fresh.result.0 _ (search rules) (⊆-refl _) c.lowest-w.ensures c.if-w-ge-NODE_WIDTH.true in
    inl (visiting-last _ c.requires.2 c.args.visited.now.0 c.args.v _ _ l.invariant
    (λ w m. (Dec.not-not (∈-dec w l.visited.0)).0 (λ n. none w ((new w).1 (m, n)))) _ (in-intersection _ _ _ c.intersection-back.ensures))

pub visit-requires : goal.visit-requires
visit-requires t c =
    let l = c.loop-back in
    let next = next-fresh node_width _ _ _ _ c.difference-fresh.ensures c.lowest-w.ensures c.if-w-ge-NODE_WIDTH.false in
    let fewer = found-fewer _ node_width _ _ _ l.invariant.found c.requires.0 in
    (omega (arith, c.decreases, fewer), (c.if-w-ge-NODE_WIDTH.false, next.1, c.requires.2))

pub returns-in_err-ways : goal.returns-in_err-ways
returns-in_err-ways t c =
    let next = next-fresh node_width _ _ _ _ c.difference-fresh.ensures c.lowest-w.ensures c.if-w-ge-NODE_WIDTH.false in
    rw c.from_residual.ensures (inr (
      refl,
      refl,
      visiting-hangs _ c.requires.2 c.args.visited.now.0 c.args.v _ _ c.loop-back.invariant _ _ _ next.0 c.in_err-ways.ensures (λ x m. absurd (not-zero x m)),
    ))

pub returns-then-is_empty : goal.returns-then-is_empty
returns-then-is_empty t c =
    let next = next-fresh node_width _ _ _ _ c.difference-fresh.ensures c.lowest-w.ensures c.if-w-ge-NODE_WIDTH.false in
    let ways = no_other _ c.args.v _ c.without.ensures (eqb-true _ 0 (sym c.if-is_empty.ensures)) in
    inr (
      refl,
      refl,
      visiting-hangs _ c.requires.2 c.args.visited.now.0 c.args.v _ _ c.loop-back.invariant _ _ _ next.0 c.in_ok-ways.ensures ways,
    )

pub loop-back-smaller : goal.loop-back-smaller
loop-back-smaller t c =
    let way = some-other _ _ _ c.without.ensures (eqb-false _ 0 (sym c.if-is_empty.ensures)) in
    let went = ends-visited _ c.requires.2 _ _ _ _ _ way.1.0 c.in_ok-ways.ensures in
    found-fewer _ node_width _ _ _ went.found c.if-w-ge-NODE_WIDTH.false

pub loop-back-preserved : goal.loop-back-preserved
loop-back-preserved t c =
    let next = next-fresh node_width _ _ _ _ c.difference-fresh.ensures c.lowest-w.ensures c.if-w-ge-NODE_WIDTH.false in
    let way = some-other _ _ _ c.without.ensures (eqb-false _ 0 (sym c.if-is_empty.ensures)) in
    let went = ends-visited _ c.requires.2 _ _ _ _ _ way.1.0 c.in_ok-ways.ensures in
    visiting-next _ c.requires.2 c.args.visited.now.0 c.args.v _ _ c.loop-back.invariant _ _ _ next.0
    way.0 way.1.0 way.1.1 went _ (in-union _ _ _ c.union-beside.ensures)
