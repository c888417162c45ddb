use mathlib.Core.Path.{sym, ap, ◌∙◌}
use native.Mathlib.Omega.{arith}
use borrow.Author.Rules.{rules}
use Rattle.edge_set.specs.declared.EdgeSet.{EdgeSet}
use Rattle.network.specs.Record.{present, Stored}
use Rattle.graph.proofs.Cuts.{severed-all}
use Rattle.graph.proofs.Sound.{Sound, accepted-sound}
use Rattle.maintenance.proofs.Stretches.{first-turn, counted-le, next-change, next-within, next-fewer, silent-turn, heard-turn, closed-turn, last_turn}
use Rattle.maintenance.proofs.sweep.Goals as goal

pub loop-minute-init : goal.loop-minute-init
loop-minute-init c =
    let N = c.args.accepted.network in
    let S : Sound N = accepted-sound N (search rules) c.args.accepted.accepted in
    first-turn _ _ _ (sym (severed-all N S.bounded S.differ))

pub out_at-requires : goal.out_at-requires
out_at-requires c =
    let stored : Stored c.args.accepted.network = search rules in
    (present c.args.accepted.network, stored.edges, c.requires)

pub overflow_sub-minutes : goal.overflow_sub-minutes
overflow_sub-minutes c =
    let next = next-change _ _ _ c.loop-minute.invariant c.loop-minute-test.true c.next_change-next.ensures in
    omega (arith, next.past)

pub overflow_add-minutes : goal.overflow_add-minutes
overflow_add-minutes c =
    let t = c.loop-minute.invariant in
    omega (arith, counted-le _ _ _ t, next-within _ _ _ t c.loop-minute-test.true c.next_change-next.ensures)

pub loop-minute-smaller-then-known : goal.loop-minute-smaller-then-known
loop-minute-smaller-then-known c = next-fewer _ _ _ c.loop-minute.invariant c.loop-minute-test.true c.next_change-next.ensures

pub loop-minute-preserved-then-known : goal.loop-minute-preserved-then-known
loop-minute-preserved-then-known c =
    silent-turn _ _ _ c.loop-minute.invariant c.loop-minute-test.true c.next_change-next.ensures (sym c.if-is_open.ensures)
    (ap (λ (x : EdgeSet). x.0) c.with_out-known.ensures.0 ∙ c.out_at.ensures) c.with_out-known.ensures.1 c.if-known.true

pub loop-minute-smaller-else-known : goal.loop-minute-smaller-else-known
loop-minute-smaller-else-known c = next-fewer _ _ _ c.loop-minute.invariant c.loop-minute-test.true c.next_change-next.ensures

pub loop-minute-preserved-else-known : goal.loop-minute-preserved-else-known
loop-minute-preserved-else-known c =
    heard-turn _ _ _ c.loop-minute.invariant c.loop-minute-test.true c.next_change-next.ensures (sym c.if-is_open.ensures)
    (ap (λ (x : EdgeSet). x.0) c.with_out-known.ensures.0 ∙ c.out_at.ensures) c.with_out-known.ensures.1 c.if-known.false

pub loop-minute-smaller : goal.loop-minute-smaller
loop-minute-smaller c = next-fewer _ _ _ c.loop-minute.invariant c.loop-minute-test.true c.next_change-next.ensures

pub loop-minute-preserved : goal.loop-minute-preserved
loop-minute-preserved c =
    closed-turn _ _ _ c.loop-minute.invariant c.loop-minute-test.true c.next_change-next.ensures (sym c.if-is_open.ensures)

pub returns : goal.returns
returns c = last_turn _ _ _ c.loop-minute.invariant (omega (arith, c.loop-minute-test.false))
