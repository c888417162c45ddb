use mathlib.Core.Path.{◌≡◌, sym, ◌∙◌}
use Prim.Native.Nat.{◌*◌}
use native.Mathlib.Omega.{arith}
use borrow.Author.Tests.{eqb-true, eqb-false}
use lib.ListN.{length}
use Rattle.network.proofs.Refusals.{none_then, refused_then, passed-on}
use Rattle.windows.proofs.Windows.{openings-step, openings-piece, openings-end}
use Rattle.windows.proofs.faults.openings_fault.Goals as goal

pub returns-in_err-fault : goal.returns-in_err-fault
returns-in_err-fault c =
    passed-on _ _ c.from_residual.ensures.1 ∙ refused_then _ _ c.in_err-fault.ensures
    ∙ sym (openings-step _ _ c.as_chunks.ensures.front c.loop-start-test.true) ∙ c.loop-start.invariant

pub loop-start-preserved : goal.loop-start-preserved
loop-start-preserved c =
    sym (openings-step _ _ c.as_chunks.ensures.front c.loop-start-test.true ∙ none_then _ (sym c.in_ok-fault.ensures)) ∙ c.loop-start.invariant

pub returns-then-is_empty : goal.returns-then-is_empty
returns-then-is_empty c =
    let none = eqb-true _ _ (sym c.if-is_empty.ensures) in
    let all = c.as_chunks.ensures in
    let end : 2 * c.loop-start.start-index ≡ length c.args.openings.now =
    omega (arith, all.front_len, all.back_len, none, c.loop-start-test.false, c.loop-start.auto) in
    sym (openings-end _ _ end) ∙ c.loop-start.invariant

pub returns-else-is_empty : goal.returns-else-is_empty
returns-else-is_empty c =
    let some = eqb-false _ _ (sym c.if-is_empty.ensures) in
    let all = c.as_chunks.ensures in
    let at = 2 * c.loop-start.start-index in
    sym (openings-piece _ at (omega (arith, all.front_len, all.back_len, some, c.loop-start.auto))
    (omega (arith, all.front_len, c.loop-start-test.false)))
    ∙ c.loop-start.invariant
