use mathlib.Core.Path.{◌≡◌, sym, ◌∙◌}
use Prim.Native.Nat.{◌*◌}
use native.Mathlib.Omega.{arith}
use borrow.Author.Tests.{eqb-true, eqb-false}
use lib.ListN.{length}
use Rattle.network.proofs.Refusals.{none_then, refused_then, passed-on}
use Rattle.windows.proofs.Windows.{works-step, works-piece, works-end}
use Rattle.windows.proofs.faults.works_fault.Goals as goal

pub returns-in_err-fault : goal.returns-in_err-fault
returns-in_err-fault c =
    passed-on _ _ c.from_residual.ensures.1 ∙ refused_then _ _ c.in_err-fault.ensures
    ∙ sym (works-step _ _ _ c.as_chunks.ensures.front c.loop-start-test.true) ∙ c.loop-start.invariant

pub loop-start-preserved : goal.loop-start-preserved
loop-start-preserved c =
    sym (works-step _ _ _ c.as_chunks.ensures.front c.loop-start-test.true ∙ none_then _ (sym c.in_ok-fault.ensures)) ∙ c.loop-start.invariant

pub returns-then-not-is_empty : goal.returns-then-not-is_empty
returns-then-not-is_empty c =
    let some = eqb-false _ _ (sym c.if-not-is_empty.ensures) in
    let all = c.as_chunks.ensures in
    let at = 3 * c.loop-start.start-index in
    sym (works-piece _ at c.args.present.0 (omega (arith, all.front_len, all.back_len, some, c.loop-start.auto))
    (omega (arith, all.front_len, c.loop-start-test.false)))
    ∙ c.loop-start.invariant

pub returns : goal.returns
returns c =
    let none = eqb-true _ _ (sym c.if-not-is_empty.ensures) in
    let all = c.as_chunks.ensures in
    let end : 3 * c.loop-start.start-index ≡ length c.args.works.now =
    omega (arith, all.front_len, all.back_len, none, c.loop-start-test.false, c.loop-start.auto) in
    sym (works-end _ _ _ end) ∙ c.loop-start.invariant
