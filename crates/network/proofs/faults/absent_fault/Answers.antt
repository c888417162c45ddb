-- `faults::absent_fault` meets its contract: each return rewrites the rule by the tests that led there.
-- Assumes nothing.
use Prim.Native.Nat.{◌≤◌, ◌<◌}
use native.Mathlib.Omega.{arith}
use borrow.Author.Tests.{lt-ltb, le-ltb}
use Rattle.std.proofs.Math.Bool.{or-true}
use Rattle.network.specs.Record.{◌when◌, absent_fault}
use Rattle.network.proofs.faults.absent_fault.Goals as goal

pub returns-then-first-gt0 : goal.returns-then-first-gt0
unfolding absent_fault ◌when◌
returns-then-first-gt0 c = simp (lt-ltb _ _ c.if-first-gt0.true)

pub returns-then-joined : goal.returns-then-joined
unfolding absent_fault ◌when◌
returns-then-joined c =
    let some : 0 < c.args.second = omega (arith, c.if-joined.true) in
    simp (le-ltb _ _ c.if-first-gt0.false, lt-ltb 0 _ some)

pub returns-then-measured : goal.returns-then-measured
unfolding absent_fault ◌when◌
returns-then-measured c =
    let some : 0 < c.args.metres = omega (arith, c.if-measured.true) in
    simp (le-ltb _ _ c.if-first-gt0.false, lt-ltb 0 _ some, or-true)

pub returns : goal.returns
unfolding absent_fault ◌when◌
returns c =
    let none : c.args.second ≤ 0 = omega (arith, c.if-joined.false) in
    let unmeasured : c.args.metres ≤ 0 = omega (arith, c.if-measured.false) in
    simp (le-ltb _ _ c.if-first-gt0.false, le-ltb _ _ none, le-ltb _ _ unmeasured)
