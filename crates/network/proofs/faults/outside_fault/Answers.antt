-- `faults::outside_fault` meets its contract: each return rewrites the rule by the tests that led there.
-- Assumes nothing.
use Prim.Native.Nat.{◌≤◌, ◌<◌}
use native.Mathlib.Omega.{arith}
use borrow.Author.Tests.{le-leb, lt-leb}
use Rattle.network.specs.Record.{◌when◌, outside_fault}
use Rattle.network.proofs.faults.outside_fault.Goals as goal

pub returns-then-nodes-a : goal.returns-then-nodes-a
unfolding outside_fault ◌when◌
returns-then-nodes-a c = simp (le-leb _ _ c.if-nodes-a.true)

pub returns-then-past : goal.returns-then-past
unfolding outside_fault ◌when◌
returns-then-past c =
    let over : c.args.nodes ≤ c.args.b = omega (arith, c.if-past.true) in
    simp (lt-leb _ _ c.if-nodes-a.false, le-leb _ _ over)

pub returns : goal.returns
unfolding outside_fault ◌when◌
returns c =
    let below : c.args.b < c.args.nodes = omega (arith, c.if-past.false) in
    simp (lt-leb _ _ c.if-nodes-a.false, lt-leb _ _ below)
