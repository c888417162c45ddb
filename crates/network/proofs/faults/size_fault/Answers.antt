-- `faults::size_fault` meets its contract: each return rewrites the rule by the tests that led there.
-- Assumes nothing.
use Prim.Native.Nat.{◌≤◌, ◌<◌}
use native.Mathlib.Omega.{arith}
use borrow.Author.Tests.{lt-ltb, le-ltb}
use Rattle.node_set.specs.Width.{node_width}
use Rattle.network.specs.Record.{◌when◌, size_fault}
use Rattle.network.proofs.faults.size_fault.Goals as goal

pub returns-then-nodes-lt2 : goal.returns-then-nodes-lt2
unfolding size_fault ◌when◌
returns-then-nodes-lt2 c = simp (lt-ltb _ _ c.if-nodes-lt2.true)

pub returns-then-too_many : goal.returns-then-too_many
unfolding size_fault ◌when◌
returns-then-too_many c =
    let more : node_width < c.args.nodes = omega (arith, c.if-too_many.true) in
    simp (le-ltb _ _ c.if-nodes-lt2.false, lt-ltb _ _ more)

pub returns : goal.returns
unfolding size_fault ◌when◌
returns c =
    let fits : c.args.nodes ≤ node_width = omega (arith, c.if-too_many.false) in
    simp (le-ltb _ _ c.if-nodes-lt2.false, le-ltb _ _ fits)
