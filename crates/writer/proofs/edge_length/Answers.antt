-- `writer::edge_length` meets its contract: an edge, or an edge and its length.
-- Assumes nothing.
use mathlib.Core.Path.{◌≡◌}
use Prim.Native.Nat.{ℕ}
use native.Mathlib.Omega.{arith}
use Rattle.network.specs.Record.{metres_of}
use Rattle.format.proofs.Commands.{length-absent, length_whole}
use Rattle.writer.proofs.edge_length.Goals as goal

pub returns-then-measured : goal.returns-then-measured
returns-then-measured c =
    let m : ℕ = metres_of c.args.network.now c.args.edge in
    rw (length_whole c.args.edge m (λ e. omega (arith, e, c.if-measured.true)))

pub returns-else-measured : goal.returns-else-measured
returns-else-measured c =
    let m : ℕ = metres_of c.args.network.now c.args.edge in
    let none : m ≡ 0 = omega (arith, c.if-measured.false) in
    rw (length-absent c.args.edge m none)
