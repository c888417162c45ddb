-- `length` meets its contract: four bytes if there are metres, else none.
-- Assumes nothing.
use mathlib.Core.Path.{◌≡◌, refl, ap, ◌∙◌}
use Prim.Native.Nat.{ℕ, ◌/◌, ◌%◌}
use native.Mathlib.Omega.{arith}
use lib.ListN.{get_or}
use Rattle.format.proofs.Commands.{length-absent, length_whole}
use Rattle.writer.proofs.Plan.length.Goals as goal

pub returns-then-unmeasured : goal.returns-then-unmeasured
returns-then-unmeasured c =
    rw (length-absent c.args.edge c.args.metres (omega (arith, c.if-unmeasured.true)))
    (record { same_memory = refl; len = omega arith; bytes = refl })

pub put-requires : goal.put-requires
put-requires c =
    let room = rw (length_whole c.args.edge c.args.metres (λ e. omega (arith, e, c.if-unmeasured.false))) at c.requires in
    (omega arith, record { within = omega (arith, room.within) })

pub returns : goal.returns
returns c =
    let m : ℕ = c.args.metres in
    let small : m / 256 % 256 ≡ m / 256 = omega arith in
    let bytes = c.to_be_bytes.ensures in
    let high = ap (λ b. get_or b 0 0) bytes ∙ small in
    let low = ap (λ b. get_or b 1 0) bytes in
    rw (length_whole c.args.edge m (λ e. omega (arith, e, c.if-unmeasured.false)))
    (rw (high, low) at c.put.ensures)
