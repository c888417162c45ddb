-- `taking::add` meets its contract, by the extent: all sets are tidied up, or their unions.
-- Assumes nothing.
use mathlib.Core.Path.{sym}
use Prim.Native.Nat.{◌≤◌}
use native.Mathlib.Omega.{arith}
use lib.ListN.{length}
use lib.Seq.{length-take-le}
use Rattle.rooms.specs.Rooms.{step_need}
use Rattle.rooms.proofs.Steps.{added-any, added-room, added-all}
use Rattle.rooms.proofs.taking.add.Goals as goal

pub slice_bounds-tidy-end : goal.slice_bounds-tidy-end
unfolding step_need
slice_bounds-tidy-end c = omega (arith, c.requires.0, rw c.in-Any.is at c.requires.1)

pub slice_bounds-tidy-end-in-Any : goal.slice_bounds-tidy-end-in-Any
unfolding step_need
slice_bounds-tidy-end-in-Any c =
    let fits : c.args.m ≤ length c.args.rows.now = omega (arith, c.requires.0, rw c.in-Any.is at c.requires.1) in
    sym (length-take-le c.args.m c.args.rows.now fits)

pub unite-end-requires : goal.unite-end-requires
unite-end-requires c = (c.requires.0, added-room _ _ c.args.rows.now c.requires.0 (rw c.in-All.is at c.requires.1))

pub returns-in-Any : goal.returns-in-Any
returns-in-Any c = rw c.in-Any.is (added-any _ _ _ c.requires.0 c.tidy.ensures)

pub returns-in-All : goal.returns-in-All
returns-in-All c = rw c.in-All.is (added-all _ _ _ c.requires.0 (rw c.in-All.is at c.requires.1) c.unite-end.ensures c.tidy-in-All.ensures)
