-- `taking::add_room` meets its contract: the room's list is too long, or it is added to the sets so far.
-- Assumes nothing.
use Prim.Native.Nat.{◌+◌, ◌≤◌}
use borrow.Author.Rules.{rules}
use lib.ListN.{length}
use Rattle.rooms.proofs.Steps.{most-fits}
use Rattle.rooms.proofs.taking.add_room.Goals as goal

pub overflow_add-p : goal.overflow_add-p
overflow_add-p c =
    let fits : c.args.p + c.most_sets-most.result ≤ length c.args.rows.now = most-fits c.args.extent _ _ _ c.most_sets-most.ensures in
    search (rules, fits)

pub slice_bounds-list_room-end : goal.slice_bounds-list_room-end
slice_bounds-list_room-end c =
    let fits : c.args.p + c.most_sets-most.result ≤ length c.args.rows.now = most-fits c.args.extent _ _ _ c.most_sets-most.ensures in
    search (rules, fits)
