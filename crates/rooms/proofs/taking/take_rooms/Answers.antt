use mathlib.Core.List.{Memᴰ}
use mathlib.Core.Path.{refl}
use native.Mathlib.Omega.{arith}
use borrow.Author.Rules.{rules}
use Rattle.bitset.proofs.MemberList.{in_members}
use Rattle.node_set.specs.Width.{node_width}
use Rattle.rooms.proofs.Steps.{first-others, first-taking, short-taking, next-taking, left-rooms}
use Rattle.rooms.proofs.taking.take_rooms.Goals as goal

pub to_room-requires : goal.to_room-requires
to_room-requires c =
    let low = c.lowest-first.ensures in
    (first-others _ _ _ _ (search rules) c.args.asked.asked low (c.without_lowest-others.ensures _ low)).0

pub returns-in_err-count-clause-taken : goal.returns-in_err-count-clause-taken
returns-in_err-count-clause-taken c =
    let low = c.lowest-first.ensures in
    let order = (first-others _ _ _ _ (search rules) c.args.asked.asked low (c.without_lowest-others.ensures _ low)).1 in
    let first = first-taking c.args.extent _ _ _ _ _ order (rw c.to_room.ensures at c.in_err-count.ensures.listed) refl in
    rw c.from_residual.ensures (short-taking _ _ _ _ first (omega (arith, c.in_err-count.ensures.listed.size)))

pub loop-room-init : goal.loop-room-init
loop-room-init c =
    let low = c.lowest-first.ensures in
    let start = c.into_iter-room-iterator.ensures.into_iter_gives in
    let order = (first-others _ _ _ _ (search rules) c.args.asked.asked low (c.without_lowest-others.ensures _ low)).1 in
    let listed = rw c.to_room.ensures at c.in_ok-count.ensures.listed in
    (tt, tt, first-taking c.args.extent _ _ _ _ _ (rw (start, c.members-room-items.ensures) order) listed refl, c.in_ok-count.ensures.within)

pub to_room-requires-in-loop-room : goal.to_room-requires-in-loop-room
to_room-requires-in-loop-room c =
    let among = left-rooms _ _ _ _ c.loop-room.invariant.2 c.in-Some.room (rw c.in-Some.ensures.steps (Memᴰ.head refl)) in
    ((in_members node_width c.args.asked.rooms.0 c.in-Some.room).0 among).0

pub add_room-requires : goal.add_room-requires
add_room-requires c = let (_, _, turn, few) = c.loop-room.invariant in omega (arith, turn.taken.size, few)

pub returns-in_err-count-2-clause-taken : goal.returns-in_err-count-2-clause-taken
returns-in_err-count-2-clause-taken c =
    let turn = c.loop-room.invariant.2 in
    let size = turn.taken.size in
    let added = rw c.to_room-in-loop-room.ensures at c.in_err-count-2.ensures.added in
    let next = next-taking c.args.extent _ _ _ turn (omega (arith, size, c.loop-room.invariant.3)) c.in-Some.room _ c.in-Some.ensures.steps added in
    rw c.from_residual-in_err-count-2.ensures (rw size at (short-taking _ _ _ _ next (omega (arith, added.size))))

pub loop-room-preserved : goal.loop-room-preserved
loop-room-preserved c =
    let turn = c.loop-room.invariant.2 in
    let size = turn.taken.size in
    let added = rw c.to_room-in-loop-room.ensures at c.in_ok-count-2.ensures.added in
    let next = next-taking c.args.extent _ _ _ turn (omega (arith, size, c.loop-room.invariant.3)) c.in-Some.room _ c.in-Some.ensures.steps added in
    (tt, tt, next, omega (arith, size, c.in_ok-count-2.ensures.within))
