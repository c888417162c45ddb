-- `taking::list_room` meets its contract: the rows of the enumeration outnumber those lent, or sorted they are the list.
-- Assumes nothing.
use native.Mathlib.Omega.{arith}
use borrow.Author.Rules.{rules}
use Rattle.graph.proofs.Sound.{Sound, accepted-sound}
use Rattle.rooms.proofs.Steps.{room-outnumbers, room-listed}
use Rattle.rooms.proofs.taking.list_room.Goals as goal

pub returns-then-lent-count-clause-listed : goal.returns-then-lent-count-clause-listed
returns-then-lent-count-clause-listed c =
    let sound : Sound c.args.accepted.network = accepted-sound c.args.accepted.network (search rules) c.args.accepted.accepted in
    room-outnumbers _ sound _ _ _ _ _ c.find_room-count.ensures.1 c.if-lent-count.true

pub returns-clause-listed : goal.returns-clause-listed
returns-clause-listed c =
    let sound : Sound c.args.accepted.network = accepted-sound c.args.accepted.network (search rules) c.args.accepted.accepted in
    room-listed _ sound _ _ _ _ _ c.find_room-count.ensures.1 (omega (arith, c.if-lent-count.false)) c.sort_sets.ensures
