-- `asked::Asked::to_room` meets its contract: the network with another room is accepted.
-- Assumes nothing.
use mathlib.Core.Path.{refl}
use Rattle.rooms.specs.Silences.{to}
use Rattle.rooms.proofs.Steps.{room-accepted}
use Rattle.rooms.proofs.asked.Asked.to_room.Goals as goal

pub invariant_of-result : goal.invariant_of-result
unfolding to
invariant_of-result c =
    let a = c.args in
    record { accepted = room-accepted a.self.accepted.network a.self.rooms.0 a.room a.self.asked c.requires }

pub returns : goal.returns
unfolding to
returns c = refl
