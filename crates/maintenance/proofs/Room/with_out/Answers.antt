-- `Room::with_out` meets its contract: what is settled holds still, and one spread tells the rest.
-- Assumes nothing.
use mathlib.Core.Path.{refl}
use borrow.Author.Rules.{rules}
use Rattle.graph.proofs.Cuts.{severed-settled}
use Rattle.graph.proofs.Sound.{Sound, accepted-sound}
use Rattle.maintenance.proofs.Room.with_out.Goals as goal

pub returns-then-settled : goal.returns-then-settled
returns-then-settled c =
    let N = c.args.accepted.network in
    let sound : Sound N = accepted-sound N (search rules) c.args.accepted.accepted in
    (refl, severed-settled N sound.bounded _ _ _ (c.settled.ensures.holds c.if-settled.true) c.requires)
