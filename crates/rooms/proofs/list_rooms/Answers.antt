-- `list_rooms` meets its contract: what refuses record or rooms is a law of the call, and so is what is taken and delivered.
-- Assumes nothing.
use Prim.Native.Nat.{◌^◌, ◌<◌}
use borrow.Author.Rules.{rules}
use Rattle.network.specs.Record.{Stored}
use Rattle.rooms.proofs.Calls.{answered-passed, answered-taken}
use Rattle.rooms.proofs.Meaning.{rooms-mean}
use Rattle.rooms.proofs.list_rooms.Goals as goal

pub returns-in_err-asked : goal.returns-in_err-asked
returns-in_err-asked c =
    let stored : Stored c.args.network = search rules in
    let both = rooms-mean _ _ stored _ _ _ (answered-passed _ _ _ _ _ _ _ c.from_residual.ensures.1 c.in_err-asked.ensures.refusal) in
    record { value = both.0; means = both.1 }

pub returns : goal.returns
returns c =
    let stored : Stored c.args.network = search rules in
    let small : c.in_ok-asked.asked.rooms.0 < 2 ^ 64 = search rules in
    let taken = c.take_rooms-count in
    let zeros = c.fill.ensures.after (λ y h. h) in
    let both = rooms-mean _ _ stored _ _ _
    (answered-taken _ _ _ _ _ c.in_ok-asked.ensures small taken.result taken.ensures.taken c.deliver-delivered.ensures zeros) in
    record { value = both.0; means = both.1 }
