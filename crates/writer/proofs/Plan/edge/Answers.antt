-- `edge` meets its contract: the four bytes of its own command, and then its length.
-- Assumes nothing.
use mathlib.Core.List.{[], ◌∷◌}
use native.Mathlib.Omega.{arith}
use Rattle.network.specs.Record.{first_end, second_end, metres_of}
use Rattle.format.specs.Format.{length_command}
use Rattle.writer.proofs.Written.{room-front, room-after, appended-length, appended-bytes}
use Rattle.writer.proofs.Plan.edge.Goals as goal

pub put-requires : goal.put-requires
put-requires c =
    let N = c.args.network.now in
    let k = c.args.edge in
    let front = room-front {c = 0x43 ∷ k ∷ first_end N k ∷ second_end N k ∷ []} (length_command k (metres_of N k)) c.requires.room in
    (omega arith, record { within = front.within })

-- Whatever the bytes of the command are: that they are the right ones is told by `returns` alone.
pub length-requires : goal.length-requires
length-requires c =
    let N = c.args.network.now in
    let k = c.args.edge in
    room-after (0x43 ∷ k ∷ first_end N k ∷ second_end N k ∷ []) (length_command k (metres_of N k)) c.requires.room c.put.ensures.len (appended-length c.put.ensures)

pub returns : goal.returns
returns c = appended-bytes c.put.ensures c.length.ensures
