-- `put` meets its contract: a part of the buffer is written over, which is to store the bytes one after the other.
-- Assumes nothing.
use mathlib.Core.Path.{◌≡◌, refl}
use native.Mathlib.Omega.{arith}
use lib.ListN.{length}
use borrow.Author.Rules.{rules}
use Rattle.writer.proofs.Encoding.{put-part}
use Rattle.writer.proofs.Plan.put.Goals as goal

pub returns : goal.returns
returns g c =
    let whole : length c.args.bytes ≡ g.row.N = search rules in
    record {
      same_memory = refl;
      len = omega (arith, whole);
      bytes = put-part _ _ _ _ _ whole (omega (arith, whole, c.requires.within)) c.copy_from_slice.ensures.after;
    }
