-- `put` meets its contract: the bytes copied are those written. Assumes nothing.
use mathlib.Core.Path.{◌≡◌, refl}
use native.Mathlib.Omega.{arith}
use lib.ListN.{length}
use borrow.Author.Rules.{rules}
use Rattle.text.proofs.Written.{sets-copy}
use Rattle.text.proofs.Page.put.Goals as goal

pub returns : goal.returns
returns g c =
    let whole : length c.args.bytes ≡ g.row.N = search rules in
    record {
      same_memory = refl;
      len = omega (arith, whole);
      bytes = rw (← whole) (sets-copy _ _ _ c.copy_from_slice.ensures.after c.requires.within);
    }
