-- `text` meets its contract: the bytes copied are those written. Assumes nothing.
use mathlib.Core.Path.{refl}
use Rattle.text.proofs.Written.{sets-copy}
use Rattle.text.proofs.Page.text.Goals as goal

pub returns : goal.returns
returns c = record { same_memory = refl; len = refl; bytes = sets-copy _ _ _ c.copy_from_slice.ensures.after c.requires.within }
