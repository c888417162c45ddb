-- `is_open` meets its contract: the common members are the intersection.
-- Assumes nothing.
use mathlib.Core.Path.{ap, ◌∙◌}
use Prim.Native.Nat.{ℕ}
use lib.Dec.{eqb}
use Rattle.bitset.proofs.Results.{intersection-and}
use Rattle.branches.proofs.Branch.is_open.Goals as goal

pub returns : goal.returns
returns c = c.eq.ensures ∙ ap (λ (x : ℕ). eqb x c.args.self.out.0) (intersection-and _ _ _ c.intersection-common.ensures)
