-- `after_draws` meets its contract: each operation on sets is the definition's.
-- Assumes nothing.
use mathlib.Core.Path.{ap₂, ◌∙◌}
use lib.Bits.{bit_or}
use Rattle.bitset.proofs.Results.{difference-minus, union-or}
use Rattle.simulation.proofs.after_draws.Goals as goal

pub returns : goal.returns
returns c = union-or _ _ _ c.union.ensures
    ∙ ap₂ bit_or (difference-minus _ _ _ c.difference.ensures) (difference-minus _ _ _ c.difference-2.ensures)
