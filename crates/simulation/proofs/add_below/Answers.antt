-- `add_below` meets its contract: to join the bit of the test is to insert the edge if the test is passed.
-- Assumes nothing.
use mathlib.Core.Path.{◌∙◌}
use Rattle.bitset.proofs.Results.{union-or}
use Rattle.bitset.proofs.Words.{or-add_if}
use Rattle.simulation.proofs.add_below.Goals as goal

pub returns : goal.returns
returns c = union-or _ _ _ c.union.ensures ∙ or-add_if 64 _ _ _ c.requires
