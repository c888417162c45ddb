-- `led` meets its contract.
-- Assumes nothing.
use Rattle.bitset.proofs.Results.{in-intersection, meets-test}
use Rattle.twins.proofs.led.Goals as goal

pub returns : goal.returns
returns c = meets-test _ _ _ (in-intersection _ _ _ c.intersection.ensures) c.is_empty.ensures
