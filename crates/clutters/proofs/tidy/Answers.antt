-- `tidy` meets its contract: sorted, the sets are sifted.
-- Assumes nothing.
use Rattle.clutters.proofs.Steps.{sorted-ascend, sorted-tidied}
use Rattle.clutters.proofs.tidy.Goals as goal

pub sift-requires : goal.sift-requires
sift-requires c = sorted-ascend _ _ _ c.requires c.sort_sets.ensures

pub returns : goal.returns
returns c = sorted-tidied _ _ _ c.requires c.sort_sets.ensures c.sift.ensures
