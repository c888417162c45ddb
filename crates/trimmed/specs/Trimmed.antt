-- The refusal of a network that was to be trimmed already.
-- To believe.
--
--   trimmed_fault N  the record's first fault, then 26 unless every node and every present edge is relevant, 0 if there is none
use Rattle.std.specs.Prelude.{not, ℕ}
use Rattle.network.specs.declared.Network.{Network}
use Rattle.network.specs.Record.{◌when◌, ◌then◌, fault_of}
use Rattle.graph.specs.Relevant.{trimmed}

-- 26: some point or present cable is not useful
unfoldable pub trimmed_fault : Network → ℕ
trimmed_fault N = fault_of N then 26 when not (trimmed N)
