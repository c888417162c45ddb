-- The rooms that a call can take.
-- Working.
--
--   Rooms N s                the network N is accepted, and s are some of its points, the server not among them
use Rattle.std.specs.Prelude.{◌≡◌, ℕ, ◌<◌}
use Rattle.bitset.specs.Members.{◌∈◌}
use Rattle.network.specs.declared.Network.{Network}
use Rattle.network.specs.Record.{fault_of}

pub record Rooms (N : Network) (s : ℕ) : Type 0 where
  pub accepted : fault_of N ≡ 0
  pub some : s ≡ 0 → ⊥
  pub points : (t : ℕ) → t ∈ s → t < N.nodes
  pub others : (t : ℕ) → t ∈ s → t ≡ N.source → ⊥
