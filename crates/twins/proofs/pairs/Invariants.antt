-- `pairs` meets its contract. The invariant: the slots before k hold their pairs. Assumes nothing.
use mathlib.Core.List.{List}
use mathlib.Core.Path.{◌≡◌}
use Prim.Native.Nat.{ℕ, ◌<◌}
use lib.ListN.{length, get_or}
use Rattle.network.specs.declared.Network.{Network}
use Rattle.network.specs.Ends.{ends_of}
use Rattle.twins.proofs.pairs.Given as goal

-- What holds at each turn.
pub record Turn (network : Network) (pairs : List ℕ) (k : ℕ) : Type 0 where
  pub size : length pairs ≡ 64
  pub filled : (j : ℕ) → j < k → get_or pairs j 0 ≡ ends_of network j

abbrev pub invariant-loop-k : goal.invariant-loop-k
invariant-loop-k l = Turn l.network l.pairs l.k
