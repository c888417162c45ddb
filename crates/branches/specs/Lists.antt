-- The complete list of the mincuts of a network (the paper's complete list).
-- Working.
--
--   Lists N l        l rises, and its members are exactly the mincuts of N
use mathlib.Core.List.{List, Memᴰ}
use Rattle.std.specs.Prelude.{◌↔◌, ℕ}
use Rattle.sequences.specs.Rising.{Rising}
use Rattle.network.specs.declared.Network.{Network}
use Rattle.graph.specs.Cuts.{Mincut}

pub record Lists (N : Network) (l : List ℕ) : Type 0 where
  pub rising : Rising l
  pub members : (c : ℕ) → Memᴰ c l ↔ Mincut N c
