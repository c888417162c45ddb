-- `reach` meets its contract. The invariant: the spread has to be reached, and beyond what is fresh nothing is missing.
-- The measure is how far the set is from the largest word: a round that finds a node makes it a larger number. Assumes nothing.
use mathlib.Core.List.{List}
use Prim.Native.Nat.{ℕ, ◌-◌, ◌^◌, ◌<◌}
use Rattle.node_set.specs.Width.{node_width}
use Rattle.spread.proofs.Rounds.{Spread}
use Rattle.spread.proofs.reach.Given as goal

-- What holds at each turn: the set is a word, and the search has spread that far.
pub record Turn (adjacent : List ℕ) (within start spread fresh : ℕ) : Type 0 where
  pub word : spread < 2 ^ node_width
  pub inside : Spread adjacent within start spread fresh

abbrev pub invariant-loop-within : goal.invariant-loop-within
invariant-loop-within l = Turn l.adjacent l.within.0 l.initial.spread.0 l.spread.0 l.fresh.0

abbrev pub decreases-loop-within : goal.decreases-loop-within
decreases-loop-within l = 2 ^ node_width - l.spread.0
