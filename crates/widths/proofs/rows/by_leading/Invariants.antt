-- `rows::by_leading` meets its contract. The invariant: the rows passed are counted by what was found for each, which is its width if no
-- row holds an edge that is not present; and their edges are gathered. Assumes nothing.
use mathlib.Core.List.{List, map}
use mathlib.Core.Path.{◌≡◌}
use Prim.Native.Nat.{ℕ}
use lib.ListN.{length, take}
use Rattle.sequences.specs.Counts.{tally}
use Rattle.network.specs.declared.Network.{Network}
use Rattle.network.specs.Rules.{RowsPresent}
use Rattle.twins.specs.Twins.{LowerTwins, Alone}
use Rattle.widths.specs.Counting.{EdgesOf}
use Rattle.widths.specs.Widths.{width_of}
use Rattle.widths.proofs.rows.by_leading.Given as goal

-- What holds at each turn.
pub record Turn (lower : List ℕ) (alone : ℕ) (rows counts : List ℕ) (edges i : ℕ) : Type 0 where
  pub found : List ℕ
  pub many : length found ≡ i
  pub counted : counts ≡ tally 65 found
  pub right : (N : Network) → LowerTwins N lower → Alone N lower alone → RowsPresent N rows → found ≡ map (width_of N) (take i rows)
  pub gathered : EdgesOf (take i rows) edges

abbrev pub invariant-loop-row : goal.invariant-loop-row
invariant-loop-row l = Turn l.lower l.alone.0 l.rows l.counts l.edges.0 l.row-index
