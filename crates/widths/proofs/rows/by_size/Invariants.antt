-- `rows::by_size` meets its contract. The invariant: the rows passed are counted, and their edges are gathered. Assumes nothing.
use mathlib.Core.List.{List, map}
use mathlib.Core.Path.{◌≡◌}
use Prim.Native.Nat.{ℕ, ◌*◌}
use lib.ListN.{take}
use Rattle.sequences.specs.Counts.{tally}
use Rattle.bitset.specs.Members.{size}
use Rattle.widths.specs.Counting.{EdgesOf}
use Rattle.widths.proofs.rows.by_size.Given as goal

-- What holds at each turn.
pub record Turn (rows counts : List ℕ) (edges i : ℕ) : Type 0 where
  pub counted : counts ≡ tally 65 (map (size 64) (take (2 * i) rows))
  pub gathered : EdgesOf (take (2 * i) rows) edges

abbrev pub invariant-loop-pair : goal.invariant-loop-pair
invariant-loop-pair l = Turn l.rows l.counts l.edges.0 l.pair-index
