-- `adjacent_to` meets its contract. The invariant: what is adjacent to the nodes before is gathered.
-- Assumes nothing.
use mathlib.Core.List.{List}
use Prim.Native.Nat.{ℕ, ◌%◌, ◌^◌}
use lib.ListN.{get_or}
use Rattle.bitset.specs.Members.{◌∈◌}
use Rattle.bitset.proofs.Scans.{Gathered}
use Rattle.node_set.specs.Width.{node_width}
use Rattle.spread.proofs.adjacent_to.Given as goal

-- With the node v come the nodes of its row.
abbrev pub Row : List ℕ → ℕ → ℕ → Type 0
Row adjacent v w = w ∈ get_or adjacent v 0

abbrev pub invariant-loop-v : goal.invariant-loop-v
invariant-loop-v l =
    (goal.iterator-loop-v).can_next l.v-iterator × (goal.iterator-loop-v).is_finite l.v-iterator
    × Gathered (Row l.adjacent) l.initial.beside.0 l.fn.nodes.0 (l.v-iterator.left % 2 ^ node_width) l.beside.0
