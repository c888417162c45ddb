-- `join` and `leave_out` meet their contracts. The measure is the number of undecided nodes.
-- Assumes nothing.
use Prim.Native.Nat.{ℕ, ◌≤◌, ◌<◌}
use Rattle.bitset.specs.Members.{size, ◌∈◌}
use Rattle.node_set.specs.Width.{node_width}
use Rattle.network.specs.declared.Network.{Network}
use Rattle.branches.specs.declared.Branch.{Branch}
use Rattle.branches.specs.Enumeration.{leave_out_rows}
use Rattle.enumeration.specs.declared.rows.Rows.{Rows}
use Rattle.enumeration.specs.declared.Tables.{Tables}
use Rattle.enumeration.specs.Tables.{TablesOf}
use Rattle.enumeration.specs.Rows.{Fed, Whole, Same, RowsPut}
use Rattle.enumeration.proofs.+join_leave_out.Given as goal

abbrev pub decreases-join : goal.decreases-join
decreases-join l = size node_width l.b.undecided.0

abbrev pub decreases-leave_out : goal.decreases-leave_out
decreases-leave_out l = size node_width l.b.undecided.0

-- What holds at each turn: w can be decided, and the rows in which w is left out of the branch complete those that are asked for.
pub record Turn (t : Tables) (b : Branch) (v : ℕ) (first : Rows) (next : Branch) (w : ℕ) (rows : Rows) : Type 0 where
  pub low : w < node_width
  pub free : w ∈ next.undecided.0
  pub fewer : size node_width next.undecided.0 ≤ size node_width b.undecided.0
  pub same : Same first rows
  pub goes : (M : Network) → TablesOf M t → Fed M b → Whole M b
      → Fed M next × Whole M next × ((last : Rows) → RowsPut (leave_out_rows M next w) rows last → RowsPut (leave_out_rows M b v) first last)

abbrev pub invariant-leave_out-loop-next : goal.invariant-leave_out-loop-next
invariant-leave_out-loop-next l = Turn l.tables l.initial.next l.initial.w l.initial.rows l.next l.w l.rows

abbrev pub decreases-leave_out-loop-next : goal.decreases-leave_out-loop-next
decreases-leave_out-loop-next l = size node_width l.next.undecided.0
