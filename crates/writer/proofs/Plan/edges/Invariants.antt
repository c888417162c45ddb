-- `edges` meets its contract. The invariant: the plan is written up to here, and what is left are the commands of the edges left.
-- Assumes nothing.
use mathlib.Core.Path.{◌≡◌}
use Rattle.network.specs.declared.Network.{Network}
use Prim.Native.Nat.{ℕ}
use lib.ListN.{drop}
use Rattle.format.specs.Format.{encode_of, WrittenTo}
use Rattle.format.proofs.Commands.{left}
use Rattle.writer.specs.declared.Plan.{Plan}
use Rattle.writer.proofs.Plan.edges.Given as goal

-- What holds at each turn.
pub record Turn (network : Network) (p q : Plan) (edges : ℕ) : Type 0 where
  pub same_memory : q.bytes.ghost_name ≡ p.bytes.ghost_name
  -- The plan is written up to here,
  pub written : WrittenTo (encode_of network) p.bytes.now q.len q.bytes.now
  -- and the commands of the edges left are left.
  pub rest : drop q.len (encode_of network) ≡ left network edges

abbrev pub invariant-loop-edge : goal.invariant-loop-edge
invariant-loop-edge l =
    (goal.iterator-loop-edge).can_next l.edge-iterator × (goal.iterator-loop-edge).is_finite l.edge-iterator
    × Turn l.network l.fn.self l.self l.edge-iterator.left
