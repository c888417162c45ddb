-- `numbers` meets its contract. The loop's invariant: the numbers that are still to come are left to be written.
-- Assumes nothing.
use Rattle.bitset.specs.Members.{members}
use Rattle.text.specs.Text.{spaced, numbers}
use Rattle.text.proofs.Written.{Left}
use Rattle.text.proofs.Page.numbers.Given as goal

abbrev pub invariant-loop-k : goal.invariant-loop-k
invariant-loop-k g l =
    Left l.fn.self (numbers (members 64 (g.S.BitSet.number l.fn.set))) l.self (spaced (members 64 l.k-iterator.left))
