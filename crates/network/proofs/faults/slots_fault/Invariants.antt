-- `faults::slots_fault` meets its contract. The invariant: the first fault of the slots from here on is that of all.
-- Assumes nothing.
use mathlib.Core.Path.{◌≡◌}
use Prim.Native.Nat.{◌-◌}
use Rattle.network.specs.Record.{slots_fault}
use Rattle.network.proofs.faults.slots_fault.Given as goal

abbrev pub invariant-loop-k : goal.invariant-loop-k
invariant-loop-k l = slots_fault l.network l.k (64 - l.k) ≡ slots_fault l.network 0 64
