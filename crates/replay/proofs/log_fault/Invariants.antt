-- `log_fault` meets its contract. The invariant: the first fault of the events from here on is that of all.
-- Assumes nothing.
use mathlib.Core.Path.{◌≡◌}
use Prim.Native.Nat.{◌-◌}
use Rattle.replay.specs.Log.{event_count, events_fault}
use Rattle.replay.proofs.log_fault.Given as goal

abbrev pub invariant-loop-i : goal.invariant-loop-i
invariant-loop-i l =
    events_fault l.present.0 l.log l.i (event_count l.log - l.i) ≡ events_fault l.present.0 l.log 0 (event_count l.log)
