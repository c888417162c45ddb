-- For networks that agree, the call that plays a log back answers alike and leaves the same bytes.
-- Assumes accepted networks, in whose edges the log has the same fault.
use mathlib.Core.List.{List}
use mathlib.Core.Path.{◌≡◌}
use Prim.Native.Nat.{ℕ, suc}
use Rattle.sequences.specs.Words.{tabulate}
use Rattle.network.specs.declared.Network.{Network}
use Rattle.network.specs.Record.{Stored, fault_of, present}
use Rattle.graph.proofs.Sound.{accepted-sound}
use Rattle.graph.proofs.Agree.{Agree, severed-agree}
use Rattle.replay.specs.Log.{event_count, down_after, log_fault}
use Rattle.replay.specs.Replay.{byte_of, silent_bytes, replay_refusal, replayed_by, silent_after}

module _ (N M : Network) (stored : Stored N) (stored' : Stored M) (ok : fault_of N ≡ 0) (ok' : fault_of M ≡ 0) (a : Agree N M) (log : List ℕ) where
  -- The same sets sever.
  bytes-agree : silent_bytes N log ≡ silent_bytes M log
  unfolding silent_bytes
  bytes-agree i =
      let S = accepted-sound N stored ok in
      let S' = accepted-sound M stored' ok' in
      tabulate (event_count log) (λ (k : ℕ). byte_of (severed-agree N M a S S' (down_after log (suc k)) i))

  module _ (same : log_fault (present N) log ≡ log_fault (present M) log) (lent : List ℕ) where
    refusal-agrees : replay_refusal N log lent ≡ replay_refusal M log lent
    unfolding replay_refusal
    refusal-agrees = rw (ok, ok', same)

    pub replay-agrees : (replayed_by N log lent ≡ replayed_by M log lent) × (silent_after N log lent ≡ silent_after M log lent)
    unfolding replayed_by silent_after
    replay-agrees = (rw refusal-agrees, rw (refusal-agrees, bytes-agree))
