-- For networks that agree, the call that counts silent minutes answers alike.
-- Assumes accepted networks, in whose edges the works windows have the same fault.
use mathlib.Core.Bool.{◌&&◌}
use mathlib.Core.List.{List}
use mathlib.Core.Path.{◌≡◌}
use Prim.Native.Nat.{ℕ}
use Rattle.sequences.specs.Words.{range}
use Rattle.sequences.specs.Counts.{count_if}
use Rattle.network.specs.declared.Network.{Network}
use Rattle.network.specs.Record.{Stored, fault_of, present}
use Rattle.graph.proofs.Sound.{accepted-sound}
use Rattle.graph.proofs.Agree.{Agree, severed-agree}
use Rattle.windows.specs.Windows.{week, is_open, out_at, works_fault}
use Rattle.maintenance.specs.Outage.{silent_minute, silent_minutes, outage_refusal, outage_of}

module _ (N M : Network) (stored : Stored N) (stored' : Stored M) (ok : fault_of N ≡ 0) (ok' : fault_of M ≡ 0) (a : Agree N M) (o w : List ℕ) where
  -- The same sets sever.
  minutes-agree : silent_minutes N o w ≡ silent_minutes M o w
  unfolding silent_minutes silent_minute
  minutes-agree i =
      let S = accepted-sound N stored ok in
      let S' = accepted-sound M stored' ok' in
      count_if (λ (m : ℕ). is_open o m && severed-agree N M a S S' (out_at w m) i) (range 0 week)

  module _ (same : works_fault (present N) w ≡ works_fault (present M) w) where
    refusal-agrees : outage_refusal N o w ≡ outage_refusal M o w
    unfolding outage_refusal
    refusal-agrees = rw (ok, ok', same)

    pub outage-agrees : outage_of N o w ≡ outage_of M o w
    unfolding outage_of
    outage-agrees = rw (refusal-agrees, minutes-agree)
