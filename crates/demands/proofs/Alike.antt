-- Accepted networks that agree, and of which one has the edges of the other, are answered alike.
-- Assumes what the code's types say of the records.
use mathlib.Core.Bool.{true, false}
use mathlib.Core.List.{List}
use mathlib.Core.Path.{◌≡◌, ap₂}
use Prim.Native.Nat.{ℕ}
use lib.Dec.{ltb}
use lib.ListN.{length}
use Rattle.bitset.specs.Members.{◌∈◌, ◌⊆◌}
use Rattle.network.specs.declared.Network.{Network}
use Rattle.network.specs.Record.{Stored, fault_of, present}
use Rattle.network.specs.Ends.{ends_of}
use Rattle.format.proofs.Writing.{encode-decode}
use Rattle.graph.proofs.Agree.{Agree}
use Rattle.connectivity.proofs.Agree.{part-agrees, verdict-agrees}
use Rattle.widths.proofs.Agree.{widths-agree}
use Rattle.listing.proofs.Agree.{mincuts-agree, source_sides-agree, call-agrees}
use Rattle.rooms.proofs.Agree.{rooms-agree}
use Rattle.replay.proofs.Events.{log-more}
use Rattle.replay.proofs.Agree.{replay-agrees}
use Rattle.windows.proofs.Windows.{works-more}
use Rattle.maintenance.proofs.Agree.{outage-agrees}
use Rattle.text.specs.Text.{refusal_line, list_text, max_rows}
use Rattle.report.specs.Report.{list_report, report_of}
use Rattle.demands.specs.Alike.{Alike}

module _ (M N : Network) (stored' : Stored M) (stored : Stored N) (ok' : fault_of M ≡ 0) (ok : fault_of N ≡ 0) (agree : Agree M N) where
  report-agrees : list_report M ≡ list_report N
  unfolding list_report
  report-agrees =
      ap₂ (λ (l k : List ℕ). elim (ltb max_rows (length l)) [ true ↦ refusal_line 12 | false ↦ list_text l k ])
      (mincuts-agree M N stored' stored ok' ok agree) (source_sides-agree M N stored' stored ok' ok agree)

  -- Where M has as many nodes as N, and its edges, each joining the same pair: agreeing says nothing of loops.
  pub alike : M.nodes ≡ N.nodes → present N ⊆ present M → ((k : ℕ) → k ∈ present N → ends_of M k ≡ ends_of N k) → Alike M N
  unfolding report_of
  alike nodes more same = record {
    part = part-agrees M N stored' stored ok' ok agree;
    verdicts = λ c within. verdict-agrees M N stored' stored ok' ok agree c (λ k m. more k (within k m)) within;
    widths = λ cuts within. widths-agree M N ok' ok same cuts (λ c i k m. more k (within c i k m)) within;
    list = call-agrees M N stored' stored ok' ok agree;
    rooms = rooms-agree M N stored' stored ok' ok nodes agree.source agree.joins;
    replay = λ log lent good. replay-agrees M N stored' stored ok' ok agree log (log-more (present N) log (present M) more good) lent;
    outage = λ o w known. outage-agrees M N stored' stored ok' ok agree o w (works-more (present N) (present M) more w known);
    printed = rw (encode-decode M stored' ok', encode-decode N stored ok) report-agrees;
  }
