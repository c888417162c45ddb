-- Two networks for which the calls answer alike.
-- To believe.
--
--   Alike M N        M has the useful part, the verdicts on N's cables, the widths of rows of these, the list, the lists for several rooms
--                    and the print of N, logs of N's cables play back alike, and works on them silence the same minutes
use Rattle.std.specs.Prelude.{List, ◌≡◌, ℕ}
use Rattle.bitset.specs.Members.{◌⊆◌}
use Rattle.network.specs.declared.Network.{Network}
use Rattle.network.specs.Record.{present}
use Rattle.network.specs.Rules.{RowsPresent}
use Rattle.format.specs.Format.{encode_of}
use Rattle.connectivity.specs.Answers.{relevant_of, verdict_of}
use Rattle.widths.specs.Widths.{widths_of}
use Rattle.listing.specs.List.{listed_by, cut_rows_after, side_rows_after}
use Rattle.rooms.specs.declared.Extent.{Extent}
use Rattle.rooms.specs.Rooms.{rooms_listed_by, rooms_rows_after, work_after}
use Rattle.replay.specs.Log.{event_count, GoodEvents}
use Rattle.replay.specs.Replay.{replayed_by, silent_after}
use Rattle.windows.specs.Windows.{works_fault}
use Rattle.maintenance.specs.Outage.{outage_of}
use Rattle.report.specs.Report.{report_of}

-- The calls that list answer alike and leave the same rows, whatever was lent: count, cuts, sides, work rows and later rows, on refusal too.
pub record Alike (M N : Network) : Type 0 where
  pub part : relevant_of M ≡ relevant_of N
  pub verdicts : (c : ℕ) → c ⊆ present N → verdict_of M c ≡ verdict_of N c
  pub widths : (cuts : List ℕ) → RowsPresent N cuts → widths_of M cuts ≡ widths_of N cuts
  pub list : (cuts sides : List ℕ)
      → (listed_by M cuts sides ≡ listed_by N cuts sides)
      × (cut_rows_after M cuts sides ≡ cut_rows_after N cuts sides)
      × (side_rows_after M cuts sides ≡ side_rows_after N cuts sides)
  pub rooms : (e : Extent) (ts cuts work : List ℕ)
      → (rooms_listed_by e M ts cuts work ≡ rooms_listed_by e N ts cuts work)
      × (rooms_rows_after e M ts cuts work ≡ rooms_rows_after e N ts cuts work)
      × (work_after M ts work ≡ work_after N ts work)
  pub replay : (log lent : List ℕ) → GoodEvents (present N) log (event_count log)
      → (replayed_by M log lent ≡ replayed_by N log lent) × (silent_after M log lent ≡ silent_after N log lent)
  pub outage : (o w : List ℕ) → (works_fault (present N) w ≡ 17 → ⊥) → outage_of M o w ≡ outage_of N o w
  pub printed : report_of (encode_of M) ≡ report_of (encode_of N)
