-- The customer's three demands, as statements about the calls. What a call answers and leaves is what its contract says: `decode_of`,
-- `fault_of`, `relevant_of`, `verdict_of`, `total_of`, `widths_of`, `outage_of`, `simulated_by`, `listed_by`, `trimmed_listed_by` and `rooms_listed_by` with
-- the rows afterwards, `replayed_by` and `encoded_by` with the bytes afterwards, and `report_of` of the program. What the types of the code say of
-- any record, `Stored N`, is in the contract of every call that takes one, and what they say of any bytes, `Bytes s`, in that of the reader.
-- To believe.
--
--   DemandOne        every call ends with the complete result or with the refusal that its own condition calls for
--   DemandTwo        the list holds exactly the minimal cuts, each beside its near side; writing and reading give back what they were given
--   DemandThree      two complete lists are equal exactly if the two plans have the same routes
use Rattle.std.specs.Prelude.{List, ◌++◌, ◌↔◌, ◌≡◌, ℕ, ◌≤◌, length, take, drop}
use Rattle.network.specs.declared.Network.{Network}
use Rattle.network.specs.Record.{Stored, fault_of}
use Rattle.network.specs.Rules.{Rules}
use Rattle.format.specs.Format.{Bytes, accept, decode_of, encode_of, encoded_by, bytes_after}
use Rattle.graph.specs.Paths.{SameMinpaths}
use Rattle.graph.specs.Lists.{CompleteList, SameList, Outnumber}
use Rattle.connectivity.specs.Answers.{relevant_of, verdict_of}
use Rattle.lengths.specs.Lengths.{total_of}
use Rattle.widths.specs.Widths.{widths_of}
use Rattle.listing.specs.List.{listed_by, cut_rows_after, side_rows_after}
use Rattle.listing.specs.Trimmed.{trimmed_listed_by, trimmed_cut_rows, trimmed_side_rows}
use Rattle.rooms.specs.declared.Extent.{Extent}
use Rattle.rooms.specs.Rooms.{rooms_listed_by, rooms_rows_after, work_after}
use Rattle.replay.specs.Replay.{replayed_by, silent_after}
use Rattle.maintenance.specs.Outage.{outage_of}
use Rattle.simulation.specs.Simulation.{simulated_by}
use Rattle.report.specs.Report.{report_of}
use Rattle.demands.specs.Endings.{ReaderEnds, PartEnds, JudgingEnds, TotalEnds, WidthsEnds, ListEnds, TrimmedEnds, RoomsEnds, ReplayEnds, OutageEnds, SimulationEnds, WriterEnds, ReportEnds}

pub record DemandOne : Type 0 where
  -- The record test finds no fault exactly if the record keeps the rules.
  pub test : (N : Network) → (fault_of N ≡ 0) ↔ Rules N
  -- A plan within the rules is read.
  pub read : (N : Network) → Stored N → Rules N → decode_of (encode_of N) ≡ accept N
  pub reader : (s : List ℕ) → Bytes s → ReaderEnds s (decode_of s)
  pub part : (N : Network) → Stored N → PartEnds N (relevant_of N)
  pub judging : (N : Network) → Stored N → (c : ℕ) → JudgingEnds N c (verdict_of N c)
  pub total : (N : Network) (c : ℕ) → TotalEnds N c (total_of N c)
  pub widths : (N : Network) (cuts : List ℕ) → WidthsEnds N cuts (widths_of N cuts)
  pub list : (N : Network) → Stored N → (cuts sides : List ℕ)
      → ListEnds N cuts sides (listed_by N cuts sides) (cut_rows_after N cuts sides) (side_rows_after N cuts sides)
  -- "Too many cuts" exactly if no earlier fault stands and the mincuts outnumber the rows lent.
  pub too_many : (N : Network) → Stored N → (cuts sides : List ℕ)
      → ((listed_by N cuts sides).refusal ≡ 12) ↔ ((fault_of N ≡ 0) × (length cuts ≡ length sides) × Outnumber N (length cuts))
  pub trimmed : (N : Network) → Stored N → (cuts sides : List ℕ)
      → TrimmedEnds N cuts sides (trimmed_listed_by N cuts sides) (trimmed_cut_rows N cuts sides) (trimmed_side_rows N cuts sides)
  pub rooms : (e : Extent) (N : Network) → Stored N → (ts cuts work : List ℕ)
      → RoomsEnds e N ts cuts work (rooms_listed_by e N ts cuts work) (rooms_rows_after e N ts cuts work) (work_after N ts work)
  pub replay : (N : Network) → Stored N → (log lent : List ℕ) → ReplayEnds N log lent (replayed_by N log lent) (silent_after N log lent)
  pub outage : (N : Network) → Stored N → (o w : List ℕ) → OutageEnds N o w (outage_of N o w)
  pub simulation : (N : Network) → Stored N → (n f r steps : ℕ) → SimulationEnds N n f r steps (simulated_by N n f r steps)
  pub writer : (N : Network) → Stored N → (lent : List ℕ) → WriterEnds N lent (encoded_by N lent) (bytes_after N lent)
  pub program : (s : List ℕ) → ReportEnds s (report_of s)

pub record DemandTwo : Type 0 where
  pub list : (N : Network) → Stored N → (cuts sides : List ℕ) → (listed_by N cuts sides).refusal ≡ 0
      → CompleteList N (listed_by N cuts sides).count (cut_rows_after N cuts sides) (side_rows_after N cuts sides)
  -- The list of a plan in bytes that was accepted is that of the record read.
  pub list-bytes : (s : List ℕ) → (decode_of s).refusal ≡ 0 → (cuts sides : List ℕ) → (listed_by (decode_of s).network cuts sides).refusal ≡ 0
      → CompleteList (decode_of s).network (listed_by (decode_of s).network cuts sides).count
      (cut_rows_after (decode_of s).network cuts sides) (side_rows_after (decode_of s).network cuts sides)
  -- What the write call left reads back as the record.
  pub reads-back : (N : Network) → Stored N → (lent : List ℕ) → (encoded_by N lent).refusal ≡ 0
      → decode_of (take (encoded_by N lent).count (bytes_after N lent)) ≡ accept N
  -- Accepted bytes, written again into any buffer with room, stand there unchanged, with what followed kept.
  pub writes_again : (s : List ℕ) → Bytes s → (decode_of s).refusal ≡ 0 → (lent : List ℕ) → length s ≤ length lent
      → (encoded_by (decode_of s).network lent ≡ record { refusal = 0; count = length s })
      × (bytes_after (decode_of s).network lent ≡ s ++ drop (length s) lent)

-- Of any two list calls that came out complete, whatever rows were lent for either and whatever these held.
pub record DemandThree : Type 0 where
  pub lists : (N M : Network) → Stored N → Stored M → (cuts sides cuts' sides' : List ℕ)
      → (listed_by N cuts sides).refusal ≡ 0 → (listed_by M cuts' sides').refusal ≡ 0
      → SameList (listed_by N cuts sides).count (cut_rows_after N cuts sides) (listed_by M cuts' sides').count (cut_rows_after M cuts' sides')
      ↔ SameMinpaths N M
  -- The same of plans in bytes that the reader accepted: their lists are those of the records read.
  pub lists-bytes : (s t : List ℕ) → (decode_of s).refusal ≡ 0 → (decode_of t).refusal ≡ 0 → (cuts sides cuts' sides' : List ℕ)
      → (listed_by (decode_of s).network cuts sides).refusal ≡ 0 → (listed_by (decode_of t).network cuts' sides').refusal ≡ 0
      → SameList (listed_by (decode_of s).network cuts sides).count (cut_rows_after (decode_of s).network cuts sides)
      (listed_by (decode_of t).network cuts' sides').count (cut_rows_after (decode_of t).network cuts' sides')
      ↔ SameMinpaths (decode_of s).network (decode_of t).network
