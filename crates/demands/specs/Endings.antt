-- How each open call ends (demand 1): with its complete result beside the refusal 0, or with the number of the first fault in the paper's
-- order, its empty result, and lent memory as it was. The cases of a call exclude each other, so each refusal of its own is given exactly
-- if its condition holds and no earlier fault stands. Of plan faults the order is that of their definitions: of a record's `fault_of`, rule
-- after rule, and of a plan's in bytes `decode_of`, command after command; what is said here of bytes is that these alone are read which
-- keep the rules.
-- To believe.
--
--   ReaderEnds s d                   reading the bytes s gives d
--   PartEnds N p                     finding the relevant part of N gives p
--   JudgingEnds N c v                judging the set c in N gives v
--   TotalEnds N c m                  adding up the metres of the set c in N gives m
--   WidthsEnds N cuts a              counting the rows `cuts` of N by width gives a
--   Kept n before after              lent rows or bytes: as many as before, and past the first n what they held
--   ListEnds N cuts sides l cuts' sides'     listing N into rows that held `cuts` and `sides` gives l and leaves cuts' and sides'
--   TrimmedEnds N cuts sides l cuts' sides'  listing N, trimmed already, into such rows gives l and leaves cuts' and sides'
--   RoomsEnds e N ts cuts work l cuts' work'     listing N for the rooms ts, by the extent e, into rows that held `cuts`, with work rows that held
--                                    `work`, gives l and leaves cuts' and work'
--   ReplayEnds N log lent a after    playing the log back for N into bytes that held `lent` gives a and leaves `after`
--   OutageEnds N o w a               counting the silent minutes of N with opening windows o and works windows w gives a
--   SimulationEnds N n f r steps a   drilling N from the start number n on, at the failure setting f and the repair setting r, gives a
--   WriterEnds N lent e after        writing N into a buffer that held `lent` gives e and leaves `after`
--   ReportEnds s t                   for the input s the list program prints t
use mathlib.Core.List.{List, Memᴰ}
use Rattle.std.specs.Prelude.{◌⊎◌, ◌↔◌, ◌≡◌, ℕ, suc, ◌%◌, ◌≤◌, ◌<◌, T, length, get_or, drop, replicate, Result, Err}
use Rattle.sequences.specs.Distinct.{More}
use Rattle.sequences.specs.Rising.{RisingRows}
use Rattle.sequences.specs.Words.{onto}
use Rattle.bitset.specs.Families.{Least}
use Rattle.bitset.specs.Members.{◌∈◌, ◌⊆◌}
use Rattle.network.specs.declared.Network.{Network}
use Rattle.network.specs.Record.{among, Stored, fault_of, present}
use Rattle.network.specs.Rules.{Rules, RowsPresent}
use Rattle.format.specs.Format.{Decoded}
use Rattle.format.specs.Format.{Encoded}
use Rattle.format.specs.Format.{reader_refusals, accept, refuse, decode_of, encode_of}
use Rattle.graph.specs.Cuts.{HoldsMincut, RelevantEdge, RelevantNode, Trimmed, Untrimmed}
use Rattle.graph.specs.Lists.{CompleteList, Outnumber}
use Rattle.connectivity.specs.Answers.{FoundPart}
use Rattle.connectivity.specs.declared.judging.Verdict.{Verdict}
use Rattle.connectivity.specs.Answers.{part_from, Says, numbers_of}
use Rattle.lengths.specs.Lengths.{Measured}
use Rattle.lengths.specs.Lengths.{total_metres}
use Rattle.widths.specs.Widths.{Widths}
use Rattle.widths.specs.Widths.{width_table}
use Rattle.listing.specs.List.{Listed}
use Rattle.rooms.specs.declared.Extent.{Extent}
use Rattle.rooms.specs.Silences.{Silences, Package}
use Rattle.rooms.specs.Rooms.{needs}
use Rattle.replay.specs.Replay.{Replayed}
use Rattle.replay.specs.Log.{event_count, edge_at, down_after, Command, GoodEvents, LogRules}
use Rattle.replay.specs.Replay.{Tells}
use Rattle.maintenance.specs.Outage.{Outage}
use Rattle.sequences.specs.Counts.{Exactly}
use Rattle.windows.specs.Windows.{week, is_open, out_at, opening_count, works_count, Openings, BadWindow, AbsentEdge}
use Rattle.maintenance.specs.Outage.{WindowRules}
use Rattle.simulation.specs.Simulation.{Tallied}
use Rattle.simulation.specs.Steps.{state_after}
use Rattle.simulation.specs.Simulation.{StepsWhere}
use Rattle.text.specs.Text.{refusal_line, list_text, max_rows}

-- A plan within the rules is read; any other bytes are refused with one of the reader's numbers, beside the all-zero record.
pub data ReaderEnds (s : List ℕ) : Decoded → Type 0 where
  read : (N : Network) → Stored N → Rules N → encode_of N ≡ s → ReaderEnds s (accept N)
  refused : (r : ℕ) → 0 < r → T (among reader_refusals r) → ((N : Network) → Stored N → Rules N → encode_of N ≡ s → ⊥) → ReaderEnds s (refuse r)

-- Two sets that hold exactly the relevant nodes and edges; on refusal both empty.
pub data PartEnds (N : Network) : FoundPart → Type 0 where
  found : Rules N → (n e : ℕ) → ((v : ℕ) → (v ∈ n) ↔ RelevantNode N v) → ((k : ℕ) → (k ∈ e) ↔ RelevantEdge N k) → PartEnds N (part_from 0 n e)
  faulty : 0 < fault_of N → PartEnds N (part_from (fault_of N) 0 0)

-- A verdict that is true; 14 for an edge that is not present.
pub data JudgingEnds (N : Network) (c : ℕ) : Result Verdict ℕ → Type 0 where
  judged : (v : Result Verdict ℕ) → Rules N → c ⊆ present N → (numbers_of v).refusal ≡ 0 → Says N c v → JudgingEnds N c v
  faulty : 0 < fault_of N → JudgingEnds N c (Err (fault_of N))
  absent : Rules N → (c ⊆ present N → ⊥) → JudgingEnds N c (Err 14)

-- The sum of the metres; 14 for an edge that is not present. On refusal it is 0.
pub data TotalEnds (N : Network) (c : ℕ) : Measured → Type 0 where
  total : Rules N → c ⊆ present N → TotalEnds N c (record { refusal = 0; metres = total_metres N c })
  faulty : 0 < fault_of N → TotalEnds N c (record { refusal = fault_of N; metres = 0 })
  absent : Rules N → (c ⊆ present N → ⊥) → TotalEnds N c (record { refusal = 14; metres = 0 })

-- The rows by width; 14 for a row with an edge that is not present. On refusal every count is 0.
pub data WidthsEnds (N : Network) (cuts : List ℕ) : Widths → Type 0 where
  counted : Rules N → RowsPresent N cuts → WidthsEnds N cuts (record { refusal = 0; counts = width_table N cuts })
  faulty : 0 < fault_of N → WidthsEnds N cuts (record { refusal = fault_of N; counts = replicate 65 0 })
  absent : Rules N → (RowsPresent N cuts → ⊥) → WidthsEnds N cuts (record { refusal = 14; counts = replicate 65 0 })

pub record Kept (n : ℕ) (before after : List ℕ) : Type 0 where
  pub size : length after ≡ length before
  pub later : drop n after ≡ drop n before

-- The complete list and later rows as they were; 11 for rows that differ in number, then 12 for too many cuts.
pub data ListEnds (N : Network) (cuts sides : List ℕ) : Listed → List ℕ → List ℕ → Type 0 where
  complete : (n : ℕ) (cuts' sides' : List ℕ) → Rules N → length cuts ≡ length sides → (Outnumber N (length cuts) → ⊥)
      → CompleteList N n cuts' sides' → Kept n cuts cuts' → Kept n sides sides'
      → ListEnds N cuts sides (record { refusal = 0; count = n }) cuts' sides'
  faulty : 0 < fault_of N → ListEnds N cuts sides (record { refusal = fault_of N; count = 0 }) cuts sides
  unpaired : Rules N → (length cuts ≡ length sides → ⊥) → ListEnds N cuts sides (record { refusal = 11; count = 0 }) cuts sides
  outnumbered : Rules N → length cuts ≡ length sides → Outnumber N (length cuts)
      → ListEnds N cuts sides (record { refusal = 12; count = 0 }) cuts sides

-- A trimmed network ends as the list call does; any other is refused with 26 before the rows are looked at.
pub data TrimmedEnds (N : Network) (cuts sides : List ℕ) : Listed → List ℕ → List ℕ → Type 0 where
  listed : (l : Listed) (cuts' sides' : List ℕ) → Rules N → Trimmed N → ListEnds N cuts sides l cuts' sides' → TrimmedEnds N cuts sides l cuts' sides'
  faulty : 0 < fault_of N → TrimmedEnds N cuts sides (record { refusal = fault_of N; count = 0 }) cuts sides
  untrimmed : Rules N → Untrimmed N → TrimmedEnds N cuts sides (record { refusal = 26; count = 0 }) cuts sides

-- The least sets that silence the rooms, and later rows as they were; 19 for rooms that are no package, then 20 for a step that needs more
-- work rows than are lent, then 12 for more sets than rows. The work rows are as they were where record or rooms are refused, and else all 0.
pub data RoomsEnds (e : Extent) (N : Network) (ts cuts work : List ℕ) : Listed → List ℕ → List ℕ → Type 0 where
  complete : (n : ℕ) (cuts' : List ℕ) → Rules N → Package N ts → ((k : ℕ) → Memᴰ k (needs e N ts) → k ≤ length work)
      → (More (Least (Silences e N ts)) (length cuts) → ⊥) → RisingRows (Least (Silences e N ts)) n cuts' → Kept n cuts cuts'
      → RoomsEnds e N ts cuts work (record { refusal = 0; count = n }) cuts' (replicate (length work) 0)
  faulty : 0 < fault_of N → RoomsEnds e N ts cuts work (record { refusal = fault_of N; count = 0 }) cuts work
  no-package : Rules N → (Package N ts → ⊥) → RoomsEnds e N ts cuts work (record { refusal = 19; count = 0 }) cuts work
  short : Rules N → Package N ts → (k : ℕ) → Memᴰ k (needs e N ts) → length work < k
      → RoomsEnds e N ts cuts work (record { refusal = 20; count = 0 }) cuts (replicate (length work) 0)
  outnumbered : Rules N → Package N ts → ((k : ℕ) → Memᴰ k (needs e N ts) → k ≤ length work) → More (Least (Silences e N ts)) (length cuts)
      → RoomsEnds e N ts cuts work (record { refusal = 12; count = 0 }) cuts (replicate (length work) 0)

-- For each event whether the room is silent after it, and later bytes as they were; 18 for more whole events than bytes; then the first
-- event that is not good decides, 16 for its command before 17 for its edge, and half an event behind good ones is 16.
pub data ReplayEnds (N : Network) (log lent : List ℕ) : Replayed → List ℕ → Type 0 where
  played : (after : List ℕ) → Rules N → event_count log ≤ length lent → LogRules (present N) log
      → ((i : ℕ) → i < event_count log → Tells N (down_after log (suc i)) (get_or after i 0)) → Kept (event_count log) lent after
      → ReplayEnds N log lent (record { refusal = 0; count = event_count log }) after
  faulty : 0 < fault_of N → ReplayEnds N log lent (record { refusal = fault_of N; count = 0 }) lent
  short : Rules N → length lent < event_count log → ReplayEnds N log lent (record { refusal = 18; count = 0 }) lent
  unknown : Rules N → event_count log ≤ length lent → (i : ℕ) → i < event_count log → GoodEvents (present N) log i → (Command log i → ⊥)
      → ReplayEnds N log lent (record { refusal = 16; count = 0 }) lent
  absent : Rules N → event_count log ≤ length lent → (i : ℕ) → i < event_count log → GoodEvents (present N) log i → Command log i
      → (edge_at log i ∈ present N → ⊥) → ReplayEnds N log lent (record { refusal = 17; count = 0 }) lent
  half : Rules N → event_count log ≤ length lent → GoodEvents (present N) log (event_count log) → (length log % 2 ≡ 0 → ⊥)
      → ReplayEnds N log lent (record { refusal = 16; count = 0 }) lent

-- The open minutes in which the edges out hold a minimal cut; 23 for too many windows of either kind; then the first window that is
-- against the rules decides, opening windows before works windows, and of a works window 24 before 17. On refusal the minutes are 0.
pub data OutageEnds (N : Network) (o w : List ℕ) : Outage → Type 0 where
  counted : (n : ℕ) → Rules N → WindowRules (present N) o w → Exactly week (λ m. T (is_open o m) × HoldsMincut N (out_at w m)) n
      → OutageEnds N o w (record { refusal = 0; minutes = n })
  faulty : 0 < fault_of N → OutageEnds N o w (record { refusal = fault_of N; minutes = 0 })
  many : Rules N → (14 < opening_count o) ⊎ (16 < works_count w) → OutageEnds N o w (record { refusal = 23; minutes = 0 })
  bad-opening : Rules N → opening_count o ≤ 14 → works_count w ≤ 16 → (Openings o → ⊥) → OutageEnds N o w (record { refusal = 24; minutes = 0 })
  bad-works : Rules N → opening_count o ≤ 14 → works_count w ≤ 16 → Openings o → BadWindow (present N) w
      → OutageEnds N o w (record { refusal = 24; minutes = 0 })
  absent : Rules N → opening_count o ≤ 14 → works_count w ≤ 16 → Openings o → AbsentEdge (present N) w
      → OutageEnds N o w (record { refusal = 17; minutes = 0 })

-- The steps that end with a minimal cut wholly down, and the last number; 25 for too many steps. On refusal both are 0.
pub data SimulationEnds (N : Network) (n f r steps : ℕ) : Tallied → Type 0 where
  counted : (k : ℕ) → Rules N → steps ≤ 65535 → StepsWhere N n f r steps (HoldsMincut N) k
      → SimulationEnds N n f r steps (record { refusal = 0; silent = k; number = (state_after (present N) n f r steps).number })
  faulty : 0 < fault_of N → SimulationEnds N n f r steps (record { refusal = fault_of N; silent = 0; number = 0 })
  many : Rules N → 65535 < steps → SimulationEnds N n f r steps (record { refusal = 25; silent = 0; number = 0 })

-- The plan's bytes and later bytes as they were; 15 for a buffer that is too short.
pub data WriterEnds (N : Network) (lent : List ℕ) : Encoded → List ℕ → Type 0 where
  written : Rules N → length (encode_of N) ≤ length lent
      → WriterEnds N lent (record { refusal = 0; count = length (encode_of N) }) (onto (encode_of N) lent)
  faulty : 0 < fault_of N → WriterEnds N lent (record { refusal = fault_of N; count = 0 }) lent
  short : Rules N → length lent < length (encode_of N) → WriterEnds N lent (record { refusal = 15; count = 0 }) lent

-- The list of the record read, or the line of the refusal: the reader's, or 12 for more minimal cuts than the program lends rows.
pub data ReportEnds (s : List ℕ) : List ℕ → Type 0 where
  listed : (cuts sides : List ℕ) → (decode_of s).refusal ≡ 0 → length sides ≡ length cuts → CompleteList (decode_of s).network (length cuts) cuts sides
      → ReportEnds s (list_text cuts sides)
  unread : 0 < (decode_of s).refusal → ReportEnds s (refusal_line (decode_of s).refusal)
  outnumbered : (decode_of s).refusal ≡ 0 → Outnumber (decode_of s).network max_rows → ReportEnds s (refusal_line 12)
