-- Demand 1: every call ends with the complete result or with the named refusal that its own condition calls for.
-- Assumes what the code's types say of the records.
use Rattle.std.specs.Prelude.{Result, Ok, Err}
use mathlib.Core.Path.{◌≡◌, refl, sym, ap, subst, ◌∙◌}
use mathlib.Core.Bool.{Bool, true, false}
use mathlib.Core.List.{List}
use mathlib.Core.Logic.{◌⊎◌, inl, inr, ◌↔◌}
use Prim.Native.Nat.{ℕ, ◌≤◌, ◌<◌}
use native.Mathlib.Decide.{ℕ_discrete, dec_lt}
use native.Mathlib.Omega.{arith}
use borrow.Author.Tests.{lt-ltb, le-ltb}
use lib.Bits.{bit_and}
use lib.ListN.{length, length-map}
use Rattle.sequences.specs.Words.{onto}
use Rattle.sequences.proofs.Words.{drop-onto, length-onto}
use Rattle.bitset.specs.Members.{◌⊆◌}
use Rattle.bitset.proofs.Subsets.{subset-and}
use Rattle.network.specs.declared.Network.{Network}
use Rattle.network.specs.Record.{Stored, fault_of, rows_fault, present}
use Rattle.network.specs.Rules.{Rules, RowsPresent}
use Rattle.network.proofs.Refusals.{none_then, some_then, some-when, none-when, refused_none, refused-some}
use Rattle.network.proofs.Rules.{fault-rules}
use Rattle.network.proofs.Sets.{set-record, set-absent, set-none, rows-record, rows-absent, rows_none, rows_ok}
use Rattle.format.specs.Format.{Encoded}
use Rattle.format.specs.Format.{Bytes, accept, refuse, decode_of, encode_of, encode_refusal, encoded_by, bytes_after}
use Rattle.format.proofs.Reading.{accepts, decode-plan, decode-answer}
use Rattle.format.proofs.Writing.{encode-decode}
use Rattle.writer.proofs.Encoding.{Answered as Written, encode-refused, encode-written}
use Rattle.graph.specs.Lists.{Outnumber}
use Rattle.graph.specs.Relevant.{relevant_nodes, relevant_edges, trimmed, source_side_of}
use Rattle.graph.proofs.Sound.{Sound, accepted-sound}
use Rattle.graph.proofs.Relevant.{in-relevant_nodes, in-relevant_edges}
use Rattle.graph.proofs.Trimmed.{trimmed-iff, untrimmed-iff}
use Rattle.connectivity.specs.declared.judging.Verdict.{Verdict}
use Rattle.connectivity.specs.declared.judging.Verdict.TheVariants.{NotCut, NotMinimal, Minimal}
use Rattle.connectivity.specs.Answers.{relevant_of, verdict_of, Says, numbers_of}
use Rattle.connectivity.proofs.Answers.{part-refused, part-accepted, verdict-refused, verdict-right}
use Rattle.lengths.specs.Lengths.{total_of}
use Rattle.lengths.proofs.Totals.{total-refused, total-given}
use Rattle.widths.specs.Widths.{widths_of}
use Rattle.widths.proofs.Answers.{widths-refused, widths-given}
use Rattle.trimmed.specs.Trimmed.{trimmed_fault}
use Rattle.trimmed.proofs.Faults.{trimmed-faulty, trimmed-refused, trimmed-none}
use Rattle.listing.specs.List.{Listed}
use Rattle.listing.specs.List.{mincuts, source_sides, listed_by, cut_rows_after, side_rows_after}
use Rattle.listing.specs.Trimmed.{trimmed_listed_by, trimmed_cut_rows, trimmed_side_rows}
use Rattle.listing.proofs.Refusals.{Case, faulty, unpaired, outnumbered, complete, call-case, refusal-none}
use Rattle.listing.proofs.Call.{Answered, answered-faulty, answered-unpaired, answered-outnumbered, answer-refusal, complete-call}
use Rattle.listing.proofs.Meaning.{mincuts-complete, outnumber-iff, call-complete, call-outnumbered}
use Rattle.listing.proofs.Rows.{mincuts-count}
use Rattle.listing.proofs.Trimmed.{TrimmedAnswered, trimmed-answered-refused, trimmed-answered}
use Rattle.replay.specs.Replay.{Replayed}
use Rattle.replay.specs.Log.{event_count}
use Rattle.replay.specs.Replay.{replay_refusal, replayed_by, silent_after}
use Rattle.replay.proofs.Events.{LogCase, good, unknown, absent, half, log-case}
use Rattle.replay.proofs.Meaning.{Answered as Played, replay-refused, replay-played, refusal-faulty, refusal-short, refusal-log, replay-means}
use Rattle.maintenance.specs.Outage.{Outage}
use Rattle.windows.specs.Windows.{opening_count, works_count, Openings}
use Rattle.maintenance.specs.Outage.{too_many, outage_refusal, outage_of}
use Rattle.windows.proofs.Windows.{WorksCase, openings-case, works-case}
use Rattle.maintenance.proofs.Meaning.{few, outage-refused, outage-counted, outage-none, outage-means, refusal-many, refusal-openings, refusal-works}
use Rattle.maintenance.proofs.Meaning as outages
use Rattle.simulation.specs.Simulation.{Tallied}
use Rattle.simulation.specs.Steps.{state_after}
use Rattle.simulation.specs.Simulation.{silent_steps, simulated_by}
use Rattle.simulation.proofs.Meaning as drills
use Rattle.text.specs.Text.{refusal_line, max_rows}
use Rattle.report.specs.Report.{list_report, report_of}
use Rattle.report.proofs.Reports.{report-outnumbered, report-complete}
use Rattle.demands.specs.Endings.{ReaderEnds, PartEnds, JudgingEnds, TotalEnds, WidthsEnds, Kept, ListEnds, TrimmedEnds, ReplayEnds, OutageEnds, SimulationEnds, WriterEnds, ReportEnds}
use Rattle.demands.proofs.Rooms.{rooms-end}
use Rattle.demands.specs.Demands.{DemandOne}

-- A record without a fault keeps the rules.
rules : (N : Network) → fault_of N ≡ 0 → Rules N
rules N = (fault-rules N).0

-- A fault that is not 0 is above it.
some : {r : ℕ} → (r ≡ 0 → ⊥) → 0 < r
some f = omega arith

-- ---- reading

-- A plan within the rules is read.
read : (N : Network) → Stored N → Rules N → decode_of (encode_of N) ≡ accept N
read N stored r = encode-decode N stored ((fault-rules N).1 r)

reader : (s : List ℕ) → Bytes s → ReaderEnds s (decode_of s)
reader s given = go (ℕ_discrete (decode_of s).refusal 0)
  where
    go : Dec ((decode_of s).refusal ≡ 0) → ReaderEnds s (decode_of s)
    go (yes e) =
        let N : Network = (decode_of s).network in
        let plan = decode-plan s N (accepts s e) in
        subst (ReaderEnds s) (sym (accepts s e)) (ReaderEnds.read N plan.stored (rules N plan.accepted) (plan.bytes given))
    go (no f) =
        let answer = decode-answer s in
        let outside : (N : Network) → Stored N → Rules N → encode_of N ≡ s → ⊥ = λ N stored r e. f (ap (λ d. d.refusal) (rw e at (read N stored r))) in
        let zeroed : decode_of s ≡ refuse (decode_of s).refusal = λ i. record { refusal = (decode_of s).refusal; network = answer.zeroed f i } in
        subst (ReaderEnds s) (sym zeroed) (ReaderEnds.refused (decode_of s).refusal (some f) answer.number outside)

-- ---- the relevant part

part : (N : Network) → Stored N → PartEnds N (relevant_of N)
part N stored = go (ℕ_discrete (fault_of N) 0)
  where
    go : Dec (fault_of N ≡ 0) → PartEnds N (relevant_of N)
    go (yes ok) =
        let S = accepted-sound N stored ok in
        subst (PartEnds N) (part-accepted N (relevant_nodes N) (relevant_edges N) ok refl refl)
        (PartEnds.found (rules N ok) (relevant_nodes N) (relevant_edges N) (in-relevant_nodes N S) (in-relevant_edges N S))
    go (no f) = subst (PartEnds N) (part-refused N (fault_of N) refl f) (PartEnds.faulty (some f))

-- ---- judging

judging : (N : Network) → Stored N → (c : ℕ) → JudgingEnds N c (verdict_of N c)
judging N stored c = go (ℕ_discrete (fault_of N) 0) (ℕ_discrete (bit_and c (present N)) c)
  where
    -- A verdict that says something true of a set that is not refused is none of the refusals.
    unrefused : fault_of N ≡ 0 → c ⊆ present N → (v : Result Verdict ℕ) → Says N c v → (numbers_of v).refusal ≡ 0
    unrefused ok within (Ok NotCut) s = refl
    unrefused ok within (Ok NotMinimal) s = refl
    unrefused ok within (Ok Minimal) s = refl
    unrefused ok within (Err r) s = absurd (omega (arith, set-none N c ok within, s.0, s.1))

    go : Dec (fault_of N ≡ 0) → Dec (bit_and c (present N) ≡ c) → JudgingEnds N c (verdict_of N c)
    go (no f) d = subst (JudgingEnds N c) (verdict-refused N c (fault_of N) (set-record N c (fault_of N) refl f) f) (JudgingEnds.faulty (some f))
    go (yes ok) (no d) =
        let out : c ⊆ present N → ⊥ = λ within. d ((subset-and c (present N)).0 within) in
        subst (JudgingEnds N c) (verdict-refused N c 14 (set-absent N c ok out) (λ e. omega arith)) (JudgingEnds.absent (rules N ok) out)
    go (yes ok) (yes e) =
        let within : c ⊆ present N = (subset-and c (present N)).1 e in
        let says : Says N c (verdict_of N c) = verdict-right N stored c in
        JudgingEnds.judged (verdict_of N c) (rules N ok) within (unrefused ok within (verdict_of N c) says) says

-- ---- the total

total : (N : Network) (c : ℕ) → TotalEnds N c (total_of N c)
total N c = go (ℕ_discrete (fault_of N) 0) (ℕ_discrete (bit_and c (present N)) c)
  where
    go : Dec (fault_of N ≡ 0) → Dec (bit_and c (present N) ≡ c) → TotalEnds N c (total_of N c)
    go (no f) d =
        subst (TotalEnds N c) (total-refused N c (fault_of N) (sym (set-record N c (fault_of N) refl f)) f) (TotalEnds.faulty (some f))
    go (yes ok) (no d) =
        let out : c ⊆ present N → ⊥ = λ within. d ((subset-and c (present N)).0 within) in
        subst (TotalEnds N c) (total-refused N c 14 (sym (set-absent N c ok out)) (λ e. omega arith)) (TotalEnds.absent (rules N ok) out)
    go (yes ok) (yes e) =
        let within : c ⊆ present N = (subset-and c (present N)).1 e in
        subst (TotalEnds N c) (total-given N c 0 _ (sym (set-none N c ok within)) refl refl) (TotalEnds.total (rules N ok) within)

-- ---- the widths

widths : (N : Network) (cuts : List ℕ) → WidthsEnds N cuts (widths_of N cuts)
widths N cuts = go (ℕ_discrete (fault_of N) 0) (ℕ_discrete (rows_fault N cuts) 0)
  where
    go : Dec (fault_of N ≡ 0) → Dec (rows_fault N cuts ≡ 0) → WidthsEnds N cuts (widths_of N cuts)
    go (no f) d =
        subst (WidthsEnds N cuts) (widths-refused N cuts (fault_of N) (sym (rows-record N cuts (fault_of N) refl f)) f) (WidthsEnds.faulty (some f))
    go (yes ok) (no d) =
        let out : RowsPresent N cuts → ⊥ = λ within. d (rows_none N cuts ok within) in
        subst (WidthsEnds N cuts) (widths-refused N cuts 14 (sym (rows-absent N cuts ok out)) (λ e. omega arith)) (WidthsEnds.absent (rules N ok) out)
    go (yes ok) (yes none) =
        subst (WidthsEnds N cuts) (widths-given N cuts 0 _ (sym none) refl refl) (WidthsEnds.counted (rules N ok) (rows_ok N cuts none).1)

-- ---- the list

-- A list written onto enough rows leaves the later ones.
kept-onto : (l lent : List ℕ) (n : ℕ) → length l ≡ n → n ≤ length lent → Kept n lent (onto l lent)
kept-onto l lent n count fits = record {
  size = length-onto l lent (rw count fits);
  later = drop-onto l lent n count;
}

module _ (N : Network) (stored : Stored N) (cuts sides : List ℕ) where
  -- What ends so is what the call answers and leaves.
  ended : {l : Listed} {cuts' sides' : List ℕ} → Answered N cuts sides l cuts' sides' → ListEnds N cuts sides l cuts' sides'
      → ListEnds N cuts sides (listed_by N cuts sides) (cut_rows_after N cuts sides) (side_rows_after N cuts sides)
  ended a e = rw (← a.0, ← a.1, ← a.2) e

  list : ListEnds N cuts sides (listed_by N cuts sides) (cut_rows_after N cuts sides) (side_rows_after N cuts sides)
  list = go (call-case N cuts sides)
    where
      more : fault_of N ≡ 0 → (length cuts < length (mincuts N)) ↔ Outnumber N (length cuts)
      more ok = outnumber-iff N (accepted-sound N stored ok).bounded (length cuts)

      go : Case N cuts sides → ListEnds N cuts sides (listed_by N cuts sides) (cut_rows_after N cuts sides) (side_rows_after N cuts sides)
      go (faulty f) = ended (answered-faulty N cuts sides (fault_of N) refl f) (ListEnds.faulty (some f))
      go (unpaired ok differ) = ended (answered-unpaired N cuts sides ok differ) (ListEnds.unpaired (rules N ok) differ)
      go (outnumbered ok paired h) =
          ended (answered-outnumbered N cuts sides stored ok paired (rw (← mincuts-count N (accepted-sound N stored ok)) h))
          (ListEnds.outnumbered (rules N ok) paired ((more ok).0 h))
      go (complete ok paired fits) =
          let none : (listed_by N cuts sides).refusal ≡ 0 = answer-refusal N cuts sides ∙ (refusal-none N cuts sides).1 (ok, paired, fits) in
          let left = (complete-call N stored cuts sides none).1 in
          ended left
          (ListEnds.complete (length (mincuts N)) _ _ (rules N ok) paired (λ o. omega (arith, (more ok).1 o)) (call-complete N stored cuts sides left refl)
          (kept-onto (mincuts N) cuts _ refl fits) (kept-onto (source_sides N) sides _ (length-map (mincuts N) (source_side_of N)) (rw paired at fits)))

-- ---- the list of a network that was trimmed already

module _ (N : Network) (stored : Stored N) (cuts sides : List ℕ) where
  -- What ends so is what the call answers and leaves.
  trimmed-ended : {l : Listed} {cuts' sides' : List ℕ} → TrimmedAnswered N cuts sides l cuts' sides' → TrimmedEnds N cuts sides l cuts' sides'
      → TrimmedEnds N cuts sides (trimmed_listed_by N cuts sides) (trimmed_cut_rows N cuts sides) (trimmed_side_rows N cuts sides)
  trimmed-ended a e = rw (← a.0, ← a.1, ← a.2) e

  trimmed-list : TrimmedEnds N cuts sides (trimmed_listed_by N cuts sides) (trimmed_cut_rows N cuts sides) (trimmed_side_rows N cuts sides)
  trimmed-list = go (ℕ_discrete (fault_of N) 0) (trimmed N) refl
    where
      refuse : (r : ℕ) → trimmed_fault N ≡ r → (r ≡ 0 → ⊥) → TrimmedAnswered N cuts sides (record { refusal = r; count = 0 }) cuts sides
      refuse r e = trimmed-answered-refused N cuts sides r (sym e)

      go : Dec (fault_of N ≡ 0) → (b : Bool) → trimmed N ≡ b
          → TrimmedEnds N cuts sides (trimmed_listed_by N cuts sides) (trimmed_cut_rows N cuts sides) (trimmed_side_rows N cuts sides)
      go (no f) b q = trimmed-ended (refuse (fault_of N) (trimmed-faulty N f) f) (TrimmedEnds.faulty (some f))
      go (yes ok) false q =
          trimmed-ended (refuse 26 (trimmed-refused N ok q) (λ e. omega arith))
          (TrimmedEnds.untrimmed (rules N ok) ((untrimmed-iff N (accepted-sound N stored ok)).0 (rw q tt)))
      go (yes ok) true q =
          trimmed-ended (trimmed-answered N cuts sides (trimmed-none N ok q) (refl, refl, refl))
          (TrimmedEnds.listed _ _ _ (rules N ok) ((trimmed-iff N (accepted-sound N stored ok)).0 (rw q tt)) (list N stored cuts sides))

-- ---- playing a log back

module _ (N : Network) (stored : Stored N) (log lent : List ℕ) where
  -- What ends so is what the call answers and leaves.
  replay-ended : {a : Replayed} {after : List ℕ} → Played N log lent a after → ReplayEnds N log lent a after
      → ReplayEnds N log lent (replayed_by N log lent) (silent_after N log lent)
  replay-ended a e = rw (← a.0, ← a.1) e

  -- By the log's fault, where the record has none and there is a byte for each event.
  replay-log : Rules N → event_count log ≤ length lent → {r : ℕ} → replay_refusal N log lent ≡ r → LogCase (present N) log r
      → ReplayEnds N log lent (replayed_by N log lent) (silent_after N log lent)
  replay-log kept fits e (good k) =
      let left = replay-played N log lent _ e refl in
      let means = (replay-means N stored log lent left).1 in
      replay-ended left (ReplayEnds.played _ kept fits k (means.told refl) (record { size = means.size; later = means.later }))
  replay-log kept fits e (unknown i l before f) =
      replay-ended (replay-refused N log lent 16 (sym e) (λ z. omega arith)) (ReplayEnds.unknown kept fits i l before f)
  replay-log kept fits e (absent i l before k f) =
      replay-ended (replay-refused N log lent 17 (sym e) (λ z. omega arith)) (ReplayEnds.absent kept fits i l before k f)
  replay-log kept fits e (half whole f) =
      replay-ended (replay-refused N log lent 16 (sym e) (λ z. omega arith)) (ReplayEnds.half kept fits whole f)

  replay : ReplayEnds N log lent (replayed_by N log lent) (silent_after N log lent)
  replay = go (ℕ_discrete (fault_of N) 0) (dec_lt (length lent) (event_count log))
    where
      go : Dec (fault_of N ≡ 0) → Dec (length lent < event_count log) → ReplayEnds N log lent (replayed_by N log lent) (silent_after N log lent)
      go (no f) d = replay-ended (replay-refused N log lent (fault_of N) (sym (refusal-faulty N log lent f)) f) (ReplayEnds.faulty (some f))
      go (yes ok) (yes h) =
          replay-ended (replay-refused N log lent 18 (sym (refusal-short N log lent ok h)) (λ z. omega arith)) (ReplayEnds.short (rules N ok) h)
      go (yes ok) (no h) =
          let fits : event_count log ≤ length lent = omega arith in
          replay-log (rules N ok) fits (refusal-log N log lent ok fits) (log-case (present N) log)

-- ---- counting silent minutes

module _ (N : Network) (stored : Stored N) (o w : List ℕ) where
  -- What ends so is what the call answers.
  outage-ended : {a : Outage} → a ≡ outage_of N o w → OutageEnds N o w a → OutageEnds N o w (outage_of N o w)
  outage-ended a e = subst (OutageEnds N o w) a e

  refused : (r : ℕ) → 0 < r → outage_refusal N o w ≡ r → record { refusal = r; minutes = 0 } ≡ outage_of N o w
  refused r some e = outage-refused N o w r (sym e) (λ z. omega arith)

  module _ (kept : Rules N) (fits : too_many o w ≡ false) where
    abbrev few-openings : opening_count o ≤ 14
    few-openings = ((few o w).0 fits).0

    abbrev few-works : works_count w ≤ 16
    few-works = ((few o w).0 fits).1

    -- By the fault of the works windows, where the opening windows have none.
    outage-works : Openings o → {r : ℕ} → outage_refusal N o w ≡ r → WorksCase (present N) w r → OutageEnds N o w (outage_of N o w)
    outage-works opens e (WorksCase.good k) =
        let answer = outage-counted N o w _ e refl in
        let means = (outage-means N stored o w answer).1 in
        outage-ended answer (OutageEnds.counted _ kept ((outage-none N o w).0 e).1 (means.cut refl))
    outage-works opens e (WorksCase.bad b) =
        outage-ended (refused 24 (omega arith) e) (OutageEnds.bad-works kept few-openings few-works opens b)
    outage-works opens e (WorksCase.absent a) =
        outage-ended (refused 17 (omega arith) e) (OutageEnds.absent kept few-openings few-works opens a)

    outage-windows : fault_of N ≡ 0 → OutageEnds N o w (outage_of N o w)
    outage-windows ok =
        elim (openings-case o) [
          | inl (z, opens) ↦ outage-works opens (refusal-works N o w ok fits z) (works-case (present N) w)
          | inr (z, off) ↦
              outage-ended (refused 24 (omega arith) (refusal-openings N o w ok fits (sym z) (λ e. omega arith)))
              (OutageEnds.bad-opening kept few-openings few-works off)
        ]

  outage : OutageEnds N o w (outage_of N o w)
  outage = go (ℕ_discrete (fault_of N) 0) (dec_lt 14 (opening_count o)) (dec_lt 16 (works_count w))
    where
      many : fault_of N ≡ 0 → (14 < opening_count o) ⊎ (16 < works_count w) → OutageEnds N o w (outage_of N o w)
      many ok more =
          outage-ended (refused 23 (omega arith) (refusal-many N o w ok (outages.many o w more))) (OutageEnds.many (rules N ok) more)

      go : Dec (fault_of N ≡ 0) → Dec (14 < opening_count o) → Dec (16 < works_count w) → OutageEnds N o w (outage_of N o w)
      go (no f) a b = outage-ended (refused (fault_of N) (some f) (outages.refusal-faulty N o w f)) (OutageEnds.faulty (some f))
      go (yes ok) (yes h) b = many ok (inl h)
      go (yes ok) (no h) (yes h') = many ok (inr h')
      go (yes ok) (no h) (no h') = outage-windows (rules N ok) ((few o w).1 (omega arith, omega arith)) ok

-- ---- drilling

module _ (N : Network) (stored : Stored N) (n f r steps : ℕ) where
  -- What ends so is what the call answers.
  drill-ended : {a : Tallied} → a ≡ simulated_by N n f r steps → SimulationEnds N n f r steps a → SimulationEnds N n f r steps (simulated_by N n f r steps)
  drill-ended a e = subst (SimulationEnds N n f r steps) a e

  simulation : SimulationEnds N n f r steps (simulated_by N n f r steps)
  simulation = go (ℕ_discrete (fault_of N) 0) (dec_lt 65535 steps)
    where
      go : Dec (fault_of N ≡ 0) → Dec (65535 < steps) → SimulationEnds N n f r steps (simulated_by N n f r steps)
      go (no z) d =
          drill-ended (drills.simulation-refused N n f r steps (fault_of N) (sym (drills.refusal-faulty N steps z)) z) (SimulationEnds.faulty (some z))
      go (yes ok) (yes h) =
          drill-ended (drills.simulation-refused N n f r steps 25 (sym (drills.refusal-many N steps ok h)) (λ z. omega arith))
          (SimulationEnds.many (rules N ok) h)
      go (yes ok) (no h) =
          let fits : steps ≤ 65535 = omega arith in
          let counted : Tallied = record { refusal = 0; silent = silent_steps N n f r steps; number = (state_after (present N) n f r steps).number } in
          let answer = drills.simulation-run N n f r steps counted (drills.refusal-none N steps ok fits) refl refl refl in
          let means = (drills.simulation-means N stored n f r steps answer).1 in
          drill-ended answer (SimulationEnds.counted _ (rules N ok) fits (means.cut refl))

-- ---- writing

writer : (N : Network) (lent : List ℕ) → WriterEnds N lent (encoded_by N lent) (bytes_after N lent)
unfolding encode_refusal
writer N lent = go (ℕ_discrete (fault_of N) 0) (dec_lt (length lent) (length (encode_of N)))
  where
    ended : {e : Encoded} {after : List ℕ} → Written N lent e after → WriterEnds N lent e after → WriterEnds N lent (encoded_by N lent) (bytes_after N lent)
    ended a e = rw (← a.0, ← a.1) e

    go : Dec (fault_of N ≡ 0) → Dec (length lent < length (encode_of N)) → WriterEnds N lent (encoded_by N lent) (bytes_after N lent)
    go (no f) d = ended (encode-refused N lent (fault_of N) (sym (some_then (fault_of N) _ (some f))) f) (WriterEnds.faulty (some f))
    go (yes ok) (yes h) =
        ended (encode-refused N lent 15 (sym (none_then _ ok ∙ some-when 15 (lt-ltb _ _ h))) (λ e. omega arith)) (WriterEnds.short (rules N ok) h)
    go (yes ok) (no h) =
        let room : length (encode_of N) ≤ length lent = omega arith in
        ended (encode-written N lent _ _ (none_then _ ok ∙ none-when 15 (le-ltb _ _ room)) refl refl) (WriterEnds.written (rules N ok) room)

-- ---- the list program

program : (s : List ℕ) → ReportEnds s (report_of s)
unfolding report_of
program s = go (ℕ_discrete (decode_of s).refusal 0)
  where
    N : Network
    N = (decode_of s).network

    line : List ℕ
    line = refusal_line (decode_of s).refusal

    go : Dec ((decode_of s).refusal ≡ 0) → ReportEnds s (report_of s)
    go (no f) = subst (ReportEnds s) (sym (refused-some (decode_of s).refusal (list_report N) line f)) (ReportEnds.unread (some f))
    go (yes e) =
        let plan = decode-plan s N (accepts s e) in
        let S = accepted-sound N plan.stored plan.accepted in
        subst (ReportEnds s) (sym (refused_none (list_report N) line e)) (rows S (dec_lt max_rows (length (mincuts N))))
      where
        rows : Sound N → Dec (max_rows < length (mincuts N)) → ReportEnds s (list_report N)
        rows S (yes h) = subst (ReportEnds s) (sym (report-outnumbered N h)) (ReportEnds.outnumbered e ((outnumber-iff N S.bounded max_rows).0 h))
        rows S (no h) =
            subst (ReportEnds s) (sym (report-complete N (omega arith)))
            (ReportEnds.listed (mincuts N) (source_sides N) e (length-map (mincuts N) (source_side_of N)) (mincuts-complete N S))

-- ---- the demand

pub demand-one : DemandOne
demand-one = record {
  test = fault-rules;
  read = read;
  reader = reader;
  part = part;
  judging = judging;
  total = total;
  widths = widths;
  list = list;
  too_many = λ N stored cuts sides. call-outnumbered N stored cuts sides refl;
  trimmed = trimmed-list;
  rooms = rooms-end;
  replay = replay;
  outage = outage;
  simulation = simulation;
  writer = λ N stored. writer N;
  program = program;
}
