-- What is reported, by what the reader and the list call answer.
-- Assumes nothing.
--
--   ReportedBy s cuts sides a   what a plan's report is, by what its list came to and the rows that were left
use mathlib.Core.Path.{◌≡◌, refl, sym, ap, ◌∙◌}
use mathlib.Core.List.{List}
use Prim.Native.Nat.{ℕ, ◌≤◌, ◌<◌}
use native.Mathlib.Decide.{dec_lt}
use native.Mathlib.Omega.{arith}
use borrow.Author.Tests.{lt-ltb, le-ltb}
use lib.ListN.{length, take, length-map, length-take}
use lib.Seq.{take_at, take_all}
use Rattle.std.specs.Prelude.{Result, Ok, Err, MatchResult}
use Rattle.std.specs.Result.{IsErrAnd}
use Rattle.sequences.specs.Words.{onto}
use Rattle.network.specs.declared.Network.{Network}
use Rattle.network.specs.Record.{unless_refused, fault_of}
use Rattle.network.specs.declared.refusal.Refusal.{Refusal}
use Rattle.network.specs.Refusals.{number_of}
use Rattle.network.proofs.Refusals.{number-some, refused_none, refused-some}
use Rattle.format.specs.Format.{Decoded, decoded, decode_of}
use Rattle.format.proofs.Reading.{decode-plan}
use Rattle.format.proofs.Prefix.{decode-prefix}
use Rattle.text.specs.Text.{refusal_line, list_text, max_rows}
use Rattle.text.specs.Written.{Printed}
use Rattle.graph.specs.Relevant.{source_side_of}
use Rattle.listing.specs.List.{Listed, listed, mincuts, source_sides, list_refusal, listed_by, cut_rows_after, side_rows_after}
use Rattle.listing.proofs.Refusals.{refusal-outnumbered, refusal-none}
use Rattle.report.specs.Report.{list_report, report_of, Reported}

-- ---- the list call

-- More minimal cuts than rows are reported by 12.
pub report-outnumbered : (N : Network) → max_rows < length (mincuts N) → list_report N ≡ refusal_line 12
unfolding list_report
report-outnumbered N h = rw (lt-ltb max_rows (length (mincuts N)) h, list_report)

-- Otherwise the list is reported.
pub report-complete : (N : Network) → length (mincuts N) ≤ max_rows → list_report N ≡ list_text (mincuts N) (source_sides N)
unfolding list_report
report-complete N h = rw (le-ltb max_rows (length (mincuts N)) h, list_report)

module _ (N : Network) (cuts sides : List ℕ) where
  -- The call's refusal, and what is reported of it.
  data Case : Type 0 where
    outnumbered : list_refusal N cuts sides ≡ 12 → list_report N ≡ refusal_line 12 → Case
    complete : list_refusal N cuts sides ≡ 0 → list_report N ≡ list_text (mincuts N) (source_sides N) → Case

  -- With `max_rows` rows of both kinds an accepted network is one of the cases.
  call-case : fault_of N ≡ 0 → length cuts ≡ max_rows → length sides ≡ max_rows → Case
  call-case ok c s = go (dec_lt max_rows (length (mincuts N)))
    where
      go : Dec (max_rows < length (mincuts N)) → Case
      go (yes h) = outnumbered ((refusal-outnumbered N cuts sides).1 (ok, omega arith, omega arith)) (report-outnumbered N h)
      go (no h) = complete ((refusal-none N cuts sides).1 (ok, omega arith, omega arith)) (report-complete N (omega arith))

  -- The answer, by the refusal.
  answer-by : {r : ℕ} {l : Listed} → l ≡ listed_by N cuts sides → list_refusal N cuts sides ≡ r
      → l ≡ record { refusal = r; count = unless_refused r (length (mincuts N)) 0 }
  unfolding listed_by
  answer-by e q = e ∙ ap (λ (x : ℕ). record { refusal = x; count = unless_refused x (length (mincuts N)) 0 }) q

  module _ (l : Listed) (answer : l ≡ listed_by N cuts sides) where
    -- A refusal is reported by its number.
    case-refused : Case → (l.refusal ≡ 0 → ⊥) → list_report N ≡ refusal_line l.refusal
    case-refused (outnumbered e report) f = report ∙ ap refusal_line (sym (ap (λ (x : Listed). x.refusal) (answer-by answer e)))
    case-refused (complete e report) f = absurd (f (ap (λ (x : Listed). x.refusal) (answer-by answer e)))

    -- Otherwise the rows below the count are.
    case-listed : {cuts' sides' : List ℕ} → cuts' ≡ cut_rows_after N cuts sides → sides' ≡ side_rows_after N cuts sides
        → Case → l.refusal ≡ 0 → list_report N ≡ list_text (take l.count cuts') (take l.count sides')
    unfolding cut_rows_after side_rows_after
    case-listed c s (outnumbered e report) z = absurd (omega (arith, ap (λ (x : Listed). x.refusal) (answer-by answer e)))
    case-listed {cuts'} {sides'} c s (complete e report) z =
        let count : l.count ≡ length (mincuts N) = ap (λ (x : Listed). x.count) (answer-by answer e) in
        let rows : cuts' ≡ onto (mincuts N) cuts = c ∙ ap (λ (x : ℕ). unless_refused x (onto (mincuts N) cuts) cuts) e in
        let rows-2 : sides' ≡ onto (source_sides N) sides = s ∙ ap (λ (x : ℕ). unless_refused x (onto (source_sides N) sides) sides) e in
        rw (rows, rows-2, take_at (mincuts N) _ l.count (sym count), take_at (source_sides N) _ l.count (length-map (mincuts N) (source_side_of N) ∙ sym count))
        report

-- ---- the program

module _ (s : List ℕ) (d : Decoded) (read : d ≡ decode_of s) where
  -- The report of the bytes is that of the answer.
  report-by : report_of s ≡ unless_refused d.refusal (list_report d.network) (refusal_line d.refusal)
  unfolding report_of
  report-by = rw read

  -- A plan that is refused is reported by its refusal.
  pub report-unread : (d.refusal ≡ 0 → ⊥) → report_of s ≡ refusal_line d.refusal
  report-unread some = report-by ∙ refused-some d.refusal (list_report d.network) (refusal_line d.refusal) some

  module _ (none : d.refusal ≡ 0) (cuts sides : List ℕ) (c : length cuts ≡ max_rows) (t : length sides ≡ max_rows)
      (l : Listed) (answer : l ≡ listed_by d.network cuts sides) where
    -- The network read is accepted.
    accepted : fault_of d.network ≡ 0
    accepted = (decode-plan s d.network (sym read ∙ (λ i. record { refusal = none i; network = d.network }))).accepted

    -- Its report is that of the bytes.
    report-network : report_of s ≡ list_report d.network
    report-network = report-by ∙ refused_none (list_report d.network) (refusal_line d.refusal) none

    -- A network that is refused is reported by its refusal.
    pub report-refused : (l.refusal ≡ 0 → ⊥) → report_of s ≡ refusal_line l.refusal
    report-refused f = report-network ∙ case-refused d.network cuts sides l answer (call-case d.network cuts sides accepted c t) f

    -- A network that is listed is reported by the rows below the count.
    pub report-listed : {cuts' sides' : List ℕ} → cuts' ≡ cut_rows_after d.network cuts sides → sides' ≡ side_rows_after d.network cuts sides
        → l.refusal ≡ 0 → report_of s ≡ list_text (take l.count cuts') (take l.count sides')
    report-listed p q z = report-network ∙ case-listed d.network cuts sides l answer p q (call-case d.network cuts sides accepted c t) z

-- What a plan's report is, by what its list came to: n rows, or a refusal.
abbrev pub ReportedBy : List ℕ → List ℕ → List ℕ → Result ℕ Refusal → Type 0
ReportedBy s cuts sides a = MatchResult a (λ n. report_of s ≡ list_text (take n cuts) (take n sides)) (λ r. report_of s ≡ refusal_line (number_of r))

-- A refusal that is passed on is reported.
pub report-passed : (s cuts sides : List ℕ) (a : Result ℕ Refusal) (r : Refusal) → IsErrAnd a (λ e. e ≡ r)
    → report_of s ≡ refusal_line (number_of r) → ReportedBy s cuts sides a
report-passed s cuts sides (Ok n) r h e = absurd h
report-passed s cuts sides (Err q) r h e = e ∙ ap (λ (x : Refusal). refusal_line (number_of x)) (sym h)

-- So is what the list call gives for the network that was read.
module _ (s : List ℕ) (N : Network) (read : decoded (Ok N) ≡ decode_of s) (cuts sides : List ℕ) (c : length cuts ≡ max_rows) (t : length sides ≡ max_rows) where
  pub report-answered : (a : Result ℕ Refusal) {cuts' sides' : List ℕ} → listed a ≡ listed_by N cuts sides
      → cuts' ≡ cut_rows_after N cuts sides → sides' ≡ side_rows_after N cuts sides → ReportedBy s cuts' sides' a
  report-answered (Ok n) answer p q = report-listed s (decoded (Ok N)) read refl cuts sides c t (listed (Ok n)) answer p q refl
  report-answered (Err r) answer p q = report-refused s (decoded (Ok N)) read refl cuts sides c t (listed (Err r)) answer (number-some r)

-- What is printed by what the list came to is the report.
pub report-printed : (s cuts sides : List ℕ) (a : Result ℕ Refusal) {b p : List ℕ} {r : ℕ} → ReportedBy s cuts sides a
    → MatchResult a (λ n. Printed (list_text (take n cuts) (take n sides)) b p r) (λ q. Printed (refusal_line (number_of q)) b p r)
    → Printed (report_of s) b p r
report-printed s cuts sides (Ok n) e h = rw e h
report-printed s cuts sides (Err q) e h = rw e h

-- The first 521 bytes decide what is reported.
pub report-prefix : (s : List ℕ) → report_of (take 521 s) ≡ report_of s
unfolding report_of
report-prefix s = rw (decode-prefix s)

-- So bytes p that are the first 521 of s are reported as all of s.
pub report-whole : {p q : List ℕ} {n : ℕ} (s : List ℕ) → p ≡ q → n ≡ 521 → q ≡ take n s → report_of s ≡ report_of p
report-whole s e size f = sym (ap report_of (e ∙ f ∙ ap (λ (k : ℕ). take k s) size) ∙ report-prefix s)

-- So the report is that of the bytes read.
pub report-read : {plan b a : List ℕ} {read r : ℕ} → Reported plan read b a r → Printed (report_of (take read plan)) b a r
report-read {plan} {read = n} h =
    h.printed (take n plan) (sym (take_all (length plan) (take n plan) (omega (arith, length-take n plan))))
