-- The call that plays a link log back: what it answers and leaves in the lent bytes, and what that means.
-- To believe.
--
--   byte_of b                    1 for silent, 0 for not
--   silent_byte N log i          whether the room is silent after event i
--   silent_bytes N log           the same for each event of the log  [computed: bytes_count, bytes-tell (replay/proofs/Meaning)]
--   replay_refusal N log lent    the call's refusal for a network, a log and lent bytes, 0 if there is none
--   Replayed                     a call's answer as numbers: the refusal, 0 if there is none, beside the count of bytes, 0 on refusal
--   replayed a                   the answer a of the call as such numbers
--   replayed_by N log lent       its answer
--   silent_after N log lent      the lent bytes afterwards
--   Tells N d b                  the byte b tells whether the room is silent where the edges d are down
--   ReplayMeans N log lent r n after     what it means that the call, lent `lent`, gave the refusal r and the count n and left `after`
use Rattle.std.specs.Prelude.{Bool, true, false, List, Result, ◌↔◌, ◌≡◌, ℕ, suc, ◌*◌, ◌≤◌, ◌<◌, ltb, length, get_or, drop}
use Rattle.sequences.specs.Words.{tabulate, onto}
use Rattle.network.specs.declared.Network.{Network}
use Rattle.network.specs.declared.refusal.Refusal.{Refusal}
use Rattle.network.specs.Refusals.{refusal_of, answer_of}
use Rattle.network.specs.Record.{◌when◌, ◌then◌, unless_refused, fault_of, present, Stored}
use Rattle.network.specs.Rules.{Rules}
use Rattle.graph.specs.Cuts.{Silenced, HoldsMincut}
use Rattle.graph.specs.CutTests.{severed}
use Rattle.replay.specs.Log.{event_count, down_after, log_fault, LogRules}

abbrev pub byte_of : Bool → ℕ
byte_of true = 1
byte_of false = 0

-- After event i, so after i + 1 events.
abbrev pub silent_byte : Network → List ℕ → ℕ → ℕ
silent_byte N log i = byte_of (severed N (down_after log (suc i)))

unfoldable pub silent_bytes : Network → List ℕ → List ℕ
silent_bytes N log = tabulate (event_count log) (silent_byte N log)

-- The record's first fault, then 18: more whole events than bytes lent; then the log's first fault
unfoldable pub replay_refusal : Network → List ℕ → List ℕ → ℕ
replay_refusal N log lent = fault_of N then 18 when ltb (length lent) (event_count log) then log_fault (present N) log

pub record Replayed : Type 0 where
  pub refusal : ℕ
  pub count : ℕ

abbrev pub replayed : Result ℕ Refusal → Replayed
replayed a = record { refusal = refusal_of a; count = answer_of 0 a }

unfoldable pub replayed_by : Network → List ℕ → List ℕ → Replayed
replayed_by N log lent =
    let r = replay_refusal N log lent in record { refusal = r; count = unless_refused r (event_count log) 0 }

-- The bytes of the events, and past them what was held; on refusal all that was held.
unfoldable pub silent_after : Network → List ℕ → List ℕ → List ℕ
silent_after N log lent = unless_refused (replay_refusal N log lent) (onto (silent_bytes N log) lent) lent

-- Both ways of saying it: some minimal cut is wholly down, and no route is left among the cables still up.
pub record Tells (N : Network) (d b : ℕ) : Type 0 where
  pub cut : (b ≡ 1) ↔ HoldsMincut N d
  pub routes : (b ≡ 1) ↔ Silenced N d
  pub otherwise : (b ≡ 1 → ⊥) → b ≡ 0

-- By the definitions of graph theory, of the bytes that the call left.
pub record ReplayMeans (N : Network) (log lent : List ℕ) (r n : ℕ) (after : List ℕ) : Type 0 where
  pub stored : Stored N
  -- Nothing is refused exactly if the record and the log keep the rules, and there is a byte for each event.
  pub kept : (r ≡ 0) ↔ (Rules N × LogRules (present N) log × (event_count log ≤ length lent))
  pub events : r ≡ 0 → 2 * n ≡ length log
  pub told : r ≡ 0 → (i : ℕ) → i < n → Tells N (down_after log (suc i)) (get_or after i 0)
  pub refused : (r ≡ 0 → ⊥) → (n ≡ 0) × (after ≡ lent)
  pub later : drop n after ≡ drop n lent
  pub size : length after ≡ length lent
