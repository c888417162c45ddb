-- The call that counts the minutes of a week in which the room is open and silent: what it answers, and what that means.
-- To believe.
--
--   silent_minute N o w m    whether the minute m is open and the edges then out sever  [computed: silent-minute (maintenance/proofs/Meaning)]
--   silent_minutes N o w     how many minutes of the week are such  [computed: minutes-right (maintenance/proofs/Meaning)]
--   too_many o w             whether there are too many windows of either kind
--   outage_refusal N o w     the call's refusal for a network, opening windows and works windows, 0 if there is none
--   Outage                   a call's answer as numbers: the refusal, 0 if there is none, beside the minutes, 0 on refusal
--   outage a                 the answer a of the call as such numbers
--   outage_of N o w          its answer
--   WindowRules p o w        the rules of both kinds of windows, where the edges p are present
--   OutageMeans N o w r n    what it means that the call gave the refusal r and the minutes n
use Rattle.std.specs.Prelude.{Bool, ◌&&◌, ◌||◌, List, Result, ◌↔◌, ◌≡◌, ℕ, ◌≤◌, T, ltb}
use Rattle.sequences.specs.Words.{range}
use Rattle.sequences.specs.Counts.{count_if, Exactly}
use Rattle.network.specs.declared.Network.{Network}
use Rattle.network.specs.declared.refusal.Refusal.{Refusal}
use Rattle.network.specs.Refusals.{refusal_of, answer_of}
use Rattle.network.specs.Record.{◌when◌, ◌then◌, unless_refused, fault_of, present, Stored}
use Rattle.network.specs.Rules.{Rules}
use Rattle.graph.specs.Cuts.{Silenced, HoldsMincut}
use Rattle.graph.specs.CutTests.{severed}
use Rattle.windows.specs.Windows.{week, is_open, out_at, opening_count, works_count, openings_fault, works_fault, Openings, Works}

unfoldable pub silent_minute : Network → List ℕ → List ℕ → ℕ → Bool
silent_minute N o w m = is_open o m && severed N (out_at w m)

-- Minute by minute.
unfoldable pub silent_minutes : Network → List ℕ → List ℕ → ℕ
silent_minutes N o w = count_if (silent_minute N o w) (range 0 week)

abbrev pub too_many : List ℕ → List ℕ → Bool
too_many o w = ltb 14 (opening_count o) || ltb 16 (works_count w)

-- The record's first fault, then 23: too many windows of either kind; then the first fault of the openings, then that of the works
unfoldable pub outage_refusal : Network → List ℕ → List ℕ → ℕ
outage_refusal N o w = fault_of N then 23 when too_many o w then openings_fault o then works_fault (present N) w

pub record Outage : Type 0 where
  pub refusal : ℕ
  pub minutes : ℕ

abbrev pub outage : Result ℕ Refusal → Outage
outage a = record { refusal = refusal_of a; minutes = answer_of 0 a }

unfoldable pub outage_of : Network → List ℕ → List ℕ → Outage
outage_of N o w = let r = outage_refusal N o w in record { refusal = r; minutes = unless_refused r (silent_minutes N o w) 0 }

pub record WindowRules (p : ℕ) (o w : List ℕ) : Type 0 where
  pub few-openings : opening_count o ≤ 14
  pub few-works : works_count w ≤ 16
  pub openings : Openings o
  pub works : Works p w

-- By the definitions of graph theory, both ways: the edges then out hold a minimal cut, and no route is left without them.
pub record OutageMeans (N : Network) (o w : List ℕ) (r n : ℕ) : Type 0 where
  pub stored : Stored N
  -- Nothing is refused exactly if the record and the windows keep the rules.
  pub kept : (r ≡ 0) ↔ (Rules N × WindowRules (present N) o w)
  pub cut : r ≡ 0 → Exactly week (λ m. T (is_open o m) × HoldsMincut N (out_at w m)) n
  pub routes : r ≡ 0 → Exactly week (λ m. T (is_open o m) × Silenced N (out_at w m)) n
  pub refused : (r ≡ 0 → ⊥) → n ≡ 0
