-- A hall's link log: pairs of bytes, a command and the number of a cable. What is down after each event, and the log's faults.
-- To believe.
--
--   event_count log      how many whole events the log has
--   command_at log i     the command of event i, counted from 0
--   edge_at log i        its edge
--   changed c d k        the edges down after the event of command c and edge k, where d were down before it
--   down_after log n     the edges down after the first n events
--   is_command c         whether c is 44 (hexadecimal), down, or 55, up
--   change_of c          what it says as a command: a change, or the refusal 16  [working]
--   event_fault p c k    the fault of an event of command c and edge k, where the edges p are present
--   events_fault p log i n   the first fault of the n events from i on
--   log_fault p log      the log's first fault, 0 if it has none
--   Command log i        event i has a command
--   GoodEvents p log n   each of the first n events has a command, and an edge of p
--   LogRules p log       the log has whole events alone, all of them good
use Rattle.std.specs.Prelude.{Bool, true, false, cond, not, ◌||◌, List, Result, Ok, Err, ◌⊎◌, ◌≡◌, ℕ, zero, suc, ◌+◌, ◌*◌, ◌/◌, ◌%◌, ◌^◌, ◌<◌, eqb, length, get_or}
use Rattle.bitset.specs.Members.{has, insert, ◌∖◌, ◌∈◌}
use Rattle.network.specs.declared.refusal.Refusal.{Refusal}
use Rattle.network.specs.declared.refusal.Refusal.TheVariants.{BadEvent}
use Rattle.network.specs.Record.{◌when◌, ◌then◌, first_fault}
use Rattle.replay.specs.declared.Change.{Change}
use Rattle.replay.specs.declared.Change.TheVariants.{Down, Up}

-- Half an event at the end does not count.
abbrev pub event_count : List ℕ → ℕ
event_count log = length log / 2

abbrev pub command_at : List ℕ → ℕ → ℕ
command_at log i = get_or log (2 * i) 0

abbrev pub edge_at : List ℕ → ℕ → ℕ
edge_at log i = get_or log (2 * i + 1) 0

-- ---- what is down

-- Down adds the edge, up takes it away.
unfoldable pub changed : ℕ → ℕ → ℕ → ℕ
changed c d k = elim (eqb c 0x44) [ true ↦ insert d k | false ↦ d ∖ 2 ^ k ]

-- At first none.
unfoldable pub down_after : List ℕ → ℕ → ℕ
down_after log zero = 0
down_after log (suc n) = changed (command_at log n) (down_after log n) (edge_at log n)

-- ---- faults

abbrev pub is_command : ℕ → Bool
is_command c = eqb c 0x44 || eqb c 0x55

unfoldable pub change_of : ℕ → Result Change Refusal
change_of c = cond (eqb c 0x44) (Ok Down) (cond (eqb c 0x55) (Ok Up) (Err BadEvent))

-- 16: an unknown command; 17: a cable not present
unfoldable pub event_fault : ℕ → ℕ → ℕ → ℕ
event_fault p c k = 16 when not (is_command c) then 17 when not (has p k)

unfoldable pub events_fault : ℕ → List ℕ → ℕ → ℕ → ℕ
events_fault p log = first_fault (λ i. event_fault p (command_at log i) (edge_at log i))

-- Event by event; then 16: half an event
unfoldable pub log_fault : ℕ → List ℕ → ℕ
log_fault p log = events_fault p log 0 (event_count log) then 16 when not (eqb (length log % 2) 0)

abbrev pub Command : List ℕ → ℕ → Type 0
Command log i = (command_at log i ≡ 0x44) ⊎ (command_at log i ≡ 0x55)

pub record GoodEvents (p : ℕ) (log : List ℕ) (n : ℕ) : Type 0 where
  pub commands : (i : ℕ) → i < n → Command log i
  pub edges : (i : ℕ) → i < n → edge_at log i ∈ p

pub record LogRules (p : ℕ) (log : List ℕ) : Type 0 where
  pub whole : length log % 2 ≡ 0
  pub good : GoodEvents p log (event_count log)
