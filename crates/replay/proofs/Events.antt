-- The events of a log: what each changes, which fault each has, and which log has none.
-- Assumes nothing.
--
--   EventCase p log i r  event i and its fault r, where the edges p are present
--   LogCase p log r      the log and its fault r
use mathlib.Core.Bool.{Bool, true, false, cond, not, ◌||◌}
use mathlib.Core.List.{List}
use mathlib.Core.Logic.{◌⊎◌, inl, inr, ◌↔◌}
use mathlib.Core.Path.{◌≡◌, refl, sym, ap, ap₂, subst, ◌∙◌}
use Prim.Native.Nat.{ℕ, suc, ◌-◌, ◌%◌, ◌^◌, ◌<◌, zero-le}
use native.Mathlib.Decide.{ℕ_discrete}
use native.Mathlib.Omega.{arith}
use borrow.Author.Tests.{eq-eqb, ne_eqb, eqb-true, not-false}
use denote.Floats.{passes}
use lib.Dec.{T, eqb}
use lib.ListN.{length}
use Rattle.std.specs.Prelude.{Result, Ok, Err}
use Rattle.sequences.proofs.Tests.{T-or, T-eqb}
use Rattle.bitset.specs.Members.{has, ◌∈◌, ◌⊆◌, insert, ◌∖◌}
use Rattle.network.specs.declared.refusal.Refusal.{Refusal}
use Rattle.network.specs.declared.refusal.Refusal.TheVariants.{BadEvent}
use Rattle.network.specs.Refusals.{refusal_of}
use Rattle.network.specs.Record.{◌when◌, ◌then◌}
use Rattle.network.proofs.Refusals.{then-none, none_then, some_then, when-none, none-when, some-when, row-none, none_row, row_first, row_step}
use Rattle.replay.specs.declared.Change.{Change}
use Rattle.replay.specs.declared.Change.TheVariants.{Down, Up}
use Rattle.replay.specs.Log.{event_count, command_at, edge_at, changed, is_command, change_of, event_fault, events_fault, log_fault, Command, GoodEvents, LogRules}

-- ---- what an event changes

-- Down adds its edge, and any other command takes it away.
pub changed-down : (c d k : ℕ) → c ≡ 0x44 → changed c d k ≡ insert d k
unfolding changed
changed-down c d k e = ap (λ (x : ℕ). changed x d k) e

pub changed-up : (c d k : ℕ) → (c ≡ 0x44 → ⊥) → changed c d k ≡ d ∖ 2 ^ k
unfolding changed
changed-up c d k f = ap (λ (b : Bool). elim b [ true ↦ insert d k | false ↦ d ∖ 2 ^ k ]) (ne_eqb c 0x44 f)

-- ---- commands

-- What is read by the two tests.
abbrev read : Bool → Bool → Result Change Refusal
read a b = cond a (Ok Down) (cond b (Ok Up) (Err BadEvent))

-- A byte is read as down exactly if it is its command;
pub down-command : (c : ℕ) → Ok Down ≡ change_of c → c ≡ 0x44
unfolding change_of
down-command c = go (eqb c 0x44) (eqb c 0x55) refl
  where
    go : (a b : Bool) → eqb c 0x44 ≡ a → Ok Down ≡ read a b → c ≡ 0x44
    go true b x e = eqb-true c 0x44 x
    go false true x e = absurd (cc)
    go false false x e = absurd (cc)

pub command-down : (c : ℕ) → c ≡ 0x44 → change_of c ≡ Ok Down
unfolding change_of
command-down c e = ap (λ a. read a (eqb c 0x55)) (eq-eqb c 0x44 e)

pub command-up : (c : ℕ) → (c ≡ 0x44 → ⊥) → c ≡ 0x55 → change_of c ≡ Ok Up
unfolding change_of
command-up c f e = ap₂ read (ne_eqb c 0x44 f) (eq-eqb c 0x55 e)

pub command_none : (c : ℕ) → (c ≡ 0x44 → ⊥) → (c ≡ 0x55 → ⊥) → change_of c ≡ Err BadEvent
unfolding change_of
command_none c f g = ap₂ read (ne_eqb c 0x44 f) (ne_eqb c 0x55 g)

-- it is refused exactly if it is neither command.
pub change-fault : (c : ℕ) → refusal_of (change_of c) ≡ (16 when not (is_command c))
unfolding change_of ◌when◌
change-fault c = go (eqb c 0x44) (eqb c 0x55)
  where
    go : (a b : Bool) → refusal_of (read a b) ≡ (16 when not (a || b))
    go true b = refl
    go false true = refl
    go false false = refl

-- ---- an event's fault

-- The test of a command is right.
command-iff : (c : ℕ) → T (is_command c) ↔ ((c ≡ 0x44) ⊎ (c ≡ 0x55))
command-iff c =
    let either = T-or (eqb c 0x44) (eqb c 0x55) in (
      λ t. elim (either.0 t) [ inl e ↦ inl ((T-eqb c 0x44).0 e) | inr e ↦ inr ((T-eqb c 0x55).0 e) ],
      λ k. either.1 (elim k [ inl e ↦ inl ((T-eqb c 0x44).1 e) | inr e ↦ inr ((T-eqb c 0x55).1 e) ]),
    )

-- The three cases of an event.
pub data EventCase (p : ℕ) (log : List ℕ) (i : ℕ) : ℕ → Type 0 where
  good : Command log i → edge_at log i ∈ p → EventCase p log i 0
  unknown : (Command log i → ⊥) → EventCase p log i 16
  absent : Command log i → (edge_at log i ∈ p → ⊥) → EventCase p log i 17

module _ (p : ℕ) (log : List ℕ) (i : ℕ) where
  -- Every event is one of the cases.
  pub event-case : EventCase p log i (event_fault p (command_at log i) (edge_at log i))
  unfolding ◌when◌ ◌then◌ event_fault
  event-case = go (is_command (command_at log i)) (has p (edge_at log i)) refl refl
    where
      go : (a b : Bool) → is_command (command_at log i) ≡ a → has p (edge_at log i) ≡ b → EventCase p log i (16 when not a then 17 when not b)
      go true true x y = good ((command-iff (command_at log i)).0 (passes _ x)) (passes _ y)
      go true false x y = absent ((command-iff (command_at log i)).0 (passes _ x)) (λ m. rw y at m)
      go false b x y = unknown (λ k. rw x at ((command-iff (command_at log i)).1 k))

  -- An event has no fault exactly if it has a command and an edge of p.
  pub event-good : (event_fault p (command_at log i) (edge_at log i) ≡ 0) ↔ (Command log i × (edge_at log i ∈ p))
  event-good = (into event-case, from event-case)
    where
      into : {r : ℕ} → EventCase p log i r → r ≡ 0 → Command log i × (edge_at log i ∈ p)
      into (good k m) e = (k, m)
      into (unknown f) e = absurd (omega arith)
      into (absent k f) e = absurd (omega arith)

      from : {r : ℕ} → EventCase p log i r → Command log i × (edge_at log i ∈ p) → r ≡ 0
      from (good k m) b = refl
      from (unknown f) b = absurd (f b.0)
      from (absent k f) b = absurd (f b.1)

-- ---- some events

module _ (p : ℕ) (log : List ℕ) where
  -- The fault of event j.
  abbrev fault_at : ℕ → ℕ
  fault_at j = event_fault p (command_at log j) (edge_at log j)

  -- The first n events have no fault exactly if each is good.
  pub events-good : (n : ℕ) → (events_fault p log 0 n ≡ 0) ↔ GoodEvents p log n
  unfolding events_fault
  events-good n = (
    λ e.
        let each : (i : ℕ) → i < n → Command log i × (edge_at log i ∈ p) = λ i l. (event-good p log i).0 (row-none fault_at 0 n e i zero-le (omega arith)) in
        record { commands = λ i l. (each i l).0; edges = λ i l. (each i l).1 },
    λ g. none_row fault_at 0 n (λ j h l. (event-good p log j).1 (g.commands j (omega arith), g.edges j (omega arith))),
  )

  -- Otherwise their fault is that of some event, and those before it are good.
  pub events-first : (n : ℕ) → (events_fault p log 0 n ≡ 0 → ⊥)
      → (i : ℕ) × (i < n) × GoodEvents p log i × (events_fault p log 0 n ≡ fault_at i)
  unfolding events_fault
  events-first n some =
      let (i, h, l, before, here) = row_first fault_at 0 n some in
      (i, omega arith, (events-good i).0 (none_row fault_at 0 i (λ j p q. before j p (omega arith))), here)

  -- The first fault of the events from k on is that of event k, or else that of the later ones.
  pub events-step : (k n : ℕ) → k < n → events_fault p log k (n - k) ≡ (fault_at k then events_fault p log (suc k) (n - suc k))
  unfolding events_fault
  events-step k n l = row_step fault_at k n l

-- ---- the log

-- The four cases of a log.
pub data LogCase (p : ℕ) (log : List ℕ) : ℕ → Type 0 where
  good : LogRules p log → LogCase p log 0
  unknown : (i : ℕ) → i < event_count log → GoodEvents p log i → (Command log i → ⊥) → LogCase p log 16
  absent : (i : ℕ) → i < event_count log → GoodEvents p log i → Command log i → (edge_at log i ∈ p → ⊥) → LogCase p log 17
  half : GoodEvents p log (event_count log) → (length log % 2 ≡ 0 → ⊥) → LogCase p log 16

module _ (p : ℕ) (log : List ℕ) where
  -- A log's fault is that of an event, if some event has one;
  pub log-event : {r : ℕ} → 0 < r → events_fault p log 0 (event_count log) ≡ r → log_fault p log ≡ r
  unfolding log_fault
  log-event {r} some e = rw e (some_then r _ some)

  -- otherwise 16 for half an event,
  pub log-half : events_fault p log 0 (event_count log) ≡ 0 → (length log % 2 ≡ 0 → ⊥) → log_fault p log ≡ 16
  unfolding log_fault
  log-half e odd = none_then _ e ∙ some-when 16 (ap not (ne_eqb (length log % 2) 0 odd))

  -- and none if there is none.
  pub log-none : events_fault p log 0 (event_count log) ≡ 0 → length log % 2 ≡ 0 → log_fault p log ≡ 0
  unfolding log_fault
  log-none e whole = none_then _ e ∙ none-when 16 (ap not (eq-eqb (length log % 2) 0 whole))

  -- A log has no fault exactly if it keeps the rules.
  pub log-rules : (log_fault p log ≡ 0) ↔ LogRules p log
  unfolding log_fault
  log-rules = (
    λ e.
        let parts = then-none (events_fault p log 0 (event_count log)) _ e in
        record {
          whole = eqb-true _ _ (not-false _ (when-none 16 _ (omega arith) parts.1));
          good = (events-good p log (event_count log)).0 parts.0;
        },
    λ r. log-none ((events-good p log (event_count log)).1 r.good) r.whole,
  )

  -- Every log is one of the cases.
  pub log-case : LogCase p log (log_fault p log)
  unfolding log_fault
  log-case = go (ℕ_discrete (events_fault p log 0 (event_count log)) 0) (ℕ_discrete (length log % 2) 0)
    where
      -- By the case of the first faulty event.
      faulty : (i : ℕ) → i < event_count log → GoodEvents p log i → {r : ℕ} → EventCase p log i r → (r ≡ 0 → ⊥) → LogCase p log r
      faulty i l before (good k m) some = absurd (some refl)
      faulty i l before (unknown f) some = unknown i l before f
      faulty i l before (absent k f) some = absent i l before k f

      go : Dec (events_fault p log 0 (event_count log) ≡ 0) → Dec (length log % 2 ≡ 0) → LogCase p log (log_fault p log)
      go (no f) d =
          let (i, l, before, here) = events-first p log (event_count log) f in
          let found : log_fault p log ≡ event_fault p (command_at log i) (edge_at log i) = log-event (omega arith) refl ∙ here in
          subst (LogCase p log) (sym found) (faulty i l before (event-case p log i) (λ e. f (here ∙ e)))
      go (yes e) (yes whole) =
          let r : LogRules p log = record { whole = whole; good = (events-good p log (event_count log)).0 e } in
          subst (LogCase p log) (sym (log-rules.1 r)) (good r)
      go (yes e) (no odd) =
          subst (LogCase p log) (sym (log-half e odd)) (half ((events-good p log (event_count log)).0 e) odd)

  -- Where the events are good, more edges make no other fault.
  pub log-more : (q : ℕ) → p ⊆ q → GoodEvents p log (event_count log) → log_fault q log ≡ log_fault p log
  unfolding log_fault
  log-more q more g =
      let g' : GoodEvents q log (event_count log) = record { commands = g.commands; edges = λ i l. more (edge_at log i) (g.edges i l) } in
      none_then _ ((events-good q log (event_count log)).1 g') ∙ sym (none_then _ ((events-good p log (event_count log)).1 g))
