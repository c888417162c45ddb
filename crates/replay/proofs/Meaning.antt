-- The call that plays a log back: what it answers and leaves on each way out, and what that means.
-- Assumes, for what the bytes mean, what the code's types say of the record.
--
--   Answered N log lent answer after     for N, the log and the bytes lent the call gives this answer and leaves `after`
use mathlib.Core.Bool.{Bool, true, false}
use mathlib.Core.List.{List}
use mathlib.Core.Logic.Iff
use mathlib.Core.Logic.{◌↔◌}
use mathlib.Core.Path.{◌≡◌, refl, ap, ◌∙◌}
use Prim.Native.Nat.{ℕ, suc, ◌≤◌, ◌<◌}
use native.Mathlib.Decide.{ℕ_discrete}
use native.Mathlib.Omega.{arith}
use borrow.Author.Tests.{ltb-false, lt-ltb, le-ltb}
use lib.Dec.{T, ltb}
use lib.ListN.{length, get_or}
use Rattle.std.specs.Prelude.{Result, Ok, Err}
use Rattle.std.specs.Result.{IsErrAnd}
use Rattle.sequences.specs.Words.{onto}
use Rattle.sequences.proofs.Places.{length-tabulate, get_or-tabulate}
use Rattle.sequences.proofs.Words.{get_or-onto, drop-onto, length-onto}
use Rattle.network.specs.declared.Network.{Network}
use Rattle.network.specs.declared.refusal.Refusal.{Refusal}
use Rattle.network.specs.Refusals.{number_of}
use Rattle.network.specs.Record.{◌when◌, ◌then◌, fault_of, present, Stored}
use Rattle.network.specs.Rules.{Rules}
use Rattle.network.proofs.Refusals.{number-some, then-none, none_then, some_then, when-none, none-when, some-when, refused-some}
use Rattle.network.proofs.Rules.{fault-rules}
use Rattle.graph.specs.Reach.{Bounded}
use Rattle.graph.specs.CutTests.{severed}
use Rattle.graph.proofs.Cuts.{severed-silenced, holds-silenced}
use Rattle.graph.proofs.Sound.{accepted-sound}
use Rattle.replay.specs.Log.{event_count, down_after, log_fault, LogRules}
use Rattle.replay.specs.Replay.{byte_of, silent_bytes, replay_refusal, Replayed, replayed, replayed_by, silent_after, Tells, ReplayMeans}
use Rattle.replay.proofs.Events.{log-rules}

-- What the call answers and leaves.
abbrev pub Answered : Network → List ℕ → List ℕ → Replayed → List ℕ → Type 0
Answered N log lent answer after = (answer ≡ replayed_by N log lent) × (after ≡ silent_after N log lent)

-- ---- the ways out

module _ (N : Network) (log lent : List ℕ) where
  -- A refusal leaves the bytes as they were.
  pub replay-refused : (r : ℕ) → r ≡ replay_refusal N log lent → (r ≡ 0 → ⊥) → Answered N log lent (record { refusal = r; count = 0 }) lent
  unfolding replayed_by silent_after
  replay-refused r e some =
      rw (← e, refused-some r (event_count log) 0 some, refused-some r (onto (silent_bytes N log) lent) lent some) (refl, refl)

  -- So does one that is passed on.
  pub replay-passed : (a : Result ℕ Refusal) (r : Refusal) → IsErrAnd a (λ e. e ≡ r) → number_of r ≡ replay_refusal N log lent
      → Answered N log lent (replayed a) lent
  replay-passed (Ok n) r h e = absurd h
  replay-passed (Err q) r h e = replay-refused (number_of q) (ap number_of h ∙ e) (number-some q)

  -- Without one a byte for each event stands in them.
  pub replay-played : (after : List ℕ) → replay_refusal N log lent ≡ 0 → after ≡ onto (silent_bytes N log) lent
      → Answered N log lent (record { refusal = 0; count = event_count log }) after
  unfolding replayed_by silent_after
  replay-played after e bytes = rw e (refl, bytes)

  -- A fault of the record refuses, then 18, then a fault of the log.
  pub refusal-faulty : (fault_of N ≡ 0 → ⊥) → replay_refusal N log lent ≡ fault_of N
  unfolding replay_refusal
  refusal-faulty some = some_then (fault_of N) _ (omega arith)

  pub refusal-short : fault_of N ≡ 0 → length lent < event_count log → replay_refusal N log lent ≡ 18
  unfolding replay_refusal
  refusal-short ok short =
      none_then _ ok ∙ ap (λ r. r then log_fault (present N) log) (some-when 18 (lt-ltb _ _ short)) ∙ some_then 18 _ (omega arith)

  pub refusal-log : fault_of N ≡ 0 → event_count log ≤ length lent → replay_refusal N log lent ≡ log_fault (present N) log
  unfolding replay_refusal
  refusal-log ok fits = none_then _ ok ∙ none_then _ (none-when 18 (le-ltb _ _ fits))

  -- Nothing is refused exactly if the record and the log keep the rules, and there is a byte for each event.
  pub replay-none : (replay_refusal N log lent ≡ 0) ↔ (Rules N × LogRules (present N) log × (event_count log ≤ length lent))
  unfolding replay_refusal
  replay-none = (
    λ e.
        let a = then-none (fault_of N) _ e in
        let b = then-none (18 when ltb (length lent) (event_count log)) _ a.1 in
        ((fault-rules N).0 a.0, (log-rules (present N) log).0 b.1, ltb-false _ _ (when-none 18 _ (omega arith) b.0)),
    λ k. refusal-log ((fault-rules N).1 k.0) k.2 ∙ (log-rules (present N) log).1 k.1,
  )

-- ---- what a byte tells

-- The byte of a test is 1 exactly if the test holds, and otherwise 0.
byte_one : (b : Bool) → (byte_of b ≡ 1) ↔ T b
byte_one true = (λ e. tt, λ t. refl)
byte_one false = (λ e. omega arith, λ t. absurd t)

byte-zero : (b : Bool) → (byte_of b ≡ 1 → ⊥) → byte_of b ≡ 0
byte-zero true f = absurd (f refl)
byte-zero false f = refl

-- The byte of what a set of edges severs tells whether the room is silent where they are down.
pub byte-tells : (N : Network) → Bounded N → (d : ℕ) → Tells N d (byte_of (severed N d))
byte-tells N B d =
    let routes = Iff.trans (byte_one (severed N d)) (severed-silenced N B d) in
    record { cut = Iff.trans routes (Iff.symm (holds-silenced N B d)); routes = routes; otherwise = byte-zero (severed N d) }

module _ (N : Network) (log : List ℕ) where
  -- There are as many bytes as events.
  pub bytes_count : length (silent_bytes N log) ≡ event_count log
  unfolding silent_bytes
  bytes_count = length-tabulate (event_count log) _

  -- Of an accepted network each tells whether the room is silent after its event.
  pub bytes-tell : Stored N → fault_of N ≡ 0 → (i : ℕ) → i < event_count log → Tells N (down_after log (suc i)) (get_or (silent_bytes N log) i 0)
  unfolding silent_bytes
  bytes-tell stored ok i h =
      rw (get_or-tabulate (event_count log) _ i h) (byte-tells N (accepted-sound N stored ok).bounded (down_after log (suc i)))

-- ---- what the answer means

module _ (N : Network) (log lent : List ℕ) where
  -- What a call answers and leaves means what it should.
  call-means : Stored N → ReplayMeans N log lent (replayed_by N log lent).refusal (replayed_by N log lent).count (silent_after N log lent)
  call-means stored = go (ℕ_discrete (replay_refusal N log lent) 0)
    where
      go : Dec (replay_refusal N log lent ≡ 0)
          → ReplayMeans N log lent (replayed_by N log lent).refusal (replayed_by N log lent).count (silent_after N log lent)
      go (yes e) =
          let (rules, good, fits) = (replay-none N log lent).0 e in
          let left = replay-played N log lent _ e refl in
          let count = bytes_count N log in
          rw (← left.0, ← left.1) (record {
            stored = stored;
            kept = (λ z. (rules, good, fits), λ k. refl);
            events = λ z. omega (arith, good.whole);
            told = λ z i h. rw (get_or-onto (silent_bytes N log) lent i (rw count h)) (bytes-tell N log stored ((fault-rules N).1 rules) i h);
            refused = λ f. absurd (f refl);
            later = drop-onto (silent_bytes N log) lent (event_count log) count;
            size = length-onto (silent_bytes N log) lent (rw count fits);
          })
      go (no f) =
          let left = replay-refused N log lent _ refl f in
          rw (← left.0, ← left.1) (record {
            stored = stored;
            kept = replay-none N log lent;
            events = λ z. absurd (f z);
            told = λ z. absurd (f z);
            refused = λ z. (refl, refl);
            later = refl;
            size = refl;
          })

-- Beside the answer stands what it means.
pub replay-means : (N : Network) → Stored N → (log lent : List ℕ) {answer : Replayed} {after : List ℕ} → Answered N log lent answer after
    → Answered N log lent answer after × ReplayMeans N log lent answer.refusal answer.count after
replay-means N stored log lent a = (a, rw (a.0, a.1) (call-means N log lent stored))
