-- The call that counts silent minutes: what it answers on each way out, and what that means.
-- Assumes, for what the minutes mean, what the code's types say of the record.
use mathlib.Core.Bool.{true, false, ◌||◌}
use mathlib.Core.List.{List}
use mathlib.Core.Logic.{◌⊎◌, inl, inr, ◌↔◌}
use mathlib.Core.Path.{◌≡◌, refl, sym, ap, ◌∙◌}
use Prim.Native.Nat.{ℕ, ◌*◌, ◌≤◌, ◌<◌}
use native.Mathlib.Decide.{ℕ_discrete}
use native.Mathlib.Omega.{arith}
use borrow.Author.Tests.{ltb-false, lt-ltb, le-ltb}
use denote.Floats.{passes, is_true}
use lib.Dec.{T, ltb}
use lib.ListN.{length}
use Rattle.std.specs.Prelude.{Result, Ok, Err}
use Rattle.std.specs.Result.{IsErrAnd}
use Rattle.sequences.specs.Counts.{Exactly}
use Rattle.sequences.proofs.Tests.{T_and, T-or}
use Rattle.network.specs.declared.Network.{Network}
use Rattle.network.specs.declared.refusal.Refusal.{Refusal}
use Rattle.network.specs.Refusals.{number_of}
use Rattle.network.specs.Record.{◌when◌, ◌then◌, fault_of, present, Stored}
use Rattle.network.specs.Rules.{Rules}
use Rattle.network.proofs.Refusals.{number-some, then-none, none_then, some_then, when-none, none-when, some-when, or-none, refused-some}
use Rattle.network.proofs.Rules.{fault-rules}
use Rattle.graph.specs.Cuts.{Silenced, HoldsMincut}
use Rattle.graph.specs.Reach.{Bounded}
use Rattle.graph.specs.CutTests.{severed}
use Rattle.graph.proofs.Cuts.{severed-silenced, holds-silenced}
use Rattle.graph.proofs.Sound.{accepted-sound}
use Rattle.windows.specs.Windows.{week, is_open, out_at, opening_count, works_count, openings_fault, works_fault}
use Rattle.maintenance.specs.Outage.{silent_minute, silent_minutes, too_many, outage_refusal, Outage, outage, outage_of, WindowRules, OutageMeans}
use Rattle.sequences.proofs.Ranges.{exactly-counted}
use Rattle.windows.proofs.Windows.{openings-rules, works-rules}
use Rattle.windows.proofs.Times.{left, left-61}

-- ---- the ways out

module _ (o w : List ℕ) where
  -- There are not too many windows exactly if there are at most 14 and 16.
  pub few : (too_many o w ≡ false) ↔ ((opening_count o ≤ 14) × (works_count w ≤ 16))
  few = (
    λ e. let both = or-none _ _ e in (ltb-false _ _ both.0, ltb-false _ _ both.1),
    λ k. rw (le-ltb 14 (opening_count o) k.0, le-ltb 16 (works_count w) k.1) refl,
  )

  pub fits : length o ≤ 2 * 14 → length w ≤ 3 * 16 → too_many o w ≡ false
  fits h k = few.1 (omega arith, omega arith)

  pub many : (14 < opening_count o) ⊎ (16 < works_count w) → too_many o w ≡ true
  many (inl l) = ap (λ b. b || ltb 16 (works_count w)) (lt-ltb 14 (opening_count o) l)
  many (inr l) = is_true _ ((T-or (ltb 14 (opening_count o)) (ltb 16 (works_count w))).1 (inr (passes _ (lt-ltb 16 (works_count w) l))))

module _ (N : Network) (o w : List ℕ) where
  -- A refusal gives no minutes.
  pub outage-refused : (r : ℕ) → r ≡ outage_refusal N o w → (r ≡ 0 → ⊥) → record { refusal = r; minutes = 0 } ≡ outage_of N o w
  unfolding outage_of
  outage-refused r e some = rw (← e, refused-some r (silent_minutes N o w) 0 some) refl

  -- So does one that is passed on.
  pub outage-passed : (a : Result ℕ Refusal) (r : Refusal) → IsErrAnd a (λ e. e ≡ r) → number_of r ≡ outage_refusal N o w
      → outage a ≡ outage_of N o w
  outage-passed (Ok n) r h e = absurd h
  outage-passed (Err q) r h e = outage-refused (number_of q) (ap number_of h ∙ e) (number-some q)

  -- Without one they are counted.
  pub outage-counted : (n : ℕ) → outage_refusal N o w ≡ 0 → n ≡ silent_minutes N o w → record { refusal = 0; minutes = n } ≡ outage_of N o w
  unfolding outage_of
  outage-counted n e counted = rw (e, counted) refl

  -- A fault of the record refuses, then 23, then a fault of the openings, then one of the works.
  pub refusal-faulty : (fault_of N ≡ 0 → ⊥) → outage_refusal N o w ≡ fault_of N
  unfolding outage_refusal
  refusal-faulty some = some_then (fault_of N) _ (omega arith)

  module _ (ok : fault_of N ≡ 0) where
    pub refusal-many : too_many o w ≡ true → outage_refusal N o w ≡ 23
    unfolding outage_refusal
    refusal-many t =
        none_then _ ok
        ∙ ap (λ r. r then openings_fault o then works_fault (present N) w) (some-when 23 t)
        ∙ some_then 23 (openings_fault o then works_fault (present N) w) (omega arith)

    module _ (f : too_many o w ≡ false) where
      pub refusal-openings : {r : ℕ} → r ≡ openings_fault o → (r ≡ 0 → ⊥) → outage_refusal N o w ≡ r
      unfolding outage_refusal
      refusal-openings {r} e some =
          none_then _ ok ∙ none_then _ (none-when 23 f) ∙ ap (λ x. x then works_fault (present N) w) (sym e) ∙ some_then r _ (omega arith)

      pub refusal-works : openings_fault o ≡ 0 → outage_refusal N o w ≡ works_fault (present N) w
      unfolding outage_refusal
      refusal-works e = none_then _ ok ∙ none_then _ (none-when 23 f) ∙ none_then _ e

  -- Nothing is refused exactly if the record and the windows keep the rules.
  pub outage-none : (outage_refusal N o w ≡ 0) ↔ (Rules N × WindowRules (present N) o w)
  unfolding outage_refusal
  outage-none = (
    λ e.
        let a = then-none (fault_of N) _ e in
        let b = then-none (23 when too_many o w) _ a.1 in
        let c = then-none (openings_fault o) _ b.1 in
        let less = (few o w).0 (when-none 23 _ (omega arith) b.0) in (
          (fault-rules N).0 a.0,
          record {
            few-openings = less.0;
            few-works = less.1;
            openings = (openings-rules o).0 c.0;
            works = (works-rules (present N) w).0 c.1;
          },
        ),
    λ k.
        let rules = k.1 in
        refusal-works ((fault-rules N).1 k.0) ((few o w).1 (rules.few-openings, rules.few-works)) ((openings-rules o).1 rules.openings)
        ∙ (works-rules (present N) w).1 rules.works,
  )

-- Where nothing is refused, at most 61 changes are left at any minute: the measure of the loop over the week, and so its turns.
pub turns-61 : (N : Network) (o w : List ℕ) → outage_refusal N o w ≡ 0 → (m : ℕ) → left o w m ≤ 61
turns-61 N o w none = let rules = ((outage-none N o w).0 none).1 in left-61 o w rules.few-openings rules.few-works

-- ---- what the minutes mean

module _ (N : Network) (stored : Stored N) (ok : fault_of N ≡ 0) (o w : List ℕ) where
  abbrev B : Bounded N
  B = (accepted-sound N stored ok).bounded

  -- A minute is silent exactly if it is open and the edges then out leave no route,
  pub silent-minute : (m : ℕ) → T (silent_minute N o w m) ↔ (T (is_open o m) × Silenced N (out_at w m))
  unfolding silent_minute
  silent-minute m =
      let both = T_and (is_open o m) (severed N (out_at w m)) in
      let cut = severed-silenced N B (out_at w m) in
      (λ t. ((both.0 t).0, cut.0 (both.0 t).1), λ k. both.1 (k.0, cut.1 k.1))

  -- so the minutes of which this holds are as many as are counted.
  pub minutes-right : (P : ℕ → Type 0) → ((m : ℕ) → T (silent_minute N o w m) ↔ P m) → Exactly week P (silent_minutes N o w)
  unfolding silent_minutes
  minutes-right P right = exactly-counted (silent_minute N o w) week P right

  -- Both ways.
  silent-routes : Exactly week (λ m. T (is_open o m) × Silenced N (out_at w m)) (silent_minutes N o w)
  silent-routes = minutes-right _ silent-minute

  silent-cut : Exactly week (λ m. T (is_open o m) × HoldsMincut N (out_at w m)) (silent_minutes N o w)
  silent-cut = minutes-right _ (λ m.
      let routes = silent-minute m in
      let cut = holds-silenced N B (out_at w m) in
      (λ t. let k = routes.0 t in (k.0, cut.1 k.1), λ k. routes.1 (k.0, cut.0 k.1)))

-- What the call answers means what it should.
call-means : (N : Network) → Stored N → (o w : List ℕ) → OutageMeans N o w (outage_of N o w).refusal (outage_of N o w).minutes
call-means N stored o w = go (ℕ_discrete (outage_refusal N o w) 0)
  where
    go : Dec (outage_refusal N o w ≡ 0) → OutageMeans N o w (outage_of N o w).refusal (outage_of N o w).minutes
    go (yes e) =
        let (rules, windows) = (outage-none N o w).0 e in
        let ok = (fault-rules N).1 rules in
        rw (← outage-counted N o w _ e refl) (record {
          stored = stored;
          kept = (λ z. (rules, windows), λ k. refl);
          cut = λ z. silent-cut N stored ok o w;
          routes = λ z. silent-routes N stored ok o w;
          refused = λ f. absurd (f refl);
        })
    go (no f) =
        rw (← outage-refused N o w _ refl f) (record {
          stored = stored;
          kept = outage-none N o w;
          cut = λ z. absurd (f z);
          routes = λ z. absurd (f z);
          refused = λ z. refl;
        })

-- Beside the answer stands what it means.
pub outage-means : (N : Network) → Stored N → (o w : List ℕ) {answer : Outage} → answer ≡ outage_of N o w
    → (answer ≡ outage_of N o w) × OutageMeans N o w answer.refusal answer.minutes
outage-means N stored o w a = (a, rw a (call-means N stored o w))
