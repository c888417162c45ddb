-- The call that lists a network which was trimmed already: its refusals, its answer from the steps that it takes, and what that means.
-- Assumes what the code's types say of the record.
--
--   TrimmedAnswered N cuts sides r cuts' sides'     the answer and the rows left are those of the call
use mathlib.Core.Path.{◌≡◌, refl, sym, ap, ◌∙◌}
use mathlib.Core.Bool.{Bool, true, false, not}
use mathlib.Core.List.{List}
use mathlib.Core.Logic.Dec
use mathlib.Core.Logic.{◌↔◌}
use Prim.Native.Nat.{ℕ}
use native.Mathlib.Decide.{ℕ_discrete}
use native.Mathlib.Omega.{arith}
use borrow.Author.Tests.{not-true}
use denote.Floats.{is_true}
use lib.Dec.{T}
use lib.ListN.{length}
use Rattle.sequences.specs.Words.{onto}
use Rattle.sequences.proofs.Tests.{T-dec}
use Rattle.bitset.proofs.Subsets.{same_test}
use Rattle.std.specs.Prelude.{Result, Ok, Err}
use Rattle.std.specs.Result.{IsErrAnd}
use Rattle.network.specs.declared.Network.{Network}
use Rattle.network.specs.declared.refusal.Refusal.{Refusal}
use Rattle.network.specs.Refusals.{number_of}
use Rattle.network.specs.Record.{among, fault_of, Stored}
use Rattle.network.proofs.Refusals.{none_then, some_then, refused-some, number-some}
use Rattle.network.proofs.Numbers.{not-fault}
use Rattle.graph.specs.Cuts.{Trimmed, Untrimmed}
use Rattle.graph.specs.Relevant.{trimmed}
use Rattle.graph.proofs.Sound.{accepted-sound}
use Rattle.graph.proofs.Trimmed.{trimmed-iff, untrimmed-iff}
use Rattle.trimmed.specs.Trimmed.{trimmed_fault}
use Rattle.trimmed.proofs.Faults.{trimmed-faulty, trimmed-refused, trimmed-none, trimmed-ok}
use Rattle.listing.specs.List.{Listed, listed, mincuts, source_sides, listed_under, cut_rows_under, side_rows_under, list_refusal, listed_by, cut_rows_after, side_rows_after, ListMeans}
use Rattle.listing.specs.Trimmed.{trimmed_refusal, trimmed_listed_by, trimmed_cut_rows, trimmed_side_rows, TrimmedMeans}
use Rattle.listing.proofs.Refusals.{Case, faulty, unpaired, outnumbered, complete, call-case, refusal-faulty, refusal-unpaired, refusal-outnumbered, refusal-none}
use Rattle.listing.proofs.Call.{Answered, answered-listing}
use Rattle.listing.proofs.Meaning.{answered-means}

-- The answer and the rows left are those of the call.
abbrev pub TrimmedAnswered : Network → List ℕ → List ℕ → Listed → List ℕ → List ℕ → Type 0
TrimmedAnswered N cuts sides r cuts' sides' =
    (r ≡ trimmed_listed_by N cuts sides) × (cuts' ≡ trimmed_cut_rows N cuts sides) × (sides' ≡ trimmed_side_rows N cuts sides)

module _ (N : Network) (cuts sides : List ℕ) where
  -- ---- the refusal

  -- What refuses the network refuses the call.
  trimmed-first : (trimmed_fault N ≡ 0 → ⊥) → trimmed_refusal N cuts sides ≡ trimmed_fault N
  unfolding trimmed_refusal
  trimmed-first some = some_then (trimmed_fault N) (list_refusal N cuts sides) (omega arith)

  -- Otherwise the list call's refusal is the call's.
  trimmed-then : trimmed_fault N ≡ 0 → trimmed_refusal N cuts sides ≡ list_refusal N cuts sides
  unfolding trimmed_refusal
  trimmed-then none = none_then (list_refusal N cuts sides) none

  -- The list call gives no 26.
  not-list-26 : list_refusal N cuts sides ≡ 26 → ⊥
  unfolding among
  not-list-26 e = go (call-case N cuts sides)
    where
      go : Case N cuts sides → ⊥
      go (faulty f) = not-fault N 26 (λ t. t) (sym (refusal-faulty N cuts sides f) ∙ e)
      go (unpaired ok f) = omega (arith, (refusal-unpaired N cuts sides).1 (ok, f))
      go (outnumbered ok p h) = omega (arith, (refusal-outnumbered N cuts sides).1 (ok, p, h))
      go (complete ok p h) = omega (arith, (refusal-none N cuts sides).1 (ok, p, h))

  -- 26 is given exactly if no earlier fault stands and the network is not trimmed.
  pub refusal-untrimmed : (trimmed_refusal N cuts sides ≡ 26) ↔ ((fault_of N ≡ 0) × (trimmed N ≡ false))
  unfolding among
  refusal-untrimmed = (
    λ e. go (ℕ_discrete (fault_of N) 0) (trimmed N) refl e,
    λ p. let by = trimmed-refused N p.0 p.1 in trimmed-first (λ z. omega arith) ∙ by,
  )
    where
      go : Dec (fault_of N ≡ 0) → (b : Bool) → trimmed N ≡ b → trimmed_refusal N cuts sides ≡ 26 → (fault_of N ≡ 0) × (trimmed N ≡ false)
      go (no f) b q e =
          let by = trimmed-faulty N f in
          absurd (not-fault N 26 (λ t. t) (sym by ∙ sym (trimmed-first (λ z. f (sym by ∙ z))) ∙ e))
      go (yes ok) false q e = (ok, q)
      go (yes ok) true q e = absurd (not-list-26 (sym (trimmed-then (trimmed-none N ok q)) ∙ e))

  -- With any other number the refusal is that of the list call.
  pub refusal-ordinary : (trimmed_refusal N cuts sides ≡ 26 → ⊥) → trimmed_refusal N cuts sides ≡ list_refusal N cuts sides
  refusal-ordinary other = go (ℕ_discrete (fault_of N) 0) (trimmed N) refl
    where
      go : Dec (fault_of N ≡ 0) → (b : Bool) → trimmed N ≡ b → trimmed_refusal N cuts sides ≡ list_refusal N cuts sides
      go (no f) b q =
          let by = trimmed-faulty N f in
          trimmed-first (λ z. f (sym by ∙ z)) ∙ by ∙ sym (refusal-faulty N cuts sides f)
      go (yes ok) false q = absurd (other (refusal-untrimmed.1 (ok, q)))
      go (yes ok) true q = trimmed-then (trimmed-none N ok q)

  -- ---- the steps of the call

  -- What refuses the network leaves the rows as they were.
  pub trimmed-answered-refused : (r : ℕ) → r ≡ trimmed_fault N → (r ≡ 0 → ⊥) → TrimmedAnswered N cuts sides (record { refusal = r; count = 0 }) cuts sides
  unfolding trimmed_listed_by trimmed_cut_rows trimmed_side_rows
  trimmed-answered-refused r e some =
      rw (trimmed-first (λ z. some (e ∙ z)), ← e, refused-some r (length (mincuts N)) 0 some, refused-some r (onto (mincuts N) cuts) cuts some, refused-some r (onto (source_sides N) sides) sides some)
      (refl, refl, refl)

  -- So it is where the refusal is passed on.
  pub trimmed-answered-passed : (a : Result ℕ Refusal) (r : Refusal) → IsErrAnd a (λ e. e ≡ r) → number_of r ≡ trimmed_fault N
      → TrimmedAnswered N cuts sides (listed a) cuts sides
  trimmed-answered-passed (Ok n) r passed e = absurd passed
  trimmed-answered-passed (Err x) r passed e = rw passed (trimmed-answered-refused (number_of r) e (number-some r))

  -- Where the refusal is that of the list call, so are the answer and the rows.
  pub answers-ordinary : trimmed_refusal N cuts sides ≡ list_refusal N cuts sides
      → (trimmed_listed_by N cuts sides ≡ listed_by N cuts sides)
      × (trimmed_cut_rows N cuts sides ≡ cut_rows_after N cuts sides)
      × (trimmed_side_rows N cuts sides ≡ side_rows_after N cuts sides)
  unfolding trimmed_listed_by trimmed_cut_rows trimmed_side_rows listed_by cut_rows_after side_rows_after
  answers-ordinary e = (ap (λ r. listed_under r N) e, ap (λ r. cut_rows_under r N cuts) e, ap (λ r. side_rows_under r N sides) e)

  -- What lists the trimmed network as the list call does is the call.
  pub trimmed-answered : trimmed_fault N ≡ 0 → {r : Listed} {cuts' sides' : List ℕ} → Answered N cuts sides r cuts' sides'
      → TrimmedAnswered N cuts sides r cuts' sides'
  trimmed-answered none a =
      let same = answers-ordinary (trimmed-then none) in
      (a.0 ∙ sym same.0, a.1 ∙ sym same.1, a.2 ∙ sym same.2)

  -- ---- what it means

  -- The answer's refusal is the call's.
  pub trimmed-refusal : (trimmed_listed_by N cuts sides).refusal ≡ trimmed_refusal N cuts sides
  unfolding trimmed_listed_by
  trimmed-refusal = refl

  -- Beside the answer stands what it means.
  pub trimmed-means : Stored N → {r : Listed} {cuts' sides' : List ℕ} → TrimmedAnswered N cuts sides r cuts' sides'
      → TrimmedAnswered N cuts sides r cuts' sides' × TrimmedMeans N cuts sides r.refusal r.count cuts' sides'
  trimmed-means stored {r} {cuts'} {sides'} a =
      let by : r.refusal ≡ trimmed_refusal N cuts sides = ap (λ (x : Listed). x.refusal) a.0 ∙ trimmed-refusal in
      let other : (k : ℕ) → (k ≡ 26 → ⊥) → r.refusal ≡ k → r.refusal ≡ 26 → ⊥ = λ k ne e f. ne (sym e ∙ f) in
      let ordinary : (r.refusal ≡ 26 → ⊥) → Answered N cuts sides r cuts' sides' = λ ne.
      let same = answers-ordinary (refusal-ordinary (λ e. ne (by ∙ e))) in
      (a.0 ∙ same.0, a.1 ∙ same.1, a.2 ∙ same.2) in
      let listed : (r.refusal ≡ 26 → ⊥) → ListMeans N cuts sides r.refusal r.count cuts' sides' =
      λ ne. (answered-means N stored cuts sides (ordinary ne)).1 in
      let lacks : fault_of N ≡ 0 → T (not (trimmed N)) ↔ Untrimmed N = λ ok. untrimmed-iff N (accepted-sound N stored ok) in
      let whole : fault_of N ≡ 0 → T (trimmed N) ↔ Trimmed N = λ ok. trimmed-iff N (accepted-sound N stored ok) in
      let is : fault_of N ≡ 0 → (r.refusal ≡ 26 → ⊥) → Trimmed N = λ ok ne.
      (whole ok).0 ((Dec.not-not (T-dec (trimmed N))).0 (λ n. ne (by ∙ refusal-untrimmed.1 (ok, same_test (trimmed N) false n absurd)))) in (
        a,
        record {
          stored = stored;
          untrimmed = (
            λ e. let p = refusal-untrimmed.0 (sym by ∙ e) in (p.0, (lacks p.0).0 (rw p.1 tt)),
            λ p. by ∙ refusal-untrimmed.1 (p.0, not-true (trimmed N) (is_true _ ((lacks p.0).1 p.1))),
          );
          complete = λ none.
              let ne = other 0 (λ e. omega arith) none in
              (is (trimmed-ok N (first-none (sym by ∙ none))).0 ne, (listed ne).complete none);
          outnumbered = (
            λ e.
                let ne = other 12 (λ f. omega arith) e in
                let (ok, paired, more) = (listed ne).outnumbered.0 e in
                (ok, is ok ne, paired, more),
            λ (ok, t, paired, more).
                let ne : r.refusal ≡ 26 → ⊥ = λ e. rw (refusal-untrimmed.0 (sym by ∙ e)).1 at ((whole ok).1 t) in
                (listed ne).outnumbered.1 (ok, paired, more),
          );
          ordinary = λ ne. answered-listing (ordinary ne);
        },
      )
    where
      first-none : trimmed_refusal N cuts sides ≡ 0 → trimmed_fault N ≡ 0
      first-none e = elim (ℕ_discrete (trimmed_fault N) 0) [ yes z ↦ z | no n ↦ absurd (n (sym (trimmed-first n) ∙ e)) ]
