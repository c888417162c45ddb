-- What the list call has to answer and to leave, from what its steps do: a refusal and the rows untouched, or the rows filled and sorted.
-- Assumes an accepted record where rows are enumerated.
--
--   Answered N cuts sides r cuts' sides'     the answer and the rows left are those of the call
use mathlib.Core.Path.{◌≡◌, refl, sym, ap, ◌∙◌}
use mathlib.Core.List.{List, ◌++◌}
use Prim.Native.Nat.{ℕ, ◌≤◌, ◌<◌}
use native.Mathlib.Omega.{arith}
use lib.ListN.{length, take, drop, length-map}
use Rattle.sequences.specs.Words.{onto}
use Rattle.std.specs.Prelude.{Result, Ok, Err}
use Rattle.std.specs.Result.{IsErrAnd}
use Rattle.network.specs.declared.Network.{Network}
use Rattle.network.specs.declared.refusal.Refusal.{Refusal}
use Rattle.network.specs.Refusals.{number_of}
use Rattle.network.specs.Record.{fault_of, Stored}
use Rattle.network.proofs.Refusals.{refused-some, number-some}
use Rattle.sorting.specs.Sorted.{Sorted}
use Rattle.filling.specs.Filled.{Filled}
use Rattle.graph.proofs.Sound.{Sound, accepted-sound}
use Rattle.branches.specs.Enumeration.{Row, cuts_of, sides_of, rows}
use Rattle.listing.specs.List.{Listed, listed, mincuts, source_sides, list_refusal, listed_by, cut_rows_after, side_rows_after, Listing}
use Rattle.listing.proofs.Rows.{rows-paired, mincuts-count, sorted-mincuts, sorted-sides}
use Rattle.listing.proofs.LentOn.{onto-first, onto-back}
use Rattle.listing.proofs.Refusals.{refusal-faulty, refusal-unpaired, refusal-outnumbered, refusal-none}

-- The answer and the rows left are those of the call.
abbrev pub Answered : Network → List ℕ → List ℕ → Listed → List ℕ → List ℕ → Type 0
Answered N cuts sides r cuts' sides' =
    (r ≡ listed_by N cuts sides) × (cuts' ≡ cut_rows_after N cuts sides) × (sides' ≡ side_rows_after N cuts sides)

-- So they are number by number.
pub answered-listing : {N : Network} {cuts sides : List ℕ} {r : Listed} {cuts' sides' : List ℕ} → Answered N cuts sides r cuts' sides'
    → Listing N cuts sides r.refusal r.count cuts' sides'
answered-listing a = record {
  refusal = ap (λ (l : Listed). l.refusal) a.0;
  count = ap (λ (l : Listed). l.count) a.0;
  cut-rows = a.1;
  side-rows = a.2;
}

-- A refusal leaves the rows as they were.
refused : (N : Network) (cuts sides : List ℕ) (r : ℕ) → list_refusal N cuts sides ≡ r → (r ≡ 0 → ⊥)
    → Answered N cuts sides (record { refusal = r; count = 0 }) cuts sides
unfolding listed_by cut_rows_after side_rows_after
refused N cuts sides r e some =
    rw (e, refused-some r (length (mincuts N)) 0 some, refused-some r (onto (mincuts N) cuts) cuts some, refused-some r (onto (source_sides N) sides) sides some)
    (refl, refl, refl)

-- Otherwise the complete list is written onto the rows.
pub completed : (N : Network) (cuts sides : List ℕ) → list_refusal N cuts sides ≡ 0
    → Answered N cuts sides (record { refusal = 0; count = length (mincuts N) }) (onto (mincuts N) cuts) (onto (source_sides N) sides)
unfolding listed_by cut_rows_after side_rows_after
completed N cuts sides e = rw e (refl, refl, refl)

-- The answer's refusal is the call's.
pub answer-refusal : (N : Network) (cuts sides : List ℕ) → (listed_by N cuts sides).refusal ≡ list_refusal N cuts sides
unfolding listed_by
answer-refusal N cuts sides = refl

-- A call that gave the refusal 0 was made on a sound network, and has written the complete list onto the rows.
pub complete-call : (N : Network) → Stored N → (cuts sides : List ℕ) → (listed_by N cuts sides).refusal ≡ 0
    → Sound N
    × Answered N cuts sides (record { refusal = 0; count = length (mincuts N) }) (onto (mincuts N) cuts) (onto (source_sides N) sides)
complete-call N stored cuts sides e =
    let none : list_refusal N cuts sides ≡ 0 = sym (answer-refusal N cuts sides) ∙ e in
    (accepted-sound N stored ((refusal-none N cuts sides).0 none).0, completed N cuts sides none)

-- ---- the steps of the call

module _ (N : Network) (cuts sides : List ℕ) where
  -- A record with a fault is refused with it.
  pub answered-faulty : (r : ℕ) → r ≡ fault_of N → (r ≡ 0 → ⊥) → Answered N cuts sides (record { refusal = r; count = 0 }) cuts sides
  answered-faulty r e n = refused N cuts sides r (refusal-faulty N cuts sides (λ z. n (e ∙ z)) ∙ sym e) n

  -- So it is where the refusal is passed on.
  pub answered-refused : (a : Result ℕ Refusal) (r : Refusal) → IsErrAnd a (λ e. e ≡ r) → number_of r ≡ fault_of N
      → Answered N cuts sides (listed a) cuts sides
  answered-refused (Ok n) r passed e = absurd passed
  answered-refused (Err x) r passed e = rw passed (answered-faulty (number_of r) e (number-some r))

  -- Rows that differ in number are refused with 11.
  pub answered-unpaired : fault_of N ≡ 0 → (length cuts ≡ length sides → ⊥) → Answered N cuts sides (record { refusal = 11; count = 0 }) cuts sides
  answered-unpaired ok differ = refused N cuts sides 11 ((refusal-unpaired N cuts sides).1 (ok, differ)) (λ e. omega arith)

  module _ (stored : Stored N) (ok : fault_of N ≡ 0) (paired : length cuts ≡ length sides) where
    -- The network is sound.
    sound : Sound N
    sound = accepted-sound N stored ok

    -- Fewer rows than the enumeration has are refused with 12.
    pub answered-outnumbered : length cuts < length (rows N) → Answered N cuts sides (record { refusal = 12; count = 0 }) cuts sides
    answered-outnumbered h = refused N cuts sides 12 ((refusal-outnumbered N cuts sides).1 (ok, paired, rw (mincuts-count N sound) h)) (λ e. omega arith)

    -- That is so where more are counted than are lent, and nothing was written.
    pub answered-unfilled : {cuts' sides' : List ℕ} {n : ℕ} → Filled (rows N) cuts sides cuts' sides' n → length cuts < n
        → Answered N cuts sides (record { refusal = 12; count = 0 }) cuts' sides'
    answered-unfilled f h =
        let many : length cuts < length (rows N) = omega (arith, f.count) in
        rw ((f.outnumbered many).0, (f.outnumbered many).1) (answered-outnumbered many)

    -- Otherwise the rows of the enumeration are written onto those lent, and these n are sorted in place.
    pub answered-complete : {filled filled' : List ℕ} {n : ℕ} → Filled (rows N) cuts sides filled filled' n → n ≤ length cuts
        → (sorted sorted' : List ℕ) → Sorted (take n filled) (take n filled') sorted sorted'
        → Answered N cuts sides (record { refusal = 0; count = n }) (sorted ++ drop n filled) (sorted' ++ drop n filled')
    answered-complete {filled} {filled'} {n} f fits sorted sorted' s =
        let l = rows N in
        let count : n ≡ length l = omega (arith, f.count) in
        let count-cuts : n ≡ length (cuts_of l) = count ∙ sym (length-map l (λ (r : Row). r.0)) in
        let count-sides : n ≡ length (sides_of l) = count-cuts ∙ rows-paired l in
        let (p, q) = f.enough (rw (← count) fits) in
        let done : Sorted (cuts_of l) (sides_of l) sorted sorted' =
        rw (p, q, onto-first (cuts_of l) cuts n count-cuts, onto-first (sides_of l) sides n count-sides) at s in
        let whole = completed N cuts sides ((refusal-none N cuts sides).1 (ok, paired, rw (mincuts-count N sound, ← count) fits)) in
        rw (
          p,
          q,
          onto-back (cuts_of l) cuts n count-cuts sorted done.cuts-length,
          onto-back (sides_of l) sides n count-sides sorted' done.sides-length,
          sorted-mincuts N sound (sides_of l) sorted sorted' (rows-paired l) done,
          sorted-sides N sound sorted sorted' done,
          count,
          ← mincuts-count N sound,
        )
        whole
