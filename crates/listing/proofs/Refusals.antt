-- The refusals of the list call: each is given exactly if its own condition holds and no earlier fault stands.
-- Assumes nothing.
--
--   Case N cuts sides    the four cases of a call
use mathlib.Core.Path.{◌≡◌, refl, sym, ◌∙◌}
use mathlib.Core.Bool.{Bool, not}
use mathlib.Core.List.{List}
use mathlib.Core.Logic.{◌↔◌}
use Prim.Native.Nat.{ℕ, ◌≤◌, ◌<◌}
use native.Mathlib.Decide.{ℕ_discrete, dec_lt}
use native.Mathlib.Omega.{arith}
use borrow.Author.Tests.{eq-eqb, ne_eqb, lt-ltb, le-ltb}
use lib.Dec.{ltb, eqb}
use lib.ListN.{length}
use Rattle.network.specs.declared.Network.{Network}
use Rattle.network.specs.Record.{◌when◌, ◌then◌, among, fault_of}
use Rattle.network.proofs.Refusals.{some_then}
use Rattle.network.proofs.Numbers.{not-fault}
use Rattle.listing.specs.List.{mincuts, list_refusal}

-- ---- the refusal of a call

-- The refusal from the record's fault, whether the rows are equally many, and whether the mincuts outnumber them.
abbrev refusal_by : ℕ → Bool → Bool → ℕ
refusal_by f paired many = f then 11 when not paired then 12 when many

-- The four cases of a call.
pub data Case (N : Network) (cuts sides : List ℕ) : Type 0 where
  faulty : (fault_of N ≡ 0 → ⊥) → Case N cuts sides
  unpaired : fault_of N ≡ 0 → (length cuts ≡ length sides → ⊥) → Case N cuts sides
  outnumbered : fault_of N ≡ 0 → length cuts ≡ length sides → length cuts < length (mincuts N) → Case N cuts sides
  complete : fault_of N ≡ 0 → length cuts ≡ length sides → length (mincuts N) ≤ length cuts → Case N cuts sides

module _ (N : Network) (cuts sides : List ℕ) where
  -- Every call is one of the cases.
  pub call-case : Case N cuts sides
  call-case = go (ℕ_discrete (fault_of N) 0) (ℕ_discrete (length cuts) (length sides)) (dec_lt (length cuts) (length (mincuts N)))
    where
      go : Dec (fault_of N ≡ 0) → Dec (length cuts ≡ length sides) → Dec (length cuts < length (mincuts N)) → Case N cuts sides
      go (no f) p q = faulty f
      go (yes e) (no f) q = unpaired e f
      go (yes e) (yes p) (yes h) = outnumbered e p h
      go (yes e) (yes p) (no f) = complete e p (omega arith)

  -- The refusal of an accepted record, by the two tests.
  accepted-refusal : fault_of N ≡ 0 → {p q : Bool} → eqb (length cuts) (length sides) ≡ p → ltb (length cuts) (length (mincuts N)) ≡ q
      → list_refusal N cuts sides ≡ refusal_by 0 p q
  unfolding list_refusal
  accepted-refusal e p q i = refusal_by (e i) (p i) (q i)

  -- A record's fault is the call's refusal.
  pub refusal-faulty : (fault_of N ≡ 0 → ⊥) → list_refusal N cuts sides ≡ fault_of N
  unfolding list_refusal
  refusal-faulty f =
      some_then (fault_of N) (11 when not (eqb (length cuts) (length sides)) then 12 when ltb (length cuts) (length (mincuts N))) (omega arith)

  -- Rows that differ in number give 11.
  from-unpaired : fault_of N ≡ 0 → (length cuts ≡ length sides → ⊥) → list_refusal N cuts sides ≡ 11
  unfolding ◌then◌ ◌when◌
  from-unpaired e f = accepted-refusal e (ne_eqb (length cuts) (length sides) f) refl

  -- Mincuts that outnumber the rows give 12.
  from-outnumbered : fault_of N ≡ 0 → length cuts ≡ length sides → length cuts < length (mincuts N) → list_refusal N cuts sides ≡ 12
  unfolding ◌then◌ ◌when◌
  from-outnumbered e p h = accepted-refusal e (eq-eqb (length cuts) (length sides) p) (lt-ltb (length cuts) (length (mincuts N)) h)

  -- Otherwise nothing is refused.
  from-complete : fault_of N ≡ 0 → length cuts ≡ length sides → length (mincuts N) ≤ length cuts → list_refusal N cuts sides ≡ 0
  unfolding ◌then◌ ◌when◌
  from-complete e p h = accepted-refusal e (eq-eqb (length cuts) (length sides) p) (le-ltb (length cuts) (length (mincuts N)) h)

  -- 11 is given exactly if no earlier fault stands and the rows differ in number.
  pub refusal-unpaired : (list_refusal N cuts sides ≡ 11) ↔ ((fault_of N ≡ 0) × (length cuts ≡ length sides → ⊥))
  unfolding among
  refusal-unpaired = (into call-case, λ k. from-unpaired k.0 k.1)
    where
      into : Case N cuts sides → list_refusal N cuts sides ≡ 11 → (fault_of N ≡ 0) × (length cuts ≡ length sides → ⊥)
      into (faulty f) v = absurd (not-fault N 11 (λ t. t) (sym (refusal-faulty f) ∙ v))
      into (unpaired e f) v = (e, f)
      into (outnumbered e p h) v = absurd (omega (arith, from-outnumbered e p h))
      into (complete e p h) v = absurd (omega (arith, from-complete e p h))

  -- 12, "too many cuts", is given exactly if no earlier fault stands and the mincuts outnumber the rows.
  pub refusal-outnumbered : (list_refusal N cuts sides ≡ 12) ↔ ((fault_of N ≡ 0) × (length cuts ≡ length sides) × (length cuts < length (mincuts N)))
  unfolding among
  refusal-outnumbered = (into call-case, λ k. from-outnumbered k.0 k.1 k.2)
    where
      into : Case N cuts sides → list_refusal N cuts sides ≡ 12 → (fault_of N ≡ 0) × (length cuts ≡ length sides) × (length cuts < length (mincuts N))
      into (faulty f) v = absurd (not-fault N 12 (λ t. t) (sym (refusal-faulty f) ∙ v))
      into (unpaired e f) v = absurd (omega (arith, from-unpaired e f))
      into (outnumbered e p h) v = (e, p, h)
      into (complete e p h) v = absurd (omega (arith, from-complete e p h))

  -- A call is complete exactly if no fault stands, the rows are equally many and all mincuts fit.
  pub refusal-none : (list_refusal N cuts sides ≡ 0) ↔ ((fault_of N ≡ 0) × (length cuts ≡ length sides) × (length (mincuts N) ≤ length cuts))
  refusal-none = (into call-case, λ k. from-complete k.0 k.1 k.2)
    where
      into : Case N cuts sides → list_refusal N cuts sides ≡ 0 → (fault_of N ≡ 0) × (length cuts ≡ length sides) × (length (mincuts N) ≤ length cuts)
      into (faulty f) v = absurd (omega (arith, refusal-faulty f))
      into (unpaired e f) v = absurd (omega (arith, from-unpaired e f))
      into (outnumbered e p h) v = absurd (omega (arith, from-outnumbered e p h))
      into (complete e p h) v = (e, p, h)
