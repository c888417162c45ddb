-- The refusal of a call on a record and edges of it, a set or rows.
-- Assumes nothing.
use mathlib.Core.Bool.{Bool, true, false, not}
use mathlib.Core.List.{List}
use mathlib.Core.Logic.{◌↔◌}
use mathlib.Core.Path.{◌≡◌, refl, ◌∙◌}
use Prim.Native.Nat.{ℕ}
use native.Mathlib.Nat.{zero-lt-suc}
use native.Mathlib.Omega.{arith}
use borrow.Author.Tests.{not-false}
use denote.Floats.{passes}
use lib.Bits.{bit_and}
use lib.Dec.{T}
use Rattle.sequences.specs.Words.{every}
use Rattle.sequences.proofs.Tests.{T-eqb}
use Rattle.sequences.proofs.Words.{T-every}
use Rattle.bitset.specs.Members.{◌⊆◌}
use Rattle.bitset.proofs.Subsets.{subset-and}
use Rattle.network.specs.declared.Network.{Network}
use Rattle.network.specs.Record.{◌when◌, fault_of, all_present, edges_fault, set_fault, rows_fault, present}
use Rattle.network.specs.Rules.{RowsPresent}
use Rattle.network.proofs.Refusals.{then-none, none_then, some_then, when-none}

-- ---- edges, by what is asked of them

module _ (N : Network) (b : Bool) {P : Type 0} (says : T b ↔ P) where
  -- A fault of the record refuses.
  edges-record : (r : ℕ) → r ≡ fault_of N → (r ≡ 0 → ⊥) → edges_fault N b ≡ r
  unfolding edges_fault
  edges-record r fault some = rw (← fault) (some_then r _ (omega arith))

  -- An edge that is not present refuses.
  edges-absent : fault_of N ≡ 0 → (P → ⊥) → edges_fault N b ≡ 14
  unfolding edges_fault ◌when◌
  edges-absent ok out = none_then _ ok ∙ go b (λ t. out (says.0 t))
    where
      go : (a : Bool) → (T a → ⊥) → (14 when not a) ≡ 14
      go true f = absurd (f tt)
      go false f = refl

  -- Edges of an accepted network that are all present are not refused.
  edges_none : fault_of N ≡ 0 → P → edges_fault N b ≡ 0
  unfolding edges_fault ◌when◌
  edges_none ok within = none_then _ ok ∙ go b (says.1 within)
    where
      go : (a : Bool) → T a → (14 when not a) ≡ 0
      go true t = refl
      go false t = absurd t

  -- What is not refused are such edges.
  edges-ok : edges_fault N b ≡ 0 → (fault_of N ≡ 0) × P
  unfolding edges_fault
  edges-ok none =
      let p = then-none (fault_of N) (14 when not b) none in
      (p.0, says.0 (passes b (not-false b (when-none 14 (not b) (zero-lt-suc 13) p.1))))

-- ---- a set

module _ (N : Network) (c : ℕ) where
  -- The test asks whether the set lies inside the edges present.
  all-present : T (all_present N c) ↔ (c ⊆ present N)
  all-present = (
    λ t. (subset-and c (present N)).1 ((T-eqb (bit_and c (present N)) c).0 t),
    λ within. (T-eqb (bit_and c (present N)) c).1 ((subset-and c (present N)).0 within),
  )

  pub set-record : (r : ℕ) → r ≡ fault_of N → (r ≡ 0 → ⊥) → set_fault N c ≡ r
  unfolding set_fault
  set-record = edges-record N (all_present N c) all-present

  pub set-absent : fault_of N ≡ 0 → (c ⊆ present N → ⊥) → set_fault N c ≡ 14
  unfolding set_fault
  set-absent = edges-absent N (all_present N c) all-present

  pub set-none : fault_of N ≡ 0 → c ⊆ present N → set_fault N c ≡ 0
  unfolding set_fault
  set-none = edges_none N (all_present N c) all-present

  pub set-ok : set_fault N c ≡ 0 → (fault_of N ≡ 0) × (c ⊆ present N)
  unfolding set_fault
  set-ok = edges-ok N (all_present N c) all-present

-- ---- rows

module _ (N : Network) (l : List ℕ) where
  -- The test asks whether every row does.
  rows-present : T (every (all_present N) l) ↔ RowsPresent N l
  rows-present = (
    λ t c m. (all-present N c).0 ((T-every (all_present N) l).0 t c m),
    λ within. (T-every (all_present N) l).1 (λ c m. (all-present N c).1 (within c m)),
  )

  pub rows-record : (r : ℕ) → r ≡ fault_of N → (r ≡ 0 → ⊥) → rows_fault N l ≡ r
  unfolding rows_fault
  rows-record = edges-record N (every (all_present N) l) rows-present

  pub rows-absent : fault_of N ≡ 0 → (RowsPresent N l → ⊥) → rows_fault N l ≡ 14
  unfolding rows_fault
  rows-absent = edges-absent N (every (all_present N) l) rows-present

  pub rows_none : fault_of N ≡ 0 → RowsPresent N l → rows_fault N l ≡ 0
  unfolding rows_fault
  rows_none = edges_none N (every (all_present N) l) rows-present

  pub rows_ok : rows_fault N l ≡ 0 → (fault_of N ≡ 0) × RowsPresent N l
  unfolding rows_fault
  rows_ok = edges-ok N (every (all_present N) l) rows-present
