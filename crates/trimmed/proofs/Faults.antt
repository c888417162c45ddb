-- The refusal of a network that was to be trimmed already.
-- Assumes nothing.
use mathlib.Core.Bool.{true, false, not}
use mathlib.Core.Path.{◌≡◌, ap, ◌∙◌}
use native.Mathlib.Nat.{zero-lt-suc}
use native.Mathlib.Omega.{arith}
use borrow.Author.Tests.{not-false}
use Rattle.network.specs.declared.Network.{Network}
use Rattle.network.specs.Record.{◌when◌, fault_of}
use Rattle.network.proofs.Refusals.{then-none, none_then, some_then, when-none, none-when, some-when}
use Rattle.graph.specs.Relevant.{trimmed}
use Rattle.trimmed.specs.Trimmed.{trimmed_fault}

module _ (N : Network) where
  -- A fault of the record refuses.
  pub trimmed-faulty : (fault_of N ≡ 0 → ⊥) → trimmed_fault N ≡ fault_of N
  unfolding trimmed_fault
  trimmed-faulty some = some_then (fault_of N) _ (omega arith)

  -- A node or a present edge that is not relevant refuses.
  pub trimmed-refused : fault_of N ≡ 0 → trimmed N ≡ false → trimmed_fault N ≡ 26
  unfolding trimmed_fault
  trimmed-refused ok lacks = none_then _ ok ∙ some-when 26 (ap not lacks)

  -- A trimmed network is not refused.
  pub trimmed-none : fault_of N ≡ 0 → trimmed N ≡ true → trimmed_fault N ≡ 0
  unfolding trimmed_fault
  trimmed-none ok whole = none_then _ ok ∙ none-when 26 (ap not whole)

  -- What is not refused is trimmed.
  pub trimmed-ok : trimmed_fault N ≡ 0 → (fault_of N ≡ 0) × (trimmed N ≡ true)
  unfolding trimmed_fault
  trimmed-ok none =
      let p = then-none (fault_of N) (26 when not (trimmed N)) none in
      (p.0, not-false (trimmed N) (when-none 26 (not (trimmed N)) (zero-lt-suc 25) p.1))
