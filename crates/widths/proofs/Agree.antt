-- Rows are answered alike in two networks in which their edges join the same pairs.
-- Assumes accepted networks, and that both have the edges of the rows.
use mathlib.Core.List.{List}
use mathlib.Core.Path.{◌≡◌, refl, sym, ◌∙◌}
use Prim.Native.Nat.{ℕ}
use Rattle.bitset.specs.Members.{◌∈◌}
use Rattle.network.specs.declared.Network.{Network}
use Rattle.network.specs.Record.{fault_of, present}
use Rattle.network.specs.Rules.{RowsPresent}
use Rattle.network.specs.Ends.{ends_of}
use Rattle.network.proofs.Sets.{rows_none}
use Rattle.widths.specs.Widths.{width_of, width_table, widths_of}
use Rattle.widths.proofs.Pairs.{width-agrees}
use Rattle.widths.proofs.WidthTable.{table-by}
use Rattle.widths.proofs.Answers.{widths-given}

module _ (M N : Network) (ok' : fault_of M ≡ 0) (ok : fault_of N ≡ 0) (same : (k : ℕ) → k ∈ present N → ends_of M k ≡ ends_of N k) where
  -- The rows have the same widths in both.
  table-agrees : (cuts : List ℕ) → RowsPresent N cuts → width_table M cuts ≡ width_table N cuts
  unfolding width_table
  table-agrees cuts within = table-by M (width_of N) cuts (λ c i. width-agrees M N c (λ k m. same k (within c i k m)))

  pub widths-agree : (cuts : List ℕ) → RowsPresent M cuts → RowsPresent N cuts → widths_of M cuts ≡ widths_of N cuts
  widths-agree cuts within' within =
      sym (widths-given M cuts 0 (width_table M cuts) (sym (rows_none M cuts ok' within')) refl refl)
      ∙ widths-given N cuts 0 (width_table M cuts) (sym (rows_none N cuts ok within)) refl (table-agrees cuts within)
