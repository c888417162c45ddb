-- The answer of the width table's call, and what it means.
-- Assumes nothing.
use mathlib.Core.List.{List}
use mathlib.Core.Path.{◌≡◌, sym, ap, ◌∙◌}
use Prim.Native.Nat.{ℕ}
use native.Mathlib.Decide.{ℕ_discrete}
use lib.ListN.{length, replicate}
use Rattle.std.specs.Prelude.{Result, Ok, Err}
use Rattle.std.specs.Result.{IsErrAnd}
use Rattle.network.specs.declared.Network.{Network}
use Rattle.network.specs.Record.{rows_fault, Stored}
use Rattle.network.specs.declared.refusal.Refusal.{Refusal}
use Rattle.network.specs.Refusals.{number_of}
use Rattle.network.proofs.Refusals.{number-some, refused_none, refused-some}
use Rattle.network.proofs.Rules.{fault-rules}
use Rattle.network.proofs.Sets.{rows_none, rows_ok}
use Rattle.widths.specs.Widths.{Widths, counted, width_table, widths_of, WidthsMean}
use Rattle.widths.proofs.WidthTable.{length-table, table_at, table-sum}

module _ (N : Network) (cuts : List ℕ) where
  -- A refusal gives 0 for every width, and what is not refused the table.
  pub widths-refused : (r : ℕ) → r ≡ rows_fault N cuts → (r ≡ 0 → ⊥) → record { refusal = r; counts = replicate 65 0 } ≡ widths_of N cuts
  unfolding widths_of
  widths-refused r e some = rw (← e, refused-some r (width_table N cuts) (replicate 65 0) some)

  pub widths-given : (r : ℕ) (t : List ℕ) → r ≡ rows_fault N cuts → r ≡ 0 → t ≡ width_table N cuts
      → record { refusal = 0; counts = t } ≡ widths_of N cuts
  unfolding widths_of
  widths-given r t e none f = rw (← e, none, f)

  -- A refusal that is passed on is one.
  pub widths-passed : (a : Result (List ℕ) Refusal) (r : Refusal) → IsErrAnd a (λ e. e ≡ r) → number_of r ≡ rows_fault N cuts
      → counted a ≡ widths_of N cuts
  widths-passed (Ok t) r h e = absurd h
  widths-passed (Err q) r h e = widths-refused (number_of q) (ap number_of h ∙ e) (number-some q)

  -- Beside the answer stands what it means.
  pub widths-mean : Stored N → {a : Widths} → a ≡ widths_of N cuts → (a ≡ widths_of N cuts) × WidthsMean N cuts a.refusal a.counts
  unfolding widths_of
  widths-mean stored {a} e = (
    e,
    record {
      stored = stored;
      kept = (
        λ z. let p = rows_ok N cuts (sym refusal ∙ z) in ((fault-rules N).0 p.0, p.1),
        λ p. refusal ∙ rows_none N cuts ((fault-rules N).1 p.0) p.1,
      );
      size = size (ℕ_discrete a.refusal 0);
      counted = λ z w h. rw (given z) (table_at N cuts w h);
      whole = λ z. rw (given z) (table-sum N cuts);
      refused = none;
    },
  )
    where
      refusal : a.refusal ≡ rows_fault N cuts
      refusal = ap (λ (x : Widths). x.refusal) e

      given : a.refusal ≡ 0 → a.counts ≡ width_table N cuts
      given z = ap (λ (x : Widths). x.counts) e ∙ refused_none (width_table N cuts) (replicate 65 0) (sym refusal ∙ z)

      none : (a.refusal ≡ 0 → ⊥) → a.counts ≡ replicate 65 0
      none f = ap (λ (x : Widths). x.counts) e ∙ refused-some (rows_fault N cuts) (width_table N cuts) (replicate 65 0) (λ z. f (refusal ∙ z))

      size : Dec (a.refusal ≡ 0) → length a.counts ≡ 65
      size (yes z) = ap length (given z) ∙ length-table N cuts
      size (no f) = ap length (none f)
