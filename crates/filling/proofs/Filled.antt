-- How lent rows come to be filled: straight, or by a copy of rows that were kept, or not at all.
-- Assumes nothing.
use mathlib.Core.Path.{◌≡◌, refl, sym, ◌∙◌}
use mathlib.Core.List.{List, ◌++◌}
use Prim.Native.Nat.{ℕ, ◌+◌, min, ◌≤◌, ◌<◌}
use native.Mathlib.Omega.{arith}
use lib.ListN.{length, take, drop, length-map}
use Rattle.branches.specs.Enumeration.{Row, cuts_of, sides_of}
use Rattle.enumeration.specs.Rows.{Put}
use Rattle.filling.specs.Filled.{Filled}
use Rattle.filling.proofs.Onto.{sets-onto, kept-onto}

module _ {l : List Row} {cuts sides : List ℕ} where
  -- More rows are counted than are lent: nothing is written.
  pub filled_none : {r : ℕ} → r ≡ min (length l) (length cuts + 1) → length cuts < r → Filled l cuts sides cuts sides r
  filled_none count h = record {
    count = count;
    enough = λ few. absurd (omega arith);
    outnumbered = λ many. (refl, refl);
  }

  -- There are enough rows: all are written straight into them.
  pub filled-straight : {cuts' sides' : List ℕ} {r : ℕ} → length l ≤ length cuts → length cuts ≡ length sides
      → Put l 0 (length cuts) cuts sides cuts' sides' r → Filled l cuts sides cuts' sides' r
  filled-straight few paired put = record {
    count = omega (arith, put.count);
    enough = λ _. (
      put.put-cuts ∙ sets-onto (cuts_of l) cuts (omega (arith, length-map l (λ (x : Row). x.0))),
      put.put_sides ∙ sets-onto (sides_of l) sides (omega (arith, length-map l (λ (x : Row). x.1))),
    );
    outnumbered = λ many. absurd (omega arith);
  }

  -- All that were counted were kept among the first k rows found: they are copied.
  pub filled-copied : (found beside : List ℕ) (k : ℕ) {found' beside' copied copied' : List ℕ} {limit r : ℕ} → r ≡ min (length l) (length cuts + 1)
      → Put l 0 limit (take k found) (take k beside) found' beside' r
      → r ≤ k → k ≤ length cuts → k ≤ length found → length found ≡ length beside
      → copied ≡ take r (found' ++ drop k found) → copied' ≡ take r (beside' ++ drop k beside)
      → Filled l cuts sides (copied ++ drop r cuts) (copied' ++ drop r sides) r
  filled-copied found beside k {r = r} count put h few room paired copy copy' =
      let all : r ≡ length l = omega arith in record {
        count = count;
        enough = λ _. (
          kept-onto (cuts_of l) found cuts r k (all ∙ sym (length-map l (λ (x : Row). x.0))) h room put.put-cuts copy,
          kept-onto (sides_of l) beside sides r k (all ∙ sym (length-map l (λ (x : Row). x.1))) h (omega arith) put.put_sides copy',
        );
        outnumbered = λ many. absurd (omega arith);
      }
