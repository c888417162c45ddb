-- Rows that are put one after the other, as far as the areas reach and as far as they are counted.
-- Assumes nothing.
use mathlib.Core.Path.{◌≡◌, refl, sym, ap, ◌∙◌}
use mathlib.Core.List.{List, [], ◌++◌, map, map-append}
use Prim.Native.Nat.{ℕ, ◌+◌, ◌≤◌, ◌<◌}
use native.Mathlib.Decide.{dec_le}
use native.Mathlib.Omega.{arith}
use lib.ListN.{length, length-append, length-map}
use lib.Seq.{sets, length-sets}
use Rattle.sequences.proofs.Stores.{sets-append, sets-out}
use Rattle.branches.specs.Enumeration.{Row, cuts_of, sides_of}
use Rattle.enumeration.specs.declared.rows.Rows.{Rows}
use Rattle.enumeration.specs.Rows.{Same, RowsPut}

module _ (r : Rows) where
  -- No row is put.
  pub put-none : RowsPut [] r r
  put-none = record { count = omega arith; put-cuts = refl; put_sides = refl }

  -- Past the limit no row is put, however many there are.
  pub put-past : r.limit < r.count → (l : List Row) → RowsPut l r r
  put-past h l = record {
    count = omega arith;
    put-cuts = sym (sets-out (cuts_of l) r.cuts.now r.count (omega arith));
    put_sides = sym (sets-out (sides_of l) r.sides.now r.count (omega arith));
  }

  -- Some rows are put, and then others.
  pub put_both : (j l : List Row) (r' r'' : Rows) → Same r r' → RowsPut j r r' → RowsPut l r' r'' → RowsPut (j ++ l) r r''
  put_both j l r' r'' same p q = record {
    count = omega (arith, p.count, q.count, same.limit, length-append j l);
    put-cuts = q.put-cuts ∙ one (λ (x : Row). x.0) r.cuts.now r'.cuts.now r.room.cuts-end p.put-cuts (dec_le (r.count + length j) r.limit);
    put_sides = q.put_sides ∙ one (λ (x : Row). x.1) r.sides.now r'.sides.now r.room.sides-end p.put_sides (dec_le (r.count + length j) r.limit);
  }
    where
      one : (f : Row → ℕ) (k k' : List ℕ) → length k ≤ r.limit → k' ≡ sets k r.count (map f j) → Dec (r.count + length j ≤ r.limit)
          → sets k' r'.count (map f l) ≡ sets k r.count (map f (j ++ l))
      one f k k' h e (yes s) =
          let place : r'.count ≡ r.count + length (map f j) = omega (arith, p.count, length-map j f) in
          rw (e, place, map-append f j l) (sets-append k r.count (map f j) (map f l))
      one f k k' h e (no s) =
          let same_length : length k' ≡ length k = ap length e ∙ length-sets k r.count (map f j) in
          sets-out (map f l) k' r'.count (omega (arith, p.count, same_length)) ∙ e
          ∙ sym (sets-out (map f l) (sets k r.count (map f j)) (r.count + length (map f j))
          (omega (arith, length-sets k r.count (map f j), length-map j f)))
          ∙ sets-append k r.count (map f j) (map f l) ∙ ap (sets k r.count) (sym (map-append f j l))

-- Areas that are the same, step after step.
pub same-on : {r r' r'' : Rows} → Same r r' → Same r' r'' → Same r r''
same-on s s' = record { cuts = s'.cuts ∙ s.cuts; sides = s'.sides ∙ s.sides; limit = s'.limit ∙ s.limit }
