-- The rows of the enumeration, sorted by cut, are the complete list with its source sides.
-- Assumes a sound network.
use mathlib.Core.Path.{◌≡◌, refl, sym, ap, ◌∙◌}
use mathlib.Core.List.Pairwise
use mathlib.Core.List.{List, [], ◌∷◌, map, zip, zip_with, Nodup, Memᴰ, Perm, perm_ext_iff_of_Nodup}
use mathlib.Core.Logic.Iff
use mathlib.Core.Logic.{◌↔◌, ∥∥₁_elim}
use Prim.Native.Nat.{ℕ, ◌<◌}
use native.Mathlib.Nat.{ℕ_set}
use native.Mathlib.Omega.{arith}
use lib.ListN.{length, get_or, length-map}
use lib.Seq.{ext_get_or}
use Rattle.sequences.proofs.Places.{get_or-map, perm-length}
use Rattle.network.specs.declared.Network.{Network}
use Rattle.sorting.specs.Sorted.{Sorted}
use Rattle.sorting.proofs.Order.{sorted-unique, sorted-beside}
use Rattle.graph.specs.Relevant.{source_side_of}
use Rattle.graph.proofs.Sound.{Sound}
use Rattle.branches.specs.Enumeration.{Row, cuts_of, sides_of, rows}
use Rattle.branches.specs.Lists.{Lists}
use Rattle.branches.proofs.Complete.{in_rows, in-cuts, cuts-once}
use Rattle.sequences.proofs.Distinct.{distinct-nodup}
use Rattle.listing.specs.List.{mincuts, source_sides}
use Rattle.listing.proofs.Mincuts.{mincuts-lists}

-- ---- lists

-- Rows are their cuts beside their sides.
zip-rows : (l : List Row) → zip (cuts_of l) (sides_of l) ≡ l
unfolding zip zip_with
zip-rows [] = refl
zip-rows (r ∷ l) = ap (λ (k : List Row). r ∷ k) (zip-rows l)

-- There are as many sides as cuts.
pub rows-paired : (l : List Row) → length (cuts_of l) ≡ length (sides_of l)
rows-paired l = length-map l (λ (r : Row). r.0) ∙ sym (length-map l (λ (r : Row). r.1))

-- ---- the rows of a network

module _ (N : Network) (S : Sound N) where
  -- The computed list is the complete list.
  complete : Lists N (mincuts N)
  complete = mincuts-lists N S.bounded

  -- No cut stands twice in the rows.
  cuts-nodup : Nodup (cuts_of (rows N))
  cuts-nodup = distinct-nodup (cuts_of (rows N)) (cuts-once N S)

  -- The complete list has the cuts of the rows.
  list-cuts : (c : ℕ) → Memᴰ c (mincuts N) ↔ Memᴰ c (cuts_of (rows N))
  list-cuts c = Iff.trans (complete.members c) (Iff.symm (in-cuts N S c))

  -- The complete list is a permutation of the cuts of the rows.
  pub mincuts-perm : Perm (mincuts N) (cuts_of (rows N))
  mincuts-perm =
      (perm_ext_iff_of_Nodup (Pairwise.imp (λ a b h e. absurd (omega arith)) complete.rising) cuts-nodup).1 (λ c. Iff.trunc (list-cuts c))

  -- There are as many mincuts as rows.
  pub mincuts-count : length (mincuts N) ≡ length (rows N)
  mincuts-count =
      ∥∥₁_elim mincuts-perm (ℕ_set (length (mincuts N)) (length (cuts_of (rows N)))) perm-length ∙ length-map (rows N) (λ (r : Row). r.0)

  -- The cuts of the rows, sorted with whatever stands beside them, are the complete list.
  pub sorted-mincuts : (beside cuts sides : List ℕ) → length (cuts_of (rows N)) ≡ length beside → Sorted (cuts_of (rows N)) beside cuts sides → cuts ≡ mincuts N
  sorted-mincuts beside cuts sides paired s =
      sorted-unique (cuts_of (rows N)) beside cuts sides paired s cuts-nodup (mincuts N) complete.rising list-cuts

  module _ (cuts sides : List ℕ) (s : Sorted (cuts_of (rows N)) (sides_of (rows N)) cuts sides) where
    -- Beside each stands its source side.
    sorted-side : (i : ℕ) → i < length cuts → get_or sides i 0 ≡ source_side_of N (get_or cuts i 0)
    sorted-side i h =
        let row = sorted-beside (cuts_of (rows N)) (sides_of (rows N)) cuts sides (rows-paired (rows N)) s i h in
        ((in_rows N S (get_or cuts i 0, get_or sides i 0)).0 (rw (zip-rows (rows N)) at row)).1

    -- The sorted sides are the source sides of the complete list.
    pub sorted-sides : sides ≡ source_sides N
    sorted-sides =
        let paired : length sides ≡ length cuts = s.sides-length ∙ sym (rows-paired (rows N)) ∙ sym s.cuts-length in
        rw (← sorted-mincuts (sides_of (rows N)) cuts sides (rows-paired (rows N)) s) (ext_get_or 0 sides (map (source_side_of N) cuts) (paired ∙ sym (length-map cuts (source_side_of N))) (λ i h.
        let k : i < length cuts = rw paired at h in
        sorted-side i k ∙ sym (get_or-map (source_side_of N) cuts i k)))
