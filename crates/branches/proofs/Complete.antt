-- The rows of a network: all mincuts, each once and beside its source side.
-- Assumes a sound network.
use mathlib.Core.Path.{◌≡◌, refl, sym}
use mathlib.Core.Bool.{Bool, true, false}
use mathlib.Core.List.Memᴰ
use mathlib.Core.List.{Memᴰ}
use mathlib.Core.Logic.{inl, inr, ◌↔◌}
use Prim.Native.Nat.{ℕ, ◌-◌, ◌^◌, ◌≤◌}
use native.Mathlib.Nat.{lt_of_lt_of_le}
use native.Mathlib.Omega.{arith}
use lib.Dec.{T}
use lib.ListN.{length}
use Rattle.sequences.specs.Distinct.{Distinct}
use Rattle.bitset.specs.Members.{◌∖◌, size}
use Rattle.bitset.proofs.Subsets.{zero-⊆}
use Rattle.bitset.proofs.Sets.{in_insert, in-drop, not-zero, size-drop}
use Rattle.node_set.specs.Width.{node_width}
use Rattle.network.specs.declared.Network.{Network}
use Rattle.graph.specs.Cuts.{Mincut}
use Rattle.graph.specs.SourceSides.{SourceSide}
use Rattle.graph.specs.Relevant.{relevant_nodes, source_side_of, boundary_of}
use Rattle.graph.proofs.Sound.{Sound}
use Rattle.graph.proofs.Relevant.{in-relevant_nodes}
use Rattle.graph.proofs.Correspondence.{side-of-mincut, mincut-of-side}
use Rattle.branches.specs.Enumeration.{relevant_network, blank, joined, start, is_open, Row, cuts_of, rows_if, join_rows, rows}
use Rattle.branches.proofs.Branches.{Open, sink-relevant, start-grown}
use Rattle.branches.proofs.Halves.{OfBranch}
use Rattle.branches.proofs.Recursion.{rows_bound}
use Rattle.branches.proofs.Rows.{open-test, Listed, rows-listed}

module _ (N : Network) (S : Sound N) where
  -- The first branch is open.
  start-open : Open N (start N)
  unfolding blank joined
  start-open = record { grown = start-grown N S; reached = zero-⊆ (start N).rest.0 }

  -- Every source side belongs to it.
  start-within : (t : ℕ) → OfBranch N (start N) t ↔ SourceSide N t
  unfolding blank joined
  start-within t = (
    λ w. w.side,
    λ side. record {
      side = side;
      holds = λ v m. elim ((in_insert 0 N.source v).0 m) [ inl z ↦ absurd (not-zero v z) | inr e ↦ rw e side.source ];
      avoids = λ v m i. not-zero v i;
    },
  )

  -- It is entered, so that the rows are those in which the source joins.
  pub rows_join : join_rows (relevant_network N) (blank N) N.source ≡ rows N
  rows_join = go (is_open (start N)) ((open-test (start N)).1 start-open.reached)
    where
      go : (t : Bool) → T t → rows_if t (relevant_network N) (start N) ≡ rows N
      go true t = refl
      go false t = absurd t

  -- What holds of all rows.
  all_listed : Listed N S (start N) (rows N)
  all_listed = rows-listed N S (start N) start-open

  -- The rows are exactly the source sides with their boundaries.
  pub in-rows-side : (r : Row) → Memᴰ r (rows N) ↔ (SourceSide N r.1 × (r.0 ≡ boundary_of N r.1))
  in-rows-side r = (
    λ m. let w = (all_listed.exactly r).0 m in ((start-within r.1).0 w.0, w.1),
    λ k. (all_listed.exactly r).1 ((start-within r.1).1 k.0, k.1),
  )

  -- The rows are exactly the mincuts with their source sides.
  pub in_rows : (r : Row) → Memᴰ r (rows N) ↔ (Mincut N r.0 × (r.1 ≡ source_side_of N r.0))
  in_rows r = (
    λ m.
        let (side, cut) = (in-rows-side r).0 m in
        let k = mincut-of-side N S r.1 side in
        (rw cut k.0, rw cut (sym k.1)),
    λ k.
        let s = side-of-mincut N S r.0 k.0 in
        (in-rows-side r).1 (rw k.1 s.0, rw k.1 (sym s.1)),
  )

  -- Their cuts are exactly the mincuts.
  pub in-cuts : (c : ℕ) → Memᴰ c (cuts_of (rows N)) ↔ Mincut N c
  in-cuts c = (
    λ m. let (r, i, e) = Memᴰ.of_map (λ (r : Row). r.0) (rows N) m in rw e at ((in_rows r).0 i).0,
    λ k. Memᴰ.map (λ (r : Row). r.0) ((in_rows (c, source_side_of N c)).1 (k, refl)),
  )

  -- No cut stands there twice.
  pub cuts-once : Distinct (cuts_of (rows N))
  cuts-once = all_listed.once

  -- There are no more rows than sets of relevant nodes between source and sink.
  pub rows-at-most : length (rows N) ≤ 2 ^ (size node_width (relevant_nodes N) - 2)
  unfolding blank joined
  rows-at-most =
      let all : ℕ = relevant_nodes N in
      let one = size-drop node_width all N.sink (lt_of_lt_of_le S.sink-lt S.small) (sink-relevant N S) in
      let two = size-drop node_width (all ∖ 2 ^ N.sink) N.source (lt_of_lt_of_le S.source-lt S.small)
      ((in-drop all N.sink N.source).1 ((in-relevant_nodes N S N.source).1 (inl refl), S.differ)) in
      let count : size node_width all - 2 ≡ size node_width (all ∖ 2 ^ N.sink ∖ 2 ^ N.source) = omega arith in
      rw count (rows_bound (relevant_network N) (start N))
