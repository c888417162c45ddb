-- Networks that agree have the same complete list, and the list call answers alike for both and leaves the same rows; so does the call that
-- lists a trimmed network, where they have the same nodes and edges.
-- Assumes accepted networks.
use mathlib.Core.Path.{◌≡◌}
use mathlib.Core.List.{List, map}
use Prim.Native.Nat.{ℕ}
use Rattle.network.specs.declared.Network.{Network}
use Rattle.network.specs.Record.{Stored, fault_of, present}
use Rattle.graph.proofs.Sound.{accepted-sound}
use Rattle.graph.specs.Relevant.{trimmed}
use Rattle.graph.proofs.Agree.{Agree, minpaths-agree, nodes-agree, edges-agree, sides-agree}
use Rattle.branches.proofs.Lists.{lists-equal}
use Rattle.trimmed.specs.Trimmed.{trimmed_fault}
use Rattle.listing.specs.List.{mincuts, source_sides, list_refusal, listed_by, cut_rows_after, side_rows_after}
use Rattle.listing.specs.Trimmed.{trimmed_refusal, trimmed_listed_by, trimmed_cut_rows, trimmed_side_rows}
use Rattle.listing.proofs.Mincuts.{mincuts-lists}

module _ (N M : Network) (stored : Stored N) (stored' : Stored M) (ok : fault_of N ≡ 0) (ok' : fault_of M ≡ 0) (a : Agree N M) where
  pub mincuts-agree : mincuts N ≡ mincuts M
  mincuts-agree =
      let B = (accepted-sound N stored ok).bounded in
      let C = (accepted-sound M stored' ok').bounded in
      (lists-equal N M B C (mincuts N) (mincuts M) (mincuts-lists N B) (mincuts-lists M C)).1 (minpaths-agree N M a)

  pub source_sides-agree : source_sides N ≡ source_sides M
  source_sides-agree i =
      map (λ (c : ℕ). sides-agree N M a (accepted-sound N stored ok) (accepted-sound M stored' ok') c i) (mincuts-agree i)

  module _ (cuts sides : List ℕ) where
    refusal-agrees : list_refusal N cuts sides ≡ list_refusal M cuts sides
    unfolding list_refusal
    refusal-agrees = rw (ok, ok', mincuts-agree)

    pub call-agrees : (listed_by N cuts sides ≡ listed_by M cuts sides)
        × (cut_rows_after N cuts sides ≡ cut_rows_after M cuts sides)
        × (side_rows_after N cuts sides ≡ side_rows_after M cuts sides)
    unfolding listed_by cut_rows_after side_rows_after
    call-agrees = (rw (refusal-agrees, mincuts-agree), rw (refusal-agrees, mincuts-agree), rw (refusal-agrees, source_sides-agree))

  -- Where they have the same nodes and edges, both are trimmed or neither is.
  module _ (same_nodes : N.nodes ≡ M.nodes) (same_edges : present N ≡ present M) where
    trimmed-agrees : trimmed N ≡ trimmed M
    unfolding trimmed
    trimmed-agrees =
        let S = accepted-sound N stored ok in
        let S' = accepted-sound M stored' ok' in
        rw (nodes-agree N M a S S', edges-agree N M a S S', same_nodes, same_edges)

    trimmed-refusal-agrees : (cuts sides : List ℕ) → trimmed_refusal N cuts sides ≡ trimmed_refusal M cuts sides
    unfolding trimmed_fault trimmed_refusal
    trimmed-refusal-agrees cuts sides = rw (ok, ok', trimmed-agrees, refusal-agrees cuts sides)

    pub trimmed-call-agrees : (cuts sides : List ℕ)
        → (trimmed_listed_by N cuts sides ≡ trimmed_listed_by M cuts sides)
        × (trimmed_cut_rows N cuts sides ≡ trimmed_cut_rows M cuts sides)
        × (trimmed_side_rows N cuts sides ≡ trimmed_side_rows M cuts sides)
    unfolding trimmed_listed_by trimmed_cut_rows trimmed_side_rows
    trimmed-call-agrees cuts sides =
        let refusal = trimmed-refusal-agrees cuts sides in
        (rw (refusal, mincuts-agree), rw (refusal, mincuts-agree), rw (refusal, source_sides-agree))
