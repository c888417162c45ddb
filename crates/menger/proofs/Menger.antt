-- Menger's theorem: the fewest edges of any mincut are as many as the most minpaths of which no two share an edge.
-- Assumes what the record test says.
--
--   Narrowest N k        k is the most, and some mincut has k edges
use mathlib.Core.Path.{◌≡◌, refl, sym, ◌∙◌}
use mathlib.Core.List.{List}
use mathlib.Core.Logic.{◌↔◌}
use Prim.Native.Nat.{ℕ, ◌≤◌, ◌<◌}
use native.Mathlib.Omega.{arith}
use lib.ListN.{get_or}
use Rattle.bitset.specs.Members.{size}
use Rattle.bitset.proofs.Size.{size_mono}
use Rattle.network.specs.declared.Network.{Network}
use Rattle.graph.specs.Cuts.{Mincut}
use Rattle.graph.specs.Lists.{CompleteList}
use Rattle.graph.proofs.Cuts.{cut-shrink}
use Rattle.graph.proofs.Sound.{Sound}
use Rattle.menger.specs.Separate.{Most, Fewest}
use Rattle.menger.proofs.Bounds.{apart-cut, apart-most, most-unique}
use Rattle.menger.proofs.Augmenting.{full}
use Rattle.menger.proofs.Peeling.{peel}

pub record Narrowest (N : Network) (k : ℕ) : Type 0 where
  pub most : Most N k
  pub edges : ℕ
  pub mincut : Mincut N edges
  pub count : size 64 edges ≡ k

module _ (N : Network) (S : Sound N) where
  -- A full flow is peeled into as many minpaths as its cut has edges. A mincut inside the cut has no fewer.
  pub menger : (k : ℕ) × Narrowest N k
  menger =
      let (k, F) = full N S in
      let ways = peel N S.bounded k F.flow F.is-flow in
      let (c, (within, mincut)) = cut-shrink N S.bounded F.edges F.is_cut in
      let least = apart-cut N S.bounded ways.ways ways.apart c mincut.cut in
      let count : size 64 c ≡ k = omega (arith, least, ways.count, size_mono 64 c F.edges within, F.count) in (
        k,
        record {
          most = rw ways.count at (apart-most N S.bounded ways.ways ways.apart c mincut.cut (ways.count ∙ sym count));
          edges = c;
          mincut = mincut;
          count = count;
        },
      )

  -- Of a complete list, k is the fewest edges in any row exactly if it is the most minpaths of which no two share an edge.
  pub fewest-most : (n : ℕ) (cuts sides : List ℕ) → CompleteList N n cuts sides → (k : ℕ) → Fewest n cuts k ↔ Most N k
  fewest-most n cuts sides list k =
      let (j, narrow) = menger in
      let (i, h, e) = (list.members narrow.edges).1 narrow.mincut in
      let bound : (a : ℕ) → a < n → j ≤ size 64 (get_or cuts a 0) = λ a l.
      rw narrow.most.count at (apart-cut N S.bounded narrow.most.ways narrow.most.apart (get_or cuts a 0) ((list.members (get_or cuts a 0)).0 (a, l, refl)).cut) in
      let row : size 64 (get_or cuts i 0) ≡ j = rw e narrow.count in (
        λ f.
            let (a, l, q) = f.row in
            let same : j ≡ k = omega (arith, bound a l, q, f.fewest i h, row) in
            rw same at narrow.most,
        λ m.
            let same : j ≡ k = most-unique N j k narrow.most m in
            rw same at (fewest i h row bound),
      )
    where
      fewest : {j : ℕ} (i : ℕ) → i < n → size 64 (get_or cuts i 0) ≡ j → ((a : ℕ) → a < n → j ≤ size 64 (get_or cuts a 0)) → Fewest n cuts j
      fewest i h row bound = record { row = (i, h, row); fewest = bound }
