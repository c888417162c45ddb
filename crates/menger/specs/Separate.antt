-- Separate ways, and the narrowest rows: the two numbers that Menger's theorem compares.
-- To believe.
--
--   Apart N l            l is a list of minpaths of N, no two of which share an edge (02's routes of which no two share a cable)
--   Most N k             some such list has k members, and none has more (02's "largest number of routes")
--   Fewest n cuts k      some row of the first n has k edges, and none has fewer (02's "fewest cables in any row")
use mathlib.Core.List.{List, Pairwise, Memᴰ}
use Rattle.std.specs.Prelude.{◌≡◌, ℕ, ◌≤◌, ◌<◌, length, get_or}
use Rattle.bitset.specs.Members.{size}
use Rattle.bitset.specs.Families.{Disjoint}
use Rattle.network.specs.declared.Network.{Network}
use Rattle.graph.specs.Paths.{Minpath}

-- In an accepted record a minpath has an edge, so that none stands in such a list twice (`different`, demands/specs/SeparateWays).
pub record Apart (N : Network) (l : List ℕ) : Type 0 where
  pub minpaths : (r : ℕ) → Memᴰ r l → Minpath N r
  pub disjoint : Pairwise Disjoint l

pub record Most (N : Network) (k : ℕ) : Type 0 where
  pub ways : List ℕ
  pub apart : Apart N ways
  pub count : length ways ≡ k
  pub most : (l : List ℕ) → Apart N l → length l ≤ k

-- Edges are counted singly, whatever nodes they join.
pub record Fewest (n : ℕ) (cuts : List ℕ) (k : ℕ) : Type 0 where
  pub row : (i : ℕ) × (i < n) × (size 64 (get_or cuts i 0) ≡ k)
  pub fewest : (i : ℕ) → i < n → k ≤ size 64 (get_or cuts i 0)
