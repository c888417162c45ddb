-- Twins, edges that join the same pair of nodes (the paper's trunk).
-- Working.
--
--   Leading N c k        k is the lowest edge of the set c that joins its pair
--   LowerTwins N lower   row k of the table holds exactly the lower twins of the edge k, of every edge present
--   Alone N lower alone  the set `alone` holds the edges present that have no lower twin in such a table
use Rattle.std.specs.Prelude.{List, ◌↔◌, ◌≡◌, ℕ, ◌<◌, get_or}
use Rattle.bitset.specs.Families.{Meets}
use Rattle.bitset.specs.Members.{◌∈◌}
use Rattle.network.specs.declared.Network.{Network}
use Rattle.network.specs.Record.{present}
use Rattle.network.specs.Ends.{ends_of}

abbrev pub Leading : Network → ℕ → ℕ → Type 0
Leading N c k = (k ∈ c) × ((j : ℕ) → j < k → j ∈ c → ends_of N j ≡ ends_of N k → ⊥)

abbrev pub LowerTwins : Network → List ℕ → Type 0
LowerTwins N lower = (k : ℕ) → k ∈ present N → (j : ℕ) → (j ∈ get_or lower k 0) ↔ ((j < k) × (j ∈ present N) × (ends_of N j ≡ ends_of N k))

abbrev pub Alone : Network → List ℕ → ℕ → Type 0
Alone N lower alone = (k : ℕ) → (k ∈ alone) ↔ ((k ∈ present N) × (Meets (get_or lower k 0) (present N) → ⊥))
