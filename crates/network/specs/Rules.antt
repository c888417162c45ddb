-- The paper's rules for a record, as propositions.
-- To believe.
--
--   Rules N          N keeps them all: it is a plan within the rules
--   FaultMeans N r   what the number r of the record test means
--   RowsPresent N l  the rows l, each a set of edges, hold no edge that is not present
use mathlib.Core.List.{List, Memᴰ}
use Rattle.std.specs.Prelude.{◌↔◌, ◌≡◌, ℕ, ◌≤◌, ◌<◌}
use Rattle.bitset.specs.Members.{◌∈◌, ◌⊆◌}
use Rattle.node_set.specs.Width.{node_width}
use Rattle.network.specs.declared.Network.{Network}
use Rattle.network.specs.Record.{first_end, second_end, metres_of, present, Stored}

pub record Rules (N : Network) : Type 0 where
  pub size : (2 ≤ N.nodes) × (N.nodes ≤ node_width)
  pub terminals : (N.source < N.nodes) × (N.sink < N.nodes) × (N.source ≡ N.sink → ⊥)
  pub ends : (k : ℕ) → k < 64 → k ∈ present N → (first_end N k < N.nodes) × (second_end N k < N.nodes)
  pub absent : (k : ℕ) → k < 64 → (k ∈ present N → ⊥) → (first_end N k ≡ 0) × (second_end N k ≡ 0) × (metres_of N k ≡ 0)

pub record FaultMeans (N : Network) (r : ℕ) : Type 0 where
  pub stored : Stored N
  pub kept : (r ≡ 0) ↔ Rules N

abbrev pub RowsPresent : Network → List ℕ → Type 0
RowsPresent N l = (c : ℕ) → Memᴰ c l → c ⊆ present N
