-- The tables of the enumeration, worked out once for a network.
-- Working.
--
--   Incidence M incident      row v of the table holds exactly the edges of M that join v to a node
--   TablesOf M t              the network M keeps the bounds of edges and ends, and t has its tables and its sink
use Rattle.std.specs.Prelude.{List, ◌≡◌, ◌↔◌, ℕ, get_or}
use Rattle.bitset.specs.Members.{◌∈◌}
use Rattle.network.specs.declared.Network.{Network}
use Rattle.graph.specs.Reach.{Bounded}
use Rattle.graph.specs.Paths.{Joins}
use Rattle.adjacency.specs.Adjacency.{Adjacency}
use Rattle.enumeration.specs.declared.Tables.{Tables}

abbrev pub Incidence : Network → List ℕ → Type 0
Incidence M incident = (v e : ℕ) → (e ∈ get_or incident v 0) ↔ ((w : ℕ) × Joins M e v w)

pub record TablesOf (M : Network) (t : Tables) : Type 0 where
  pub bounded : Bounded M
  pub nodes : Adjacency M t.adjacent.now
  pub edges : Incidence M t.incident.now
  pub sink : t.sink ≡ M.sink
