-- Cuts, the relevant part and source sides of a network.
-- To believe.
--
--   only N h             N with the edges of h alone present
--   without N c          N without the edges of c
--   Silenced N d         without the edges of d no minpath is left (02's "no route among the cables still up", where d are down)
--   Cut N c              c is a set of present edges without which no minpath is left
--   Mincut N c           a cut, and no proper subset of it is one (the paper's minimal cut)
--   HoldsMincut N d      some mincut lies inside d (02's "some minimal cut is wholly down")
--   RelevantEdge N e     e lies on some minpath (the paper's useful cable)
--   OnMinpath N v        v is a node of some minpath's path
--   RelevantNode N v     v is the source, the sink, or a node of some minpath's path (the paper's useful point)
--   Trimmed N            every node and every present edge is relevant (02's plan that was trimmed already)
--   Untrimmed N          some node or some present edge is not
--   OnSourceSide N c v   v is relevant, and source reaches it over relevant edges outside c (the paper's near side)
use mathlib.Core.List.{List, Memᴰ}
use Rattle.std.specs.Prelude.{◌⊎◌, ◌≡◌, ℕ, ◌<◌}
use Rattle.bitset.specs.Members.{◌⊆◌, ◌∖◌, ◌∈◌}
use Rattle.bitset.specs.Families.{Holds}
use Rattle.network.specs.Record.{present, rewired}
use Rattle.network.specs.declared.Network.{Network}
use Rattle.graph.specs.Paths.{Hop, Leads, nodes_from, edges_of, Minpath}

unfoldable pub only : Network → ℕ → Network
only N h = rewired N h N.first N.second N.metres

abbrev pub without : Network → ℕ → Network
without N c = only N (present N ∖ c)

-- Of any set of edges, present or not.
abbrev pub Silenced : Network → ℕ → Type 0
Silenced N d = (r : ℕ) → Minpath (without N d) r → ⊥

pub record Cut (N : Network) (c : ℕ) : Type 0 where
  pub present : c ⊆ present N
  pub severs : Silenced N c

pub record Mincut (N : Network) (c : ℕ) : Type 0 where
  pub cut : Cut N c
  pub least : (d : ℕ) → d ⊆ c → Cut N d → d ≡ c

abbrev pub HoldsMincut : Network → ℕ → Type 0
HoldsMincut N = Holds (Mincut N)

abbrev pub RelevantEdge : Network → ℕ → Type 0
RelevantEdge N e = (r : ℕ) × (Minpath N r × (e ∈ r))

abbrev pub OnMinpath : Network → ℕ → Type 0
OnMinpath N v = (r : ℕ) × ((m : Minpath N r) × Memᴰ v (nodes_from N.source m.steps))

abbrev pub RelevantNode : Network → ℕ → Type 0
RelevantNode N v = (v ≡ N.source) ⊎ ((v ≡ N.sink) ⊎ OnMinpath N v)

pub record Trimmed (N : Network) : Type 0 where
  pub nodes : (v : ℕ) → v < N.nodes → RelevantNode N v
  pub edges : (e : ℕ) → e ∈ present N → RelevantEdge N e

abbrev pub Untrimmed : Network → Type 0
Untrimmed N =
    ((v : ℕ) × (v < N.nodes) × (RelevantNode N v → ⊥))
    ⊎ ((e : ℕ) × (e ∈ present N) × (RelevantEdge N e → ⊥))

-- The walk takes relevant edges outside c alone.
pub record OnSourceSide (N : Network) (c v : ℕ) : Type 0 where
  pub relevant : RelevantNode N v
  pub steps : List Hop
  pub leads : Leads N N.source steps v
  pub kept : (e : ℕ) → e ∈ edges_of steps → RelevantEdge N e × (e ∈ c → ⊥)
