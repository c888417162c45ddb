-- Source sides as sets of nodes (the paper's near sides): what sets they are, and which edges leave them.
-- To believe.
--
--   Inside N P u v       a walk from u to v that stays where P holds
--   HangsTogether N P    any two nodes where P holds are joined by a walk that stays there
--   Beyond N s v         v is a relevant node outside s
--   SourceSide N s       s is a set of relevant nodes with source and without sink, and both s and the relevant nodes beyond it hang
--                        together
--   Crosses N s e        e has one end in s and one outside
--   Boundary N s c       c is the set of the relevant edges that cross
use mathlib.Core.List.{List, Memᴰ}
use Rattle.std.specs.Prelude.{◌↔◌, ℕ}
use Rattle.bitset.specs.Members.{◌∈◌}
use Rattle.network.specs.declared.Network.{Network}
use Rattle.graph.specs.Paths.{Joins, Hop, Leads, nodes_from}
use Rattle.graph.specs.Cuts.{RelevantEdge, RelevantNode}

pub record Inside (N : Network) (P : ℕ → Type 0) (u v : ℕ) : Type 0 where
  pub steps : List Hop
  pub leads : Leads N u steps v
  pub stays : (x : ℕ) → Memᴰ x (nodes_from u steps) → P x

abbrev pub HangsTogether : Network → (ℕ → Type 0) → Type 0
HangsTogether N P = (u v : ℕ) → P u → P v → Inside N P u v

abbrev pub Beyond : Network → ℕ → ℕ → Type 0
Beyond N s v = RelevantNode N v × (v ∈ s → ⊥)

pub record SourceSide (N : Network) (s : ℕ) : Type 0 where
  pub relevant : (v : ℕ) → v ∈ s → RelevantNode N v
  pub source : N.source ∈ s
  pub sink : N.sink ∈ s → ⊥
  pub inside : HangsTogether N (λ v. v ∈ s)
  pub outside : HangsTogether N (Beyond N s)

pub record Crosses (N : Network) (s e : ℕ) : Type 0 where
  pub near : ℕ
  pub far : ℕ
  pub joins : Joins N e near far
  pub near-in : near ∈ s
  pub far-out : far ∈ s → ⊥

abbrev pub Boundary : Network → ℕ → ℕ → Type 0
Boundary N s c = (e : ℕ) → (e ∈ c) ↔ (RelevantEdge N e × Crosses N s e)
