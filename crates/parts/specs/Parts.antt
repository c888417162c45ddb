-- Parts of a set of nodes: what hangs together in it by adjacent nodes.
-- Working.
--
--   Together adjacent within p     p hangs together inside the set `within`: what is closed there and has a node of p has all of p
--   PartOf adjacent within targets p     p hangs together inside the set and has a target, if there is one; it has all targets, or it
--                    is closed, so that no node of the set hangs on it that it lacks
--   Hangs M rest v sink         every node of the rest but v hangs on the sink: the sink reaches it inside the rest
use Rattle.std.specs.Prelude.{List, ◌⊎◌, ◌≡◌, ℕ}
use Rattle.bitset.specs.Members.{◌∈◌, ◌⊆◌}
use Rattle.bitset.specs.Families.{Meets}
use Rattle.network.specs.declared.Network.{Network}
use Rattle.graph.specs.Relevant.{reach_in}
use Rattle.spread.specs.Spread.{ClosedInside}
use Rattle.adjacency.specs.Adjacency.{Mutual}

abbrev pub Together : List ℕ → ℕ → ℕ → Type 0
Together adjacent within p = (s : ℕ) → ClosedInside adjacent within s → Meets p s → p ⊆ s

pub record PartOf (adjacent : List ℕ) (within targets p : ℕ) : Type 0 where
  pub inside : p ⊆ within
  pub met : (k : ℕ) → k ∈ targets → Meets targets p
  pub whole : (targets ⊆ p) ⊎ ClosedInside adjacent within p
  pub together : Mutual adjacent → Together adjacent within p

abbrev pub Hangs : Network → ℕ → ℕ → ℕ → Type 0
Hangs M rest v sink = (w : ℕ) → w ∈ rest → (w ≡ v → ⊥) → w ∈ reach_in M rest sink
