-- A network with several of its nodes made one.
-- Working.
--
--   MovedEnd s t v w         the end v of an edge has become w: t if it is one of the nodes s, and else what it was
--   Moved edges s t ends ends'   of each of the edges the end has moved, and all other ends are what they were
--   Contracted N s M         M is the network N with the nodes s made one, the lowest of them, which is its sink
use Rattle.std.specs.Prelude.{List, ◌≡◌, ℕ, length, get_or}
use Rattle.bitset.specs.Members.{◌∈◌, Lowest}
use Rattle.node_set.specs.Width.{node_width}
use Rattle.network.specs.declared.Network.{Network}
use Rattle.network.specs.Record.{present, Stored}

pub record MovedEnd (s t v w : ℕ) : Type 0 where
  pub moved : v ∈ s → w ≡ t
  pub kept : (v ∈ s → ⊥) → w ≡ v

pub record Moved (edges s t : ℕ) (ends ends' : List ℕ) : Type 0 where
  pub size : length ends' ≡ length ends
  pub moved : (k : ℕ) → k ∈ edges → MovedEnd s t (get_or ends k 0) (get_or ends' k 0)
  pub kept : (k : ℕ) → (k ∈ edges → ⊥) → get_or ends' k 0 ≡ get_or ends k 0

pub record Contracted (N : Network) (s : ℕ) (M : Network) : Type 0 where
  pub sink : Lowest node_width s M.sink
  pub nodes : M.nodes ≡ N.nodes
  pub source : M.source ≡ N.source
  pub edges : present M ≡ present N
  pub first : Moved (present N) s M.sink N.first M.first
  pub second : Moved (present N) s M.sink N.second M.second
  pub metres : M.metres ≡ N.metres
  pub stored : Stored M
