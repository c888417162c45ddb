-- The pair of points that an edge joins, and loops, which join a point to itself.
-- To believe.
--
--   ends_of N k      the pair of points that edge k joins, whichever end comes first: a set, of a loop that of its one point
--   Loop N k v       edge k is a loop at v: it is present, and both its ends are v
--   Loopless N       no edge is a loop
use Rattle.std.specs.Prelude.{◌≡◌, ℕ, ◌^◌}
use Rattle.bitset.specs.Members.{insert, ◌∈◌}
use Rattle.network.specs.declared.Network.{Network}
use Rattle.network.specs.Record.{first_end, second_end, present}

abbrev pub ends_of : Network → ℕ → ℕ
ends_of N k = insert (2 ^ first_end N k) (second_end N k)

abbrev pub Loop : Network → ℕ → ℕ → Type 0
Loop N k v = (k ∈ present N) × (first_end N k ≡ v) × (second_end N k ≡ v)

abbrev pub Loopless : Network → Type 0
Loopless N = (k v : ℕ) → Loop N k v → ⊥
