-- Lists for several rooms (02): what the rows are that the two calls leave, for records and for plans in bytes, and what they are for one room
-- alone, for a room without a route, and for rooms in another order.
-- To believe.
--
--   SeveralRooms         all of this
use mathlib.Core.List.{List, [], ◌∷◌, Memᴰ}
use Rattle.std.specs.Prelude.{◌↔◌, ◌≡◌, ℕ, ◌≤◌, ◌<◌, length, get_or}
use Rattle.sequences.specs.Rising.{RisingRows}
use Rattle.bitset.specs.Families.{Least}
use Rattle.network.specs.declared.Network.{Network}
use Rattle.network.specs.Record.{Stored, fault_of}
use Rattle.format.specs.Format.{decode_of}
use Rattle.graph.specs.Paths.{Minpath}
use Rattle.graph.specs.Lists.{SameList}
use Rattle.listing.specs.List.{listed_by, cut_rows_after}
use Rattle.rooms.specs.declared.Extent.{Extent}
use Rattle.rooms.specs.declared.Extent.TheVariants.{Any, All}
use Rattle.rooms.specs.Silences.{to, SilencesAny, SilencesAll, Package}
use Rattle.rooms.specs.Rooms.{rooms_listed_by, rooms_rows_after, work_after}

pub record SeveralRooms : Type 0 where
  -- After a call that gave the refusal 0 the rows are the least sets of present cables that silence at least one of the rooms, or all of them,
  -- rising and each once.
  pub any : (N : Network) → Stored N → (ts cuts work : List ℕ) → (rooms_listed_by Any N ts cuts work).refusal ≡ 0
      → RisingRows (Least (SilencesAny N ts)) (rooms_listed_by Any N ts cuts work).count (rooms_rows_after Any N ts cuts work)
  pub all : (N : Network) → Stored N → (ts cuts work : List ℕ) → (rooms_listed_by All N ts cuts work).refusal ≡ 0
      → RisingRows (Least (SilencesAll N ts)) (rooms_listed_by All N ts cuts work).count (rooms_rows_after All N ts cuts work)
  -- The same of a plan in bytes that the reader accepted.
  pub any-bytes : (s : List ℕ) → (decode_of s).refusal ≡ 0 → (ts cuts work : List ℕ) → (rooms_listed_by Any (decode_of s).network ts cuts work).refusal ≡ 0
      → RisingRows (Least (SilencesAny (decode_of s).network ts)) (rooms_listed_by Any (decode_of s).network ts cuts work).count
      (rooms_rows_after Any (decode_of s).network ts cuts work)
  pub all-bytes : (s : List ℕ) → (decode_of s).refusal ≡ 0 → (ts cuts work : List ℕ) → (rooms_listed_by All (decode_of s).network ts cuts work).refusal ≡ 0
      → RisingRows (Least (SilencesAll (decode_of s).network ts)) (rooms_listed_by All (decode_of s).network ts cuts work).count
      (rooms_rows_after All (decode_of s).network ts cuts work)
  -- Of the plan's own room alone both calls leave the list call's cuts. And it matters only among the rooms: the plan with any other room for its
  -- own is answered as it is.
  pub own : (e : Extent) (N : Network) → Stored N → (cuts work cuts' sides' : List ℕ)
      → (rooms_listed_by e N (N.sink ∷ []) cuts work).refusal ≡ 0 → (listed_by N cuts' sides').refusal ≡ 0
      → SameList (rooms_listed_by e N (N.sink ∷ []) cuts work).count (rooms_rows_after e N (N.sink ∷ []) cuts work)
      (listed_by N cuts' sides').count (cut_rows_after N cuts' sides')
  pub any-own : (e : Extent) (N : Network) → Stored N → fault_of N ≡ 0 → (s : ℕ) → s < N.nodes → (s ≡ N.source → ⊥) → (ts cuts work : List ℕ)
      → (rooms_listed_by e (to N s) ts cuts work ≡ rooms_listed_by e N ts cuts work)
      × (rooms_rows_after e (to N s) ts cuts work ≡ rooms_rows_after e N ts cuts work)
      × (work_after (to N s) ts work ≡ work_after N ts work)
  -- Where one of the rooms has no route, the one empty set silences at least one; and where all are to be silenced that room does not matter.
  pub silent-any : (N : Network) → Stored N → (ts cuts work : List ℕ) → (rooms_listed_by Any N ts cuts work).refusal ≡ 0
      → (t : ℕ) → Memᴰ t ts → ((r : ℕ) → Minpath (to N t) r → ⊥)
      → ((rooms_listed_by Any N ts cuts work).count ≡ 1) × (get_or (rooms_rows_after Any N ts cuts work) 0 0 ≡ 0)
  pub silent-all : (N : Network) → Stored N → (t : ℕ) → ((r : ℕ) → Minpath (to N t) r → ⊥) → (ts cuts work cuts' work' : List ℕ)
      → (rooms_listed_by All N (t ∷ ts) cuts work).refusal ≡ 0 → (rooms_listed_by All N ts cuts' work').refusal ≡ 0
      → SameList (rooms_listed_by All N (t ∷ ts) cuts work).count (rooms_rows_after All N (t ∷ ts) cuts work)
      (rooms_listed_by All N ts cuts' work').count (rooms_rows_after All N ts cuts' work')
  -- As many rows for cuts as work rows always suffice.
  pub enough-rows : (e : Extent) (N : Network) (ts cuts work : List ℕ) → length work ≤ length cuts → (rooms_listed_by e N ts cuts work).refusal ≡ 12 → ⊥
  -- The order in which rooms are given changes nothing.
  pub order : (e : Extent) (N : Network) (ts us : List ℕ) → Package N ts → Package N us → ((t : ℕ) → Memᴰ t ts ↔ Memᴰ t us)
      → (cuts work : List ℕ)
      → (rooms_listed_by e N ts cuts work ≡ rooms_listed_by e N us cuts work)
      × (rooms_rows_after e N ts cuts work ≡ rooms_rows_after e N us cuts work)
      × (work_after N ts work ≡ work_after N us work)
