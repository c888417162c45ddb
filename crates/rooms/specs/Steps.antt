-- What the steps of the calls do to the work rows.
-- Working.
--
--   Packaged N ts a          the answer a: the refusal of a call for the rooms ts, and where there is none the set of these rooms of N
--   counted lent a           how many sets an answer a counts; one more than the rows, `lent` in number, if there were too few
--   MostSets e lent p r      with p sets so far and `lent` work rows, the next room's list fits exactly if it has at most r sets
--   RoomListed N rows rows' r    the rows have become rows': the mincuts of N stand in front if there are rows for all of them; r is their
--                            number, at most one more than there are rows
--   Added e l m rows rows' r     the rows have become rows': in front stand, r in number, the sets of l and the next list m added to it
--   RoomAdded e N p rows rows' r     the list of N is added to the first p rows, if there are enough rows; otherwise r is more than there are
--   Taken e N ts lent rows r     of the work rows, `lent` in number, the sets for the rooms ts stand in front, r in number, if there are enough
--                            rows for every step; otherwise r is more than there are
--   Delivered n work cuts cuts' a    the answer a and the rows cuts' for n sets that stand in front of the work rows: 20 where that is more than
--                            there are, 12 where it is more than the rows for cuts, and otherwise the sets are written onto these
use mathlib.Core.List.{List, [], Memᴰ}
use Rattle.std.specs.Prelude.{Option, Some, None, Result, IfOk, ◌↔◌, ◌≡◌, ℕ, ◌+◌, min, ◌≤◌, ◌<◌, length, take}
use Rattle.sequences.specs.Words.{onto}
use Rattle.bitset.specs.Members.{◌∈◌}
use Rattle.network.specs.declared.Network.{Network}
use Rattle.network.specs.declared.refusal.Refusal.{Refusal}
use Rattle.network.specs.Refusals.{refusal_of}
use Rattle.listing.specs.List.{Listed, mincuts}
use Rattle.rooms.specs.declared.Extent.{Extent}
use Rattle.rooms.specs.declared.asked.Asked.{Asked}
use Rattle.rooms.specs.Rooms.{package_fault, added, sets_for, step_need, needs_from}

pub record Packaged (N : Network) (ts : List ℕ) (a : Result Asked Refusal) : Type 0 where
  pub refusal : refusal_of a ≡ package_fault N ts
  pub network : IfOk a (λ q. q.accepted.network ≡ N)
  pub rooms : IfOk a (λ q. (v : ℕ) → (v ∈ q.rooms.0) ↔ Memᴰ v ts)

abbrev pub counted : ℕ → Option ℕ → ℕ
counted lent (Some n) = n
counted lent None = lent + 1

abbrev pub MostSets : Extent → ℕ → ℕ → ℕ → Type 0
MostSets e lent p r = (q : ℕ) → (q ≤ r) ↔ (step_need e p q ≤ lent)

pub record RoomListed (N : Network) (rows rows' : List ℕ) (r : ℕ) : Type 0 where
  pub size : length rows' ≡ length rows
  pub count : r ≡ min (length (mincuts N)) (length rows + 1)
  pub listed : length (mincuts N) ≤ length rows → take r rows' ≡ mincuts N

pub record Added (e : Extent) (l m rows rows' : List ℕ) (r : ℕ) : Type 0 where
  pub size : length rows' ≡ length rows
  pub count : r ≡ length (added e l m)
  pub front : take r rows' ≡ added e l m

pub record RoomAdded (e : Extent) (N : Network) (p : ℕ) (rows rows' : List ℕ) (r : ℕ) : Type 0 where
  pub size : length rows' ≡ length rows
  pub enough : step_need e p (length (mincuts N)) ≤ length rows → Added e (take p rows) (mincuts N) rows rows' r
  pub short : length rows < step_need e p (length (mincuts N)) → length rows < r

pub record Taken (e : Extent) (N : Network) (ts : List ℕ) (lent : ℕ) (rows : List ℕ) (r : ℕ) : Type 0 where
  pub size : length rows ≡ lent
  pub enough : ((n : ℕ) → Memᴰ n (needs_from e N [] ts) → n ≤ lent) → (r ≡ length (sets_for e N ts)) × (take r rows ≡ sets_for e N ts)
  pub short : (n : ℕ) → Memᴰ n (needs_from e N [] ts) → lent < n → lent < r

pub record Delivered (n : ℕ) (work cuts cuts' : List ℕ) (a : Listed) : Type 0 where
  pub short : length work < n → (a ≡ record { refusal = 20; count = 0 }) × (cuts' ≡ cuts)
  pub outnumbered : n ≤ length work → length cuts < n → (a ≡ record { refusal = 12; count = 0 }) × (cuts' ≡ cuts)
  pub complete : n ≤ length work → n ≤ length cuts → (a ≡ record { refusal = 0; count = n }) × (cuts' ≡ onto (take n work) cuts)
