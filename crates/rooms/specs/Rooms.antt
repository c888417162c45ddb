-- The two calls that list for several rooms: the least sets that silence one of them, or all; what the calls answer and leave in lent rows; and
-- what that means. Rooms are taken in rising order of point.
-- To believe.
--
--   fitting N s ts       whether the rooms ts, with those of the set s before them, are points of N, none twice, and none the server
--                        [computed: packaged-iff (rooms/proofs/Packages)]
--   packaged N ts        whether the rooms ts are a package  [computed: packaged-iff (rooms/proofs/Packages)]
--   package_fault N ts   the refusal of a call for the rooms ts: the record's first fault, then 19 if they are no package
--   added e l m          the list l with the next room's list m: joined or united, and every set dropped that holds another
--                        [computed: sets-least (rooms/proofs/Sets)]
--   sets_from e N l ts   the list l with the lists of the rooms ts, one after the other  [computed: sets-least (rooms/proofs/Sets)]
--   sets_for e N ts      the least sets that silence the rooms ts, by the extent e, rising  [computed: sets-least (rooms/proofs/Sets)]
--   step_need e p q      the work rows that a step needs, with p sets after the rooms so far and q in the next room's list
--   room_need e N before t   those that the room t needs after the rooms `before`; the first needs as many as its list
--   needs_from e N before ts  those that each of the rooms ts needs, after the rooms `before`
--   needs e N ts         those that each step needs, for the rooms ts in rising order
--   rooms_refusal e N ts cuts work   the call's refusal for a network, rooms and lent rows, 0 if there is none
--   rooms_listed_by e N ts cuts work  its answer
--   rooms_rows_after e N ts cuts work  the lent rows for cuts afterwards
--   work_after N ts work  the lent work rows afterwards: all 0, but untouched where record or rooms are refused
--   RoomsListing e N ts cuts work r n cuts' work'    the call, lent `cuts` and `work`, gives the refusal r and the count n and leaves cuts'
--                        and work'
--   RoomsMean e N ts cuts work r n cuts'     what it means that the call, lent `cuts` and `work`, gave the refusal r and the count n and
--                        left cuts'
use Rattle.std.specs.Prelude.{Bool, true, false, not, ◌&&◌, ◌↔◌, ◌≡◌, ℕ, ◌+◌, ◌*◌, ◌≤◌, ◌<◌, eqb, leb, ltb, length, replicate}
use mathlib.Core.List.{List, [], ◌∷◌, ◌++◌, Memᴰ}
use Rattle.sequences.specs.Distinct.{More}
use Rattle.sequences.specs.Rising.{RisingRows, arranged}
use Rattle.sequences.specs.Words.{every, onto}
use Rattle.bitset.specs.Families.{Least}
use Rattle.bitset.specs.Members.{has, insert}
use Rattle.network.specs.declared.Network.{Network}
use Rattle.network.specs.Record.{◌when◌, ◌then◌, unless_refused, fault_of, Stored}
use Rattle.clutters.specs.Clutters.{tidy, unions}
use Rattle.listing.specs.List.{Listed, mincuts}
use Rattle.rooms.specs.declared.Extent.{Extent}
use Rattle.rooms.specs.declared.Extent.TheVariants.{Any, All}
use Rattle.rooms.specs.Silences.{to, Silences, Package}

-- ---- the rooms

unfoldable pub fitting : Network → ℕ → List ℕ → Bool
fitting N s [] = true
fitting N s (t ∷ ts) =
    elim (ltb t N.nodes && not (eqb t N.source) && not (has s t)) [ true ↦ fitting N (insert s t) ts | false ↦ false ]

unfoldable pub packaged : Network → List ℕ → Bool
packaged N ts = ltb 0 (length ts) && leb (length ts) 8 && fitting N 0 ts

-- 19: no room, more than 8, a room twice, the server, or a point outside the plan
unfoldable pub package_fault : Network → List ℕ → ℕ
package_fault N ts = fault_of N then 19 when not (packaged N ts)

-- ---- the sets

unfoldable pub added : Extent → List ℕ → List ℕ → List ℕ
added Any l m = tidy (l ++ m)
added All l m = tidy (unions l m)

unfoldable pub sets_from : Extent → Network → List ℕ → List ℕ → List ℕ
sets_from e N l [] = l
sets_from e N l (t ∷ ts) = sets_from e N (added e l (mincuts (to N t))) ts

unfoldable pub sets_for : Extent → Network → List ℕ → List ℕ
sets_for e N [] = []
sets_for e N (t ∷ ts) = sets_from e N (mincuts (to N t)) ts

-- ---- the work rows

unfoldable pub step_need : Extent → ℕ → ℕ → ℕ
step_need Any p q = p + q
step_need All p q = p + q + p * q

unfoldable pub room_need : Extent → Network → List ℕ → ℕ → ℕ
room_need e N [] t = length (mincuts (to N t))
room_need e N (s ∷ before) t = step_need e (length (sets_for e N (s ∷ before))) (length (mincuts (to N t)))

unfoldable pub needs_from : Extent → Network → List ℕ → List ℕ → List ℕ
needs_from e N before [] = []
needs_from e N before (t ∷ ts) = room_need e N before t ∷ needs_from e N (before ++ t ∷ []) ts

abbrev pub needs : Extent → Network → List ℕ → List ℕ
needs e N ts = needs_from e N [] (arranged ts)

-- ---- the calls

-- Behind record and rooms, 20: a step needs more work rows than are lent; 12: more sets than rows lent
unfoldable pub rooms_refusal : Extent → Network → List ℕ → List ℕ → List ℕ → ℕ
rooms_refusal e N ts cuts work =
    package_fault N ts
    then 20 when not (every (λ n. leb n (length work)) (needs e N ts))
    then 12 when ltb (length cuts) (length (sets_for e N (arranged ts)))

unfoldable pub rooms_listed_by : Extent → Network → List ℕ → List ℕ → List ℕ → Listed
rooms_listed_by e N ts cuts work =
    let r = rooms_refusal e N ts cuts work in
    record { refusal = r; count = unless_refused r (length (sets_for e N (arranged ts))) 0 }

unfoldable pub rooms_rows_after : Extent → Network → List ℕ → List ℕ → List ℕ → List ℕ
rooms_rows_after e N ts cuts work = unless_refused (rooms_refusal e N ts cuts work) (onto (sets_for e N (arranged ts)) cuts) cuts

unfoldable pub work_after : Network → List ℕ → List ℕ → List ℕ
work_after N ts work = unless_refused (package_fault N ts) (replicate (length work) 0) work

-- Number by number, as it crosses the border to other languages.
pub record RoomsListing (e : Extent) (N : Network) (ts cuts work : List ℕ) (r n : ℕ) (cuts' work' : List ℕ) : Type 0 where
  pub refusal : r ≡ (rooms_listed_by e N ts cuts work).refusal
  pub count : n ≡ (rooms_listed_by e N ts cuts work).count
  pub cut-rows : cuts' ≡ rooms_rows_after e N ts cuts work
  pub work-rows : work' ≡ work_after N ts work

-- By the definitions of graph theory: beside the refusal 0 stand the least sets that silence the rooms, and each refusal of the call's own is
-- given exactly if its condition holds and no earlier fault stands.
pub record RoomsMean (e : Extent) (N : Network) (ts cuts work : List ℕ) (r n : ℕ) (cuts' : List ℕ) : Type 0 where
  pub stored : Stored N
  pub complete : r ≡ 0 → RisingRows (Least (Silences e N ts)) n cuts'
  pub no-package : (r ≡ 19) ↔ ((fault_of N ≡ 0) × (Package N ts → ⊥))
  pub short : (r ≡ 20) ↔ ((fault_of N ≡ 0) × Package N ts × ((k : ℕ) × (Memᴰ k (needs e N ts) × (length work < k))))
  pub outnumbered : (r ≡ 12)
      ↔ ((fault_of N ≡ 0) × Package N ts × ((k : ℕ) → Memᴰ k (needs e N ts) → k ≤ length work) × More (Least (Silences e N ts)) (length cuts))
