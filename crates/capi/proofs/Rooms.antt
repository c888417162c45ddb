-- The answer of a call for several rooms, number by number, of the record that was put together.
-- Assumes nothing.
use mathlib.Core.Path.{◌≡◌}
use mathlib.Core.List.{List}
use Rattle.network.specs.declared.Network.{Network}
use Rattle.listing.specs.List.{Listed}
use Rattle.rooms.specs.declared.Extent.{Extent}
use Rattle.rooms.specs.Rooms.{RoomsListing, RoomsMean}
use Rattle.rooms.proofs.Calls.{RoomsAnswered}
use Rattle.rooms.proofs.Meaning.{answered-listing}
use Prim.Native.Nat.{ℕ}

pub rooms-listing : {e : Extent} {M N : Network} {ts cuts work : List ℕ} {a : Listed} {cuts' work' : List ℕ} → M ≡ N
    → RoomsAnswered e M ts cuts work a cuts' work' → RoomsMean e M ts cuts work a.refusal a.count cuts'
    → RoomsListing e N ts cuts work a.refusal a.count cuts' work' × RoomsMean e N ts cuts work a.refusal a.count cuts'
rooms-listing same answered means = (rw same at (answered-listing answered), rw same at means)
