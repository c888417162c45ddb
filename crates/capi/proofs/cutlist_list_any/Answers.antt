-- `cutlist_list_any` meets its contract, by those of `assemble` and the call for several rooms.
-- Assumes nothing.
use Rattle.capi.proofs.Rooms.{rooms-listing}
use Rattle.capi.proofs.cutlist_list_any.Goals as goal

pub returns : goal.returns
returns c =
    let both = rooms-listing c.assemble-with_any.ensures c.list_any.ensures.value c.list_any.ensures.means in
    rw (c.told-refusal.ensures.0, c.told-refusal.ensures.1) (record { rooms_listing = both.0; means = both.1 })
