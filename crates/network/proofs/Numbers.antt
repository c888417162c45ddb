-- The record test gives no other number than those of its rules.
-- Assumes nothing.
use mathlib.Core.Bool.{Bool, true, false, cond, ◌||◌}
use mathlib.Core.Path.{◌≡◌}
use Prim.Native.Nat.{ℕ, zero, suc}
use lib.Dec.{T, ltb}
use Rattle.sequences.specs.Words.{range}
use Rattle.node_set.specs.Width.{node_width}
use Rattle.network.specs.declared.Network.{Network}
use Rattle.network.specs.Record.{◌then◌, first_fault, among, size_fault, terminal_fault, end_fault, absent_fault, has_edge, first_end, second_end, metres_of, slot_fault, slots_fault, record_refusals, fault_up_to, fault_of}
use Rattle.network.proofs.Refusals.{then-among, when-among, outside-among, terminals-among}

abbrev Kept : ℕ → Type 0
Kept r = T (among record_refusals r)

-- The fault of a slot.
slot-among : (N : Network) (k : ℕ) → Kept (slot_fault N k)
unfolding among slot_fault absent_fault
slot-among N k = go (has_edge N k)
  where
    go : (b : Bool) → Kept (cond b (end_fault N.nodes (first_end N k) (second_end N k)) (absent_fault (first_end N k) (second_end N k) (metres_of N k)))
    go true = outside-among record_refusals 9 N.nodes (first_end N k) (second_end N k) tt
    go false = when-among record_refusals 13 (ltb 0 (first_end N k) || ltb 0 (second_end N k) || ltb 0 (metres_of N k)) tt

-- The first fault of some slots.
slots-among : (N : Network) (n k : ℕ) → Kept (slots_fault N k n)
unfolding among slots_fault range
slots-among N zero k = tt
slots-among N (suc n) k =
    then-among record_refusals (slot_fault N k) (first_fault (slot_fault N) (suc k) n) (slot-among N k) (slots-among N n (suc k))

-- The fault of a record.
pub fault-among : (N : Network) → Kept (fault_of N)
unfolding among fault_up_to size_fault
fault-among N =
    let terminals : ℕ = terminal_fault N.nodes N.source N.sink in
    then-among record_refusals (size_fault node_width N.nodes) (terminals then slots_fault N 0 64)
    (when-among record_refusals 4 (ltb N.nodes 2 || ltb node_width N.nodes) tt)
    (then-among record_refusals terminals (slots_fault N 0 64) (terminals-among record_refusals N.nodes N.source N.sink tt tt) (slots-among N 64 0))

-- So a number that is not among them is no record's fault.
pub not-fault : (N : Network) (r : ℕ) → (T (among record_refusals r) → ⊥) → fault_of N ≡ r → ⊥
not-fault N r out e = out (rw e at (fault-among N))
