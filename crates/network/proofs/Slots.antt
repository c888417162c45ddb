-- The 64 slots of a record: what is stored in one, and what the record test makes of all of them.
-- Assumes nothing.
--
--   empty            what an empty slot holds
--   Faultless N       size, terminals and each slot of N have no fault
use mathlib.Core.Bool.{true, false, ◌||◌, or-false, or-true}
use mathlib.Core.Path.{◌≡◌, refl, sym, ap, subst, ◌∙◌}
use Prim.Native.Nat.{ℕ, suc, ◌-◌, ◌<◌, zero-le}
use native.Mathlib.Decide.{ℕ_discrete}
use native.Mathlib.Omega.{arith}
use lib.ListN.{length-set}
use lib.Seq.{get_or-set_same, get_or-set_other}
use borrow.Author.Tests.{eq-eqb, ne_eqb}
use Rattle.bitset.proofs.Members.{has-insert, insert-lt}
use Rattle.node_set.specs.Width.{node_width}
use Rattle.network.specs.declared.Network.{Network}
use Rattle.network.specs.Record.{◌then◌, Stored, Slot, slot, slot_fault_of, slot_fault, slots_fault, size_fault, terminal_fault, end_fault, fault_up_to, fault_of, has_edge, first_end, second_end, metres_of, with_edge, present}
use Rattle.network.proofs.Refusals.{then-none, none_then, row-none, none_row, row_step}

abbrev pub empty : Slot
empty = (false, 0, 0, 0)

-- The fault of a slot is read off what it holds.
pub slot_fault-of : (N : Network) (k : ℕ) {s : Slot} → slot N k ≡ s → slot_fault N k ≡ slot_fault_of N.nodes s
unfolding slot_fault
slot_fault-of N k e = ap (slot_fault_of N.nodes) e

-- ---- an edge put in

module _ (N : Network) (stored : Stored N) (k a b m : ℕ) (l : k < 64) where
  pub with_edge-same : slot (with_edge N k a b m) k ≡ (true, a, b, m)
  unfolding with_edge
  with_edge-same =
      let p : has_edge (with_edge N k a b m) k ≡ true = has-insert (present N) k k ∙ ap (λ x. has_edge N k || x) (eq-eqb k k refl) ∙ or-true (has_edge N k) in
      let f : first_end (with_edge N k a b m) k ≡ a = get_or-set_same N.first k a 0 (rw stored.firsts l) in
      let g : second_end (with_edge N k a b m) k ≡ b = get_or-set_same N.second k b 0 (rw stored.seconds l) in
      let h : metres_of (with_edge N k a b m) k ≡ m = get_or-set_same N.metres k m 0 (rw stored.lengths l) in
      λ i. (p i, f i, g i, h i)

  pub with_edge-other : (j : ℕ) → (j ≡ k → ⊥) → slot (with_edge N k a b m) j ≡ slot N j
  unfolding with_edge
  with_edge-other j d =
      let p : has_edge (with_edge N k a b m) j ≡ has_edge N j = has-insert (present N) k j ∙ ap (λ x. has_edge N j || x) (ne_eqb j k d) ∙ or-false (has_edge N j) in
      let f : first_end (with_edge N k a b m) j ≡ first_end N j = get_or-set_other N.first k j a 0 d in
      let g : second_end (with_edge N k a b m) j ≡ second_end N j = get_or-set_other N.second k j b 0 d in
      let h : metres_of (with_edge N k a b m) j ≡ metres_of N j = get_or-set_other N.metres k j m 0 d in
      λ i. (p i, f i, g i, h i)

  pub with_edge-stored : Stored (with_edge N k a b m)
  unfolding with_edge
  with_edge-stored = record {
    firsts = length-set N.first k a ∙ stored.firsts;
    seconds = length-set N.second k b ∙ stored.seconds;
    lengths = length-set N.metres k m ∙ stored.lengths;
    edges = insert-lt 64 stored.edges l;
  }

  -- What holds of the edge's slot and of all others holds of every slot.
  pub with_edge-slots : (P : ℕ → Slot → Type 0) → P k (true, a, b, m) → ((j : ℕ) → (j ≡ k → ⊥) → P j (slot N j)) → (j : ℕ) → P j (slot (with_edge N k a b m) j)
  with_edge-slots P here others j = go (ℕ_discrete j k)
    where
      go : Dec (j ≡ k) → P j (slot (with_edge N k a b m) j)
      go (yes q) = subst (λ i. P i (slot (with_edge N k a b m) i)) (sym q) (subst (P k) (sym with_edge-same) here)
      go (no d) = subst (P j) (sym (with_edge-other j d)) (others j d)

  -- An edge whose ends have no fault leaves the slots without one.
  pub with_edge-faultless : end_fault N.nodes a b ≡ 0 → ((j : ℕ) → j < 64 → slot_fault N j ≡ 0) → (j : ℕ) → j < 64 → slot_fault (with_edge N k a b m) j ≡ 0
  unfolding with_edge slot_fault
  with_edge-faultless f none = with_edge-slots (λ j s. j < 64 → slot_fault_of N.nodes s ≡ 0) (λ l. f) (λ j d. none j)

-- ---- all slots

-- A record is accepted exactly if its size, its terminals and each slot have no fault.
pub record Faultless (N : Network) : Type 0 where
  pub size : size_fault node_width N.nodes ≡ 0
  pub terminals : terminal_fault N.nodes N.source N.sink ≡ 0
  pub slot-none : (k : ℕ) → k < 64 → slot_fault N k ≡ 0

pub accepted : (N : Network) → fault_of N ≡ 0 → Faultless N
unfolding fault_up_to slots_fault
accepted N e =
    let a = then-none (size_fault node_width N.nodes) _ e in
    let b = then-none (terminal_fault N.nodes N.source N.sink) _ a.1 in
    record { size = a.0; terminals = b.0; slot-none = λ k l. row-none (slot_fault N) 0 64 b.1 k zero-le (omega arith) }

pub accepted-none : (N : Network) → Faultless N → fault_of N ≡ 0
unfolding fault_up_to slots_fault
accepted-none N a =
    none_then _ a.size ∙ none_then _ a.terminals ∙ none_row (slot_fault N) 0 64 (λ j h l. a.slot-none j (omega arith))

-- The first fault of the slots from k on is that of slot k, or else that of the later ones.
pub slots-step : (N : Network) (k : ℕ) → k < 64 → slots_fault N k (64 - k) ≡ (slot_fault N k then slots_fault N (suc k) (64 - suc k))
unfolding slots_fault
slots-step N k l = row_step (slot_fault N) k 64 l
