use mathlib.Core.Path.{◌≡◌, refl, sym, ap, ◌∙◌}
use mathlib.Core.Bool.{Bool}
use borrow.Author.Rules.{rules}
use Prim.Native.Nat.{ℕ, ◌-◌}
use native.Mathlib.Numerals.{add-one}
use Rattle.sequences.specs.Words.{range}
use Rattle.bitset.specs.Members.{has}
use Rattle.network.specs.declared.Network.{Network}
use Rattle.network.specs.Record.{present, slot_fault_of, slot_fault, slots_fault, first_end, second_end, metres_of}
use Rattle.network.proofs.Slots.{slots-step}
use Rattle.network.proofs.Refusals.{none_then, refused_then, passed-on}
use Rattle.network.proofs.faults.slots_fault.Goals as goal

pub loop-k-init : goal.loop-k-init
loop-k-init c = refl

-- The fault of the slot that is tested is that of the record's slot.
tested : (N : Network) (k : ℕ) {r : ℕ} {p : Bool} → r ≡ slot_fault_of N.nodes (p, first_end N k, second_end N k, metres_of N k)
    → p ≡ has (present N) k → r ≡ slot_fault N k
unfolding slot_fault
tested N k fault present = fault ∙ ap (λ p. slot_fault_of N.nodes (p, first_end N k, second_end N k, metres_of N k)) present

pub returns-in_err-slot_fault : goal.returns-in_err-slot_fault
returns-in_err-slot_fault c =
    let N = c.args.network in
    let k = c.loop-k.k in
    passed-on _ _ c.from_residual.ensures.1
    ∙ refused_then _ _ (tested N k c.in_err-slot_fault.ensures c.contains.ensures)
    ∙ sym (slots-step N k c.loop-k-test.true) ∙ c.loop-k.invariant

pub loop-k-preserved : goal.loop-k-preserved
loop-k-preserved c =
    let N = c.args.network in
    let k = c.loop-k.k in
    let none : slot_fault N k ≡ 0 = sym (tested N k c.in_ok-slot_fault.ensures c.contains.ensures) in
    ap (λ j. slots_fault N j (64 - j)) (add-one k) ∙ sym (slots-step N k c.loop-k-test.true ∙ none_then _ none) ∙ c.loop-k.invariant

pub returns : goal.returns
unfolding slots_fault range
returns c =
    let l = c.loop-k in
    let all : l.k ≡ 64 = search rules in
    ap (λ j. slots_fault c.args.network j (64 - j)) (sym all) ∙ l.invariant
