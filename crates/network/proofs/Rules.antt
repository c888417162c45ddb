-- The record test finds no fault exactly if the record keeps the paper's rules.
-- Assumes nothing.
use mathlib.Core.Path.{◌≡◌, refl, ap, ◌∙◌}
use mathlib.Core.Bool.{Bool, true, false, cond, ◌||◌}
use mathlib.Core.Logic.{◌↔◌}
use Prim.Native.Nat.{ℕ, ◌≤◌, ◌<◌}
use native.Mathlib.Omega.{arith}
use denote.Floats.{is_true}
use borrow.Author.Tests.{ltb-false, le-ltb, lt-leb, ne_eqb}
use lib.Dec.{T, ltb}
use Rattle.bitset.specs.Members.{◌∈◌}
use Rattle.bitset.proofs.Sets.{∈-dec}
use Rattle.node_set.specs.Width.{node_width}
use Rattle.network.specs.declared.Network.{Network}
use Rattle.network.specs.Record.{size_fault, outside_fault, terminal_fault, end_fault, absent_fault, has_edge, first_end, second_end, metres_of, slot_fault, fault_of, present, Stored}
use Rattle.network.specs.Rules.{Rules, FaultMeans}
use Rattle.network.proofs.Refusals.{none_then, when-none, none-when, or-none, size_none, outside-none, terminals-none}
use Rattle.network.proofs.Slots.{Faultless, accepted, accepted-none}

-- ---- values that keep a rule have no fault

-- Two tests that fail fail together.
none_or : {a b : Bool} → a ≡ false → b ≡ false → (a || b) ≡ false
none_or p q i = p i || q i

pub none-size : (most n : ℕ) → 2 ≤ n → n ≤ most → size_fault most n ≡ 0
unfolding size_fault
none-size most n h k = none-when 4 (none_or (le-ltb n 2 h) (le-ltb most n k))

pub none-outside : (r n a b : ℕ) → a < n → b < n → outside_fault r n a b ≡ 0
unfolding outside_fault
none-outside r n a b h k = none-when r (none_or (lt-leb n a h) (lt-leb n b k))

none-terminals : (n a b : ℕ) → a < n → b < n → (a ≡ b → ⊥) → terminal_fault n a b ≡ 0
none-terminals n a b h k differ = none_then _ (none-outside 5 n a b h k) ∙ none-when 6 (ne_eqb a b differ)

none-absent : (a b m : ℕ) → a ≡ 0 → b ≡ 0 → m ≡ 0 → absent_fault a b m ≡ 0
unfolding absent_fault
none-absent a b m p q z = none-when 13 (none_or (none_or (le-ltb 0 a (omega arith)) (le-ltb 0 b (omega arith))) (le-ltb 0 m (omega arith)))

-- An absent edge without a fault has both ends and its metres 0.
pub absent_none : (a b m : ℕ) → absent_fault a b m ≡ 0 → (a ≡ 0) × (b ≡ 0) × (m ≡ 0)
unfolding absent_fault
absent_none a b m e =
    let q = or-none (ltb 0 a || ltb 0 b) (ltb 0 m) (when-none 13 (ltb 0 a || ltb 0 b || ltb 0 m) (omega arith) e) in
    let ends = or-none (ltb 0 a) (ltb 0 b) q.0 in
    (omega (arith, ltb-false 0 a ends.0), omega (arith, ltb-false 0 b ends.1), omega (arith, ltb-false 0 m q.1))

-- ---- a slot

-- By whether its edge is present.
slot-present : (N : Network) (k : ℕ) → k ∈ present N → slot_fault N k ≡ end_fault N.nodes (first_end N k) (second_end N k)
unfolding slot_fault
slot-present N k m = ap (λ (b : Bool). cond b (end_fault N.nodes (first_end N k) (second_end N k)) (absent_fault (first_end N k) (second_end N k) (metres_of N k))) (is_true (has_edge N k) m)

slot-absent : (N : Network) (k : ℕ) → (k ∈ present N → ⊥) → slot_fault N k ≡ absent_fault (first_end N k) (second_end N k) (metres_of N k)
unfolding slot_fault
slot-absent N k n = go (has_edge N k) n
  where
    go : (b : Bool) → (T b → ⊥) → cond b (end_fault N.nodes (first_end N k) (second_end N k)) (absent_fault (first_end N k) (second_end N k) (metres_of N k)) ≡ absent_fault (first_end N k) (second_end N k) (metres_of N k)
    go true n = absurd (n tt)
    go false n = refl

-- ---- the record

-- The record test finds no fault exactly if the rules are kept.
pub fault-rules : (N : Network) → (fault_of N ≡ 0) ↔ Rules N
fault-rules N = (kept, λ r. accepted-none N (faultless r))
  where
    kept : fault_of N ≡ 0 → Rules N
    kept e =
        let a : Faultless N = accepted N e in record {
          size = size_none node_width N.nodes a.size;
          terminals = terminals-none N.nodes N.source N.sink a.terminals;
          ends = λ k l m. outside-none 9 N.nodes (first_end N k) (second_end N k) (omega arith) (rw (slot-present N k m) at (a.slot-none k l));
          absent = λ k l n. absent_none (first_end N k) (second_end N k) (metres_of N k) (rw (slot-absent N k n) at (a.slot-none k l));
        }

    slot-none : Rules N → (k : ℕ) → k < 64 → Dec (k ∈ present N) → slot_fault N k ≡ 0
    slot-none r k l (yes m) =
        let p = r.ends k l m in
        slot-present N k m ∙ none-outside 9 N.nodes (first_end N k) (second_end N k) p.0 p.1
    slot-none r k l (no n) = let p = r.absent k l n in slot-absent N k n ∙ none-absent (first_end N k) (second_end N k) (metres_of N k) p.0 p.1 p.2

    faultless : Rules N → Faultless N
    faultless r = record {
      size = none-size node_width N.nodes r.size.0 r.size.1;
      terminals = none-terminals N.nodes N.source N.sink r.terminals.0 r.terminals.1 r.terminals.2;
      slot-none = λ k l. slot-none r k l (∈-dec k (present N));
    }

-- Beside the number stands what it means.
pub fault-means : (N : Network) → Stored N → {r : ℕ} → r ≡ fault_of N → (r ≡ fault_of N) × FaultMeans N r
fault-means N stored e = (e, record { stored = stored; kept = rw e (fault-rules N) })

-- The ends in every slot of an accepted network are below the width.
pub ends-within : (N : Network) → fault_of N ≡ 0 → (k : ℕ) → k < 64 → (first_end N k < node_width) × (second_end N k < node_width)
ends-within N ok k h = go (∈-dec k (present N))
  where
    rules : Rules N
    rules = (fault-rules N).0 ok

    go : Dec (k ∈ present N) → (first_end N k < node_width) × (second_end N k < node_width)
    go (yes m) = let e = rules.ends k h m in (omega (arith, rules.size), omega (arith, rules.size))
    go (no n) = let e = rules.absent k h n in (omega arith, omega arith)
