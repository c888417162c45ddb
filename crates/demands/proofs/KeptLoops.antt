-- What earlier plans keep: the rule 10 went, and no other answer is another. Cables had no metres then.
-- Assumes, where it says so, what the code's types say of the records.
use mathlib.Core.Bool.{Bool, true, false, cond, ◌||◌}
use mathlib.Core.List.{List, [], ◌∷◌, map, foldr}
use mathlib.Core.Logic.{◌⊎◌, inl, inr, ◌↔◌}
use mathlib.Core.Path.{◌≡◌, refl, sym, ap, subst, ◌∙◌}
use Prim.Native.Nat.{ℕ, zero, suc, ◌≤◌, ◌<◌, zero-le}
use native.Mathlib.Nat.{le_refl}
use native.Mathlib.Omega.{arith}
use denote.Floats.{is_true}
use borrow.Author.Tests.{eqb-true, eqb-false}
use lib.Dec.{T, ltb, eqb}
use lib.ListN.{length, drop, length-drop}
use Rattle.bitset.proofs.Members.{has-zero}
use Rattle.bitset.proofs.Sets.{member-lt}
use Rattle.network.specs.declared.Network.{Network}
use Rattle.network.specs.Record.{◌when◌, ◌then◌, unless_refused, size_fault, terminal_fault, end_fault, slots, Slot, slot, has_edge, first_end, second_end, bare, with_edge, present, Stored}
use Rattle.network.specs.Ends.{Loop, Loopless}
use Rattle.network.proofs.Refusals.{then-none, some_then, then-kept, when-none, none-when, some-when, refused-some, row-none}
use Rattle.network.proofs.Slots.{with_edge-stored, with_edge-slots}
use Rattle.format.specs.Format.{Decoded}
use Rattle.format.specs.Format.{Outcome}
use Rattle.format.specs.Format.{edge_step, accept, refuse, if_taken, edges}
use Rattle.format.proofs.Steps.{EdgeView, edge, end, edge_view}
use Rattle.format.proofs.Reading.{edge_kept, bare-stored}
use Rattle.graph.proofs.Lists.{complete-unique}
use Rattle.demands.specs.Kept.{test_by, Unmeasured, slot_unmeasured, edges_unmeasured, decode_unmeasured, loop_fault, slot_with_ten, fault_with_ten, edges_with_ten, decode_with_ten, LoopsKept}
use Rattle.demands.proofs.KeptLengths.{old-edge, old-end, old-refused, with_edge-unmeasured, walk_kept, bare-unmeasured}
use Rattle.demands.proofs.Lifted.{Lifted, lifted, lifted_by, refused-same, accepted-same, decode-lifted, lifted-plans, lifted-read, test-same}

-- ---- records

-- A slot's fault is the one that it was, or it was 10, for a loop.
slot-ten : (p : Bool) (r q a b : ℕ)
    → (cond p (r then loop_fault a b) q ≡ cond p r q) ⊎ (T p × (a ≡ b) × (cond p (r then loop_fault a b) q ≡ 10))
unfolding ◌then◌ loop_fault
slot-ten false r q a b = inl refl
slot-ten true zero q a b = go (eqb a b) refl
  where
    go : (t : Bool) → eqb a b ≡ t → (loop_fault a b ≡ 0) ⊎ (T true × (a ≡ b) × (loop_fault a b ≡ 10))
    go true e = inr (tt, eqb-true a b e, some-when 10 e)
    go false e = inl (none-when 10 e)
slot-ten true (suc r) q a b = inl refl

module _ (N : Network) where
  -- The same of slot k.
  slot_cases : (k : ℕ) → (slot_with_ten N k ≡ slot_unmeasured N k) ⊎ (Loop N k (second_end N k) × (slot_with_ten N k ≡ 10))
  unfolding slot_with_ten slot_unmeasured
  slot_cases k =
      let a : ℕ = first_end N k in
      let b : ℕ = second_end N k in
      elim (slot-ten (has_edge N k) (end_fault N.nodes a b) (13 when (ltb 0 a || ltb 0 b)) a b) [ inl e ↦ inl e | inr c ↦ inr ((c.0, c.1, refl), c.2) ]

  -- A loop's slot had a fault.
  loop-refused : (k v : ℕ) → Loop N k v → slot_with_ten N k ≡ 0 → ⊥
  unfolding slot_with_ten loop_fault
  loop-refused k v (m, first, second) e =
      let a : ℕ = first_end N k in
      let b : ℕ = second_end N k in
      let here = then-none (end_fault N.nodes a b) (loop_fault a b) (rw (is_true (has_edge N k) m) at e) in
      eqb-false a b (when-none 10 (eqb a b) (omega arith) here.1) (first ∙ sym second)

-- The first fault of a row of slots is the one that it was, unless it was 10.
row_kept : (f g : ℕ → ℕ) → ((k : ℕ) → (g k ≡ f k) ⊎ (g k ≡ 10)) → (l : List ℕ)
    → (foldr ◌then◌ 0 (map g l) ≡ 10 → ⊥) → foldr ◌then◌ 0 (map f l) ≡ foldr ◌then◌ 0 (map g l)
row_kept f g cases [] n = refl
row_kept f g cases (k ∷ l) n =
    let rest = row_kept f g cases l in
    elim (cases k) [
      | inl e ↦ ap (λ r. r then foldr ◌then◌ 0 (map f l)) (sym e) ∙ then-kept 10 (g k) rest n
      | inr ten ↦ absurd (n (ap (λ r. r then foldr ◌then◌ 0 (map g l)) ten ∙ some_then 10 _ (omega arith)))
    ]

-- So is that of the record.
faults : (most : ℕ) (N : Network) → (fault_with_ten most N ≡ 10 → ⊥) → test_by slot_unmeasured most N ≡ fault_with_ten most N
unfolding test_by
faults most N =
    then-kept 10 (size_fault most N.nodes) (then-kept 10 (terminal_fault N.nodes N.source N.sink)
    (row_kept (slot_unmeasured N) (slot_with_ten N) (λ k. elim (slot_cases N k) [ inl e ↦ inl e | inr c ↦ inr c.1 ]) slots))

-- Without loops each slot's fault is the one that it was.
loopless : (most : ℕ) (N : Network) → Loopless N → test_by slot_unmeasured most N ≡ fault_with_ten most N
loopless most N none =
    test-same slot_unmeasured slot_with_ten most N
    (λ k. elim (slot_cases N k) [ inl e ↦ sym e | inr c ↦ absurd (none k (second_end N k) c.0) ])

-- An accepted record had no loop, since no slot had a fault.
accepted : (most : ℕ) (N : Network) → Stored N → (fault_with_ten most N ≡ 0) ↔ ((test_by slot_unmeasured most N ≡ 0) × Loopless N)
unfolding test_by
accepted most N stored = (
  λ e.
      let fit = (then-none (size_fault most N.nodes) _ e).1 in
      let none = row-none (slot_with_ten N) 0 64 (then-none (terminal_fault N.nodes N.source N.sink) _ fit).1 in (
        faults most N (λ t. omega arith) ∙ e,
        λ k v l. loop-refused N k v l (none k zero-le (member-lt 64 (present N) k stored.edges l.0)),
      ),
  λ k. sym (loopless most N k.1) ∙ k.0,
)

-- ---- plans in bytes

-- A turn of the walk with the rule 10.
module _ (turns : ℕ) (N : Network) (next : ℕ) (s : List ℕ) where
  ten-edge : {k a b : ℕ} → edge_step N.nodes next s ≡ Outcome.Edge k a b
      → edges_with_ten (suc turns) N next s ≡ unless_refused (loop_fault a b) (edges_with_ten turns (with_edge N k a b 0) (suc k) (drop 4 s)) (refuse 10)
  unfolding edges_with_ten if_taken
  ten-edge e = rw e

  ten-end : edge_step N.nodes next s ≡ Outcome.End → edges_with_ten (suc turns) N next s ≡ accept N
  unfolding edges_with_ten if_taken
  ten-end e = rw e

  ten-refused : {r : ℕ} → edge_step N.nodes next s ≡ Outcome.Refused r → 0 < r → edges_with_ten (suc turns) N next s ≡ refuse r
  unfolding edges_with_ten if_taken
  ten-refused {r} e p = rw e (refused-some r _ (refuse r) (λ z. omega arith))

-- What a slot that holds a loop at v holds.
abbrev LoopSlot : ℕ → Slot → Type 0
LoopSlot v x = T x.0 × (x.1 ≡ v) × (x.2 ≡ v)

-- An edge between two points makes no loop.
with_edge-loopless : (N : Network) → Stored N → (k a b : ℕ) → k < 64 → (a ≡ b → ⊥) → Loopless N → Loopless (with_edge N k a b 0)
with_edge-loopless N stored k a b l differ none =
    with_edge-slots N stored k a b 0 l (λ j s. (v : ℕ) → LoopSlot v s → ⊥) (λ v loop. differ (loop.1 ∙ sym loop.2)) (λ j d. none j)

-- What is read on after an edge's command, with the rule and without.
module _ (turns : ℕ) (N : Network) (k a b : ℕ) (s : List ℕ) where
  abbrev before : Decoded
  before = edges_with_ten turns (with_edge N k a b 0) (suc k) s

  abbrev now : Decoded
  now = edges_unmeasured turns (with_edge N k a b 0) (suc k) s

  -- A record that is accepted has the edge: with lengths it would be read alike.
  has-edge : length s ≤ turns → Stored N → Unmeasured N → k < 64 → now.refusal ≡ 0 → slot now.network k ≡ (true, a, b, 0)
  has-edge t stored none l ok =
      let later : edges turns (with_edge N k a b 0) (suc k) s ≡ now =
      lifted-plans (walk_kept (Unit {0}) turns (with_edge N k a b 0) (suc k) s t (with_edge-stored N stored k a b 0 l) (with_edge-unmeasured N stored k a b l none)
      (λ i e. tt))
      (λ two. omega arith) in
      sym (ap (λ (d : Decoded). slot d.network k) later)
      ∙ edge_kept turns N stored k a b 0 s l (ap (λ (d : Decoded). d.refusal) later ∙ ok)

  -- The command was refused if its ends are one point.
  edge-ten : length s ≤ turns → Stored N → Unmeasured N → k < 64 → ((a ≡ b → ⊥) → Lifted 10 (Unit {0}) Loopless before now)
      → Lifted 10 (Unit {0}) Loopless (unless_refused (loop_fault a b) before (refuse 10)) now
  unfolding loop_fault
  edge-ten t stored none l on = go (eqb a b) refl
    where
      go : (z : Bool) → eqb a b ≡ z → Lifted 10 (Unit {0}) Loopless (unless_refused (loop_fault a b) before (refuse 10)) now
      go true e =
          lifted tt (ap (λ r. (unless_refused r before (refuse 10)).refusal) (some-when 10 e))
          (λ ok loops. loops k b (subst (LoopSlot b) (sym (has-edge t stored none l ok)) (tt, eqb-true a b e, refl)))
      go false e = lifted_by (ap (λ r. unless_refused r before (refuse 10)) (none-when 10 e)) refl (on (eqb-false a b e))

-- The walk.
walk-ten : (turns : ℕ) (N : Network) (next : ℕ) (s : List ℕ) → length s ≤ turns → Stored N → Unmeasured N → Loopless N
    → Lifted 10 (Unit {0}) Loopless (edges_with_ten turns N next s) (edges_unmeasured turns N next s)
unfolding edges_with_ten edges_unmeasured
walk-ten zero N next s t stored none loops = refused-same 1 (omega arith)
walk-ten (suc turns) N next s t stored none loops =
    go (λ k a b l fewer differ.
    walk-ten turns (with_edge N k a b 0) (suc k) (drop 4 s) fewer (with_edge-stored N stored k a b 0 l) (with_edge-unmeasured N stored k a b l none)
    (with_edge-loopless N stored k a b l differ loops))
    (edge_view N.nodes next s)
  where
    go : ((k a b : ℕ) → k < 64 → length (drop 4 s) ≤ turns → (a ≡ b → ⊥)
        → Lifted 10 (Unit {0}) Loopless (edges_with_ten turns (with_edge N k a b 0) (suc k) (drop 4 s)) (edges_unmeasured turns (with_edge N k a b 0) (suc k) (drop 4 s)))
        → EdgeView N.nodes next s → Lifted 10 (Unit {0}) Loopless (edges_with_ten (suc turns) N next s) (edges_unmeasured (suc turns) N next s)
    go later (edge k a b rest step p h l f) =
        let fewer : length (drop 4 s) ≤ turns = simp length-drop (omega (arith, ap length p)) in
        lifted_by (ten-edge turns N next s step) (old-edge turns N next s step)
        (edge-ten turns N k a b (drop 4 s) fewer stored none l (later k a b l fewer))
    go later (end step p) = lifted_by (ten-end turns N next s step) (old-end turns N next s step) (accepted-same N loops)
    go later (EdgeView.refused r step p b) = lifted_by (ten-refused turns N next s step p) (old-refused turns N next s step p) (refused-same r p)

-- A network without edges has no loop.
bare-loopless : (n s t : ℕ) → Loopless (bare n s t)
unfolding bare
bare-loopless n s t k v loop = rw (has-zero k) at loop.0

-- The reader.
decode-ten : (most : ℕ) (s : List ℕ) → Lifted 10 (Unit {0}) Loopless (decode_with_ten most s) (decode_unmeasured most s)
decode-ten most s =
    decode-lifted (λ N s. edges_with_ten (length s) N 0 s) (λ N s. edges_unmeasured (length s) N 0 s) most s (λ n a b.
    walk-ten (length (drop 5 s)) (bare n a b) 0 (drop 5 s) (le_refl (length (drop 5 s))) (bare-stored n a b) (bare-unmeasured n a b) (bare-loopless n a b))

-- Whatever the limit of points is.
pub loops-kept : (most : ℕ) → LoopsKept most
loops-kept most = record {
  faults = faults most;
  plans = λ s. lifted-plans (decode-ten most s);
  loopless = loopless most;
  accepted = accepted most;
  read = λ s. lifted-read (omega arith) (decode-ten most s);
  lists = complete-unique;
}
