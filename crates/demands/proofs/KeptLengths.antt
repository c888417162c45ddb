-- What earlier plans keep: metres came, and a record without them is tested, read and written as it was.
-- Assumes nothing.
use mathlib.Core.Bool.{cond, ◌||◌, or-false}
use mathlib.Core.List.{List, [], ◌∷◌, ◌++◌, flat_map}
use mathlib.Core.Path.{◌≡◌, refl, sym, ap, ◌∙◌}
use Prim.Native.Nat.{ℕ, zero, suc, ◌+◌, ◌*◌, ◌≤◌, ◌<◌}
use native.Mathlib.Nat.{le_refl}
use native.Mathlib.Decide.{dec_lt}
use native.Mathlib.Omega.{arith}
use borrow.Author.Tests.{le-ltb}
use lib.Dec.{ltb}
use lib.ListN.{length, drop, replicate, get_or-replicate, get_or-eq_default}
use lib.Seq.{get_or-drop}
use Rattle.network.specs.declared.Network.{Network}
use Rattle.network.specs.Record.{◌when◌, end_fault, absent_fault, slots, Slot, has_edge, first_end, second_end, metres_of, slot_fault, bare, with_edge, Stored}
use Rattle.network.proofs.Refusals.{refused-some}
use Rattle.network.proofs.Slots.{with_edge-stored, with_edge-slots}
use Rattle.format.specs.Format.{Decoded}
use Rattle.format.specs.Format.{Outcome}
use Rattle.format.specs.Format.{at, edge_step, length_size, accept, refuse, if_taken, edges, edge_command, encode_of, decode_up_to}
use Rattle.format.proofs.Commands.{length-absent}
use Rattle.format.proofs.Steps.{edge-unfit, EdgeView, edge, end, edge_view, LengthView, measured, unmeasured, length-view}
use Rattle.format.proofs.Walk.{edges-edge, edges-length-refused, edges-end, edges-refused}
use Rattle.format.proofs.Reading.{edge_kept, bare-stored}
use Rattle.demands.specs.Kept.{Unmeasured, slot_unmeasured, edges_unmeasured, decode_unmeasured, encode_unmeasured, LengthsKept}
use Rattle.demands.proofs.Lifted.{Lifted, lifted, lifted_by, refused-same, accepted-same, decode-lifted, lifted-plans, lifted-without, lifted-read, test-same, test-today, decode-today}

-- ---- records

-- A slot without metres has the fault that it had.
slot_kept : (N : Network) (k : ℕ) → metres_of N k ≡ 0 → slot_fault N k ≡ slot_unmeasured N k
unfolding slot_fault slot_unmeasured absent_fault
slot_kept N k z =
    let a : ℕ = first_end N k in
    let b : ℕ = second_end N k in
    let none : (ltb 0 a || ltb 0 b || ltb 0 (metres_of N k)) ≡ (ltb 0 a || ltb 0 b) =
    ap (λ x. ltb 0 a || ltb 0 b || x) (le-ltb 0 (metres_of N k) (omega arith)) ∙ or-false (ltb 0 a || ltb 0 b) in
    ap (λ x. cond (has_edge N k) (end_fault N.nodes a b) (13 when x)) none

-- ---- bytes

-- Its commands are those that it had.
command-kept : (N : Network) (k : ℕ) → metres_of N k ≡ 0 → edge_command N k ≡ cond (has_edge N k) (0x43 ∷ k ∷ first_end N k ∷ second_end N k ∷ []) []
unfolding edge_command
command-kept N k z = ap (λ c. cond (has_edge N k) (0x43 ∷ k ∷ first_end N k ∷ second_end N k ∷ c) []) (length-absent k (metres_of N k) z)

pub unmeasured-bytes : (N : Network) → Unmeasured N → encode_of N ≡ encode_unmeasured N
unfolding encode_of encode_unmeasured
unmeasured-bytes N none =
    λ i. 0x50 ∷ N.nodes ∷ 0x53 ∷ N.source ∷ N.sink ∷ (flat_map (λ (k : ℕ). command-kept N k (none k) i) slots ++ 0x45 ∷ [])

-- ---- plans

-- A turn of the walk without lengths.
module _ (turns : ℕ) (N : Network) (next : ℕ) (s : List ℕ) where
  pub old-edge : {k a b : ℕ} → edge_step N.nodes next s ≡ Outcome.Edge k a b
      → edges_unmeasured (suc turns) N next s ≡ edges_unmeasured turns (with_edge N k a b 0) (suc k) (drop 4 s)
  unfolding edges_unmeasured if_taken
  old-edge e = rw e

  pub old-end : edge_step N.nodes next s ≡ Outcome.End → edges_unmeasured (suc turns) N next s ≡ accept N
  unfolding edges_unmeasured if_taken
  old-end e = rw e

  pub old-refused : {r : ℕ} → edge_step N.nodes next s ≡ Outcome.Refused r → 0 < r → edges_unmeasured (suc turns) N next s ≡ refuse r
  unfolding edges_unmeasured if_taken
  old-refused {r} e p = rw e (refused-some r _ (refuse r) (λ z. omega arith))

-- A length was no command fit for its place.
old-unfit : (turns : ℕ) (N : Network) (next : ℕ) (s : List ℕ) → 0 < turns → at s 0 ≡ 0x4D → (edges_unmeasured turns N next s).refusal ≡ 2
old-unfit zero N next s h e = absurd (omega arith)
old-unfit (suc turns) N next s h e = ap (λ d. d.refusal) (old-refused turns N next s (edge-unfit s e N.nodes next) (omega arith))

-- An edge without metres leaves none.
pub with_edge-unmeasured : (N : Network) → Stored N → (k a b : ℕ) → k < 64 → Unmeasured N → Unmeasured (with_edge N k a b 0)
with_edge-unmeasured N stored k a b l none = with_edge-slots N stored k a b 0 l (λ j s. s.3 ≡ 0) refl (λ j d. none j)

-- No length takes no byte.
no_length : (turns : ℕ) (N : Network) (next : ℕ) (s : List ℕ) → edges turns N next (drop (length_size 0) s) ≡ edges turns N next s
unfolding length_size
no_length turns N next s = refl

-- What follows from the byte 4D in a plan follows from it in what is left of the plan.
seen-later : {W : Type 0} (n : ℕ) (s : List ℕ) → ((i : ℕ) → at s i ≡ 0x4D → W) → (i : ℕ) → at (drop n s) i ≡ 0x4D → W
seen-later n s seen i e = seen (n + i) (sym (get_or-drop n s i 0) ∙ e)

-- Where the walks part, the byte 4D occurs.
pub walk_kept : (W : Type 0) (turns : ℕ) (N : Network) (next : ℕ) (s : List ℕ) → length s ≤ turns → Stored N → Unmeasured N
    → ((i : ℕ) → at s i ≡ 0x4D → W) → Lifted 2 W Unmeasured (edges_unmeasured turns N next s) (edges turns N next s)
unfolding edges_unmeasured edges
walk_kept W zero N next s t stored none seen = refused-same 1 (omega arith)
walk_kept W (suc turns) N next s t stored none seen =
    go (λ k a b l p.
    walk_kept W turns (with_edge N k a b 0) (suc k) (drop 4 s) p (with_edge-stored N stored k a b 0 l) (with_edge-unmeasured N stored k a b l none)
    (seen-later 4 s seen))
    (edge_view N.nodes next s)
  where
    go : ((k a b : ℕ) → k < 64 → length (drop 4 s) ≤ turns
        → Lifted 2 W Unmeasured (edges_unmeasured turns (with_edge N k a b 0) (suc k) (drop 4 s)) (edges turns (with_edge N k a b 0) (suc k) (drop 4 s)))
        → EdgeView N.nodes next s → Lifted 2 W Unmeasured (edges_unmeasured (suc turns) N next s) (edges (suc turns) N next s)
    go later (edge k a b rest step p h l f) = after (length-view k (drop 4 s))
      where
        -- At least the edge's bytes are taken.
        fewer : length (drop 4 s) + 4 ≤ suc turns
        fewer = let long : length s ≡ 4 + length (drop 4 s) = ap length p ∙ omega (arith, ap (λ x. length (drop 4 x)) p) in omega arith

        -- A length was refused.
        refused-two : at (drop 4 s) 0 ≡ 0x4D → (edges_unmeasured (suc turns) N next s).refusal ≡ 2
        refused-two e =
            ap (λ d. d.refusal) (old-edge turns N next s step) ∙ old-unfit turns (with_edge N k a b 0) (suc k) (drop 4 s) (omega (arith, fewer)) e

        after : LengthView k (drop 4 s) → Lifted 2 W Unmeasured (edges_unmeasured (suc turns) N next s) (edges (suc turns) N next s)
        after (unmeasured step' none') =
            lifted_by (old-edge turns N next s step) (edges-edge turns N next s step step' ∙ no_length turns (with_edge N k a b 0) (suc k) (drop 4 s))
            (later k a b l (omega (arith, fewer)))
        after (measured high low rest' step' p' some) =
            lifted (seen-later 4 s seen 0 (ap (λ x. at x 0) p')) (refused-two (ap (λ x. at x 0) p')) (λ ok none'.
            let goes = edges-edge turns N next s step step' in
            let last : List ℕ = drop (length_size (high * 256 + low)) (drop 4 s) in
            let held = edge_kept turns N stored k a b (high * 256 + low) last l (sym (ap (λ d. d.refusal) goes) ∙ ok) in
            some (sym (ap (λ (x : Slot). x.3) held) ∙ sym (ap (λ d. metres_of d.network k) goes) ∙ none' k))
        after (LengthView.refused r step' q c d) =
            lifted (seen-later 4 s seen 0 d) (refused-two d) (λ ok none'.
            absurd (omega (arith, ap (λ x. x.refusal) (edges-length-refused turns N next s step step' q))))
    go later (end step p) = lifted_by (old-end turns N next s step) (edges-end turns N next s step) (accepted-same N none)
    go later (EdgeView.refused r step p b) = lifted_by (old-refused turns N next s step p) (edges-refused turns N next s step p) (refused-same r p)

-- A network without edges has no metres.
pub bare-unmeasured : (n s t : ℕ) → Unmeasured (bare n s t)
unfolding bare
bare-unmeasured n s t k = go (dec_lt k 64)
  where
    go : Dec (k < 64) → metres_of (bare n s t) k ≡ 0
    go (yes l) = get_or-replicate 64 k 0 0 l
    go (no l) = let past : 64 ≤ k = omega arith in get_or-eq_default (replicate 64 0) 0 past

-- The walk of today's reader, and the one without lengths.
abbrev now : Network → List ℕ → Decoded
now N s = edges (length s) N 0 s

abbrev before : Network → List ℕ → Decoded
before N s = edges_unmeasured (length s) N 0 s

-- Where the readers part, the byte 4D occurs.
decode-kept : (most : ℕ) (s : List ℕ) → Lifted 2 (((i : ℕ) → at s i ≡ 0x4D → ⊥) → ⊥) Unmeasured (decode_unmeasured most s) (decode_up_to most s)
decode-kept most s =
    lifted_by refl (decode-today most s)
    (decode-lifted before now most s (λ n a b.
    walk_kept _ (length (drop 5 s)) (bare n a b) 0 (drop 5 s) (le_refl (length (drop 5 s))) (bare-stored n a b) (bare-unmeasured n a b)
    (seen-later 5 s (λ i e none. none i e))))

-- Whatever the limit of points is.
pub lengths-kept : (most : ℕ) → LengthsKept most
lengths-kept most = record {
  faults = λ N none. test-today most N ∙ test-same slot_fault slot_unmeasured most N (λ k. slot_kept N k (none k));
  bytes = unmeasured-bytes;
  plans = λ s. lifted-plans (decode-kept most s);
  without = λ s none. lifted-without (decode-kept most s) (λ some. some none);
  read = λ s. lifted-read (omega arith) (decode-kept most s);
}
