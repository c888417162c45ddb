-- No accepted plan is longer than 518 bytes, and one has that many.
-- Assumes nothing.
--
--   longest          the bytes of two points joined by all 64 cables, each of 65,535 metres
use mathlib.Core.List.{List, [], ◌∷◌, ◌++◌, flat_map}
use mathlib.Core.Path.{◌≡◌, refl}
use Prim.Native.Nat.{ℕ, ◌≤◌}
use native.Mathlib.Omega.{arith}
use lib.ListN.{length}
use Rattle.sequences.specs.Words.{range}
use Rattle.network.specs.Record.{◌when◌, ◌then◌, slots, size_fault, outside_fault, bare, with_edge}
use Rattle.format.specs.Format.{if_taken, edges, decode_up_to, decode_of, size_step, size_refusal, terminals_step, terminals_refusal, edge_step, edge_refusal, end_refusal, number_fault, length_step, length_refusal, length_fault, length_size}
use Rattle.format.proofs.Reading.{accepts, decode-plan}
use Rattle.format.proofs.Writing.{encode-length}

-- A plan that is accepted has at most 518 bytes: they are those of its record.
pub accepted-length : (s : List ℕ) → (decode_of s).refusal ≡ 0 → length s ≤ 518
accepted-length s e =
    let plan = decode-plan s (decode_of s).network (accepts s e) in
    omega (arith, plan.size, encode-length (decode_of s).network)

-- Two points joined by all 64 cables, each as long as can be.
pub longest : List ℕ
longest = 0x50 ∷ 2 ∷ 0x53 ∷ 0 ∷ 1 ∷ (flat_map (λ k. 0x43 ∷ k ∷ 0 ∷ 1 ∷ 0x4D ∷ k ∷ 0xFF ∷ 0xFF ∷ []) slots ++ 0x45 ∷ [])

pub longest-length : length longest ≡ 518
unfolding longest flat_map range
longest-length = refl

pub longest-accepted : (decode_of longest).refusal ≡ 0
unfolding longest flat_map range decode_up_to if_taken edges size_step size_refusal terminals_step terminals_refusal edge_step edge_refusal end_refusal number_fault length_step length_refusal length_fault length_size size_fault outside_fault bare with_edge ◌when◌ ◌then◌
longest-accepted = refl
