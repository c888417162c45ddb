-- What earlier plans keep, from the first rules to today's: loops, then lengths, then points.
-- Assumes nothing.
use mathlib.Core.List.{List}
use mathlib.Core.Path.{◌≡◌, sym, ap, ◌∙◌}
use Prim.Native.Nat.{ℕ, ◌≤◌}
use native.Mathlib.Omega.{arith}
use Rattle.node_set.specs.Width.{node_width}
use Rattle.network.specs.declared.Network.{Network}
use Rattle.network.specs.Record.{fault_of}
use Rattle.format.specs.Format.{Decoded}
use Rattle.format.specs.Format.{decode_of, decode_up_to}
use Rattle.demands.specs.Kept.{Unmeasured, fault_with_ten, decode_unmeasured, decode_with_ten, FirstKept}
use Rattle.demands.proofs.Kept.{points_kept}
use Rattle.demands.proofs.KeptLengths.{lengths-kept, unmeasured-bytes}
use Rattle.demands.proofs.KeptLoops.{loops-kept}

number : {d e : Decoded} → d ≡ e → d.refusal ≡ e.refusal
number p = ap (λ (x : Decoded). x.refusal) p

module _ (before : ℕ) (narrower : before ≤ node_width) where
  faults : (N : Network) → Unmeasured N → (fault_with_ten before N ≡ 10 → ⊥) → (fault_with_ten before N ≡ 4 → ⊥) → fault_of N ≡ fault_with_ten before N
  faults N none ten four =
      let same = (lengths-kept before).faults N none ∙ (loops-kept before).faults N ten in
      (points_kept before narrower).faults N (λ e. four (sym same ∙ e)) ∙ same

  plans : (s : List ℕ) → ((decode_with_ten before s).refusal ≡ 10 → ⊥) → ((decode_with_ten before s).refusal ≡ 2 → ⊥)
      → ((decode_with_ten before s).refusal ≡ 4 → ⊥) → decode_of s ≡ decode_with_ten before s
  plans s ten two four =
      let loops : decode_unmeasured before s ≡ decode_with_ten before s = (loops-kept before).plans s ten in
      let same : decode_up_to before s ≡ decode_with_ten before s = (lengths-kept before).plans s (λ e. two (sym (number loops) ∙ e)) ∙ loops in
      (points_kept before narrower).plans s (λ e. four (sym (number same) ∙ e)) ∙ same

  read : (s : List ℕ) → (decode_with_ten before s).refusal ≡ 0 → (decode_of s ≡ decode_with_ten before s) × Unmeasured (decode_of s).network
  read s e =
      let same : decode_of s ≡ decode_with_ten before s = plans s (λ z. omega arith) (λ z. omega arith) (λ z. omega arith) in
      let loops : decode_unmeasured before s ≡ decode_with_ten before s = (loops-kept before).plans s (λ z. omega arith) in
      let none = (((lengths-kept before).read s).0 (number loops ∙ e)).1 in
      let later : decode_up_to before s ≡ decode_of s = (lengths-kept before).plans s (λ z. omega (arith, number loops)) ∙ loops ∙ sym same in
      (same, rw later at none)

-- From any limit up to today's.
pub first-kept : (before : ℕ) → before ≤ node_width → FirstKept before
first-kept before narrower = record {
  faults = faults before narrower;
  plans = plans before narrower;
  read = read before narrower;
  bytes = unmeasured-bytes;
}

-- The first rules had 32 points.
pub first-32-kept : FirstKept 32
first-32-kept = first-kept 32 (omega arith)
