-- The record test by another rule for a slot; and an answer of the reader beside an earlier one, where of the earlier refusals one was
-- lifted.
-- Assumes nothing.
--
--   Lifted r W P t d     the earlier answer t is the later one, d, and then a record that was accepted has P; or it was r, because of W,
--                    and then one that is accepted does not have P
use mathlib.Core.List.{List, map, foldr}
use mathlib.Core.Logic.{◌↔◌}
use mathlib.Core.Path.{◌≡◌, refl, sym, ap, subst, ◌∙◌}
use Prim.Native.Nat.{ℕ, zero, suc, ◌<◌}
use native.Mathlib.Omega.{arith}
use lib.ListN.{length, drop}
use Rattle.network.specs.declared.Network.{Network}
use Rattle.network.specs.Record.{◌then◌, unless_refused, size_fault, terminal_fault, slots, slot_fault, slots_fault, fault_up_to, bare}
use Rattle.format.specs.Format.{Decoded}
use Rattle.format.specs.Format.{Outcome}
use Rattle.format.specs.Format.{at, size_step, terminals_step, told, accept, refuse, if_taken, edges, decode_up_to}
use Rattle.demands.specs.Kept.{test_by, decode_by}

-- ---- the record test

-- Where each slot has the same fault, the record has.
pub test-same : (slot slot' : Network → ℕ → ℕ) (most : ℕ) (N : Network) → ((k : ℕ) → slot N k ≡ slot' N k) → test_by slot most N ≡ test_by slot' most N
unfolding test_by
test-same slot slot' most N each =
    λ i.
    size_fault most N.nodes
    then terminal_fault N.nodes N.source N.sink
    then foldr ◌then◌ 0 (map (λ (k : ℕ). each k i) slots)

-- Today's test is one by its rule for a slot.
pub test-today : (most : ℕ) (N : Network) → fault_up_to most N ≡ test_by slot_fault most N
unfolding fault_up_to slots_fault test_by
test-today most N = refl

-- ---- the reader

pub data Lifted (r : ℕ) (W : Type 0) (P : Network → Type 0) (t d : Decoded) : Type 0 where
  same : t ≡ d → (d.refusal ≡ 0 → P d.network) → Lifted r W P t d
  lifted : W → t.refusal ≡ r → (d.refusal ≡ 0 → P d.network → ⊥) → Lifted r W P t d

module _ {r : ℕ} {W : Type 0} {P : Network → Type 0} where
  -- Both answers by other names.
  pub lifted_by : {t t' d d' : Decoded} → t ≡ t' → d ≡ d' → Lifted r W P t' d' → Lifted r W P t d
  lifted_by {t} {t'} {d} {d'} e f w = subst (λ (x : Decoded). Lifted r W P x d) (sym e) (subst (Lifted r W P t') (sym f) w)

  -- A refusal by another rule is the same, and so is a record that has P.
  pub refused-same : (k : ℕ) → 0 < k → Lifted r W P (refuse k) (refuse k)
  refused-same k p = same refl (λ e. absurd (let bad : k ≡ 0 = e in omega arith))

  pub accepted-same : (N : Network) → P N → Lifted r W P (accept N) (accept N)
  accepted-same N p = same refl (λ e. p)

  -- A command before, whatever it answers, changes nothing in that.
  taken-lifted : (t : Outcome) (f g : List ℕ → Decoded) → ((v : List ℕ) → Lifted r W P (f v) (g v)) → Lifted r W P (if_taken t f) (if_taken t g)
  unfolding if_taken
  taken-lifted t f g on = go (told t).number
    where
      go : (k : ℕ) → Lifted r W P (unless_refused k (f (told t).values) (refuse k)) (unless_refused k (g (told t).values) (refuse k))
      go zero = on (told t).values
      go (suc k) = refused-same (suc k) (omega arith)

  -- So it is of the readers if it is of their walks after the first two commands.
  pub decode-lifted : (walk walk' : Network → List ℕ → Decoded) (most : ℕ) (s : List ℕ)
      → ((n a b : ℕ) → Lifted r W P (walk (bare n a b) (drop 5 s)) (walk' (bare n a b) (drop 5 s)))
      → Lifted r W P (decode_by walk most s) (decode_by walk' most s)
  unfolding decode_by
  decode-lifted walk walk' most s each =
      taken-lifted (size_step most s) _ _ (λ size. taken-lifted (terminals_step (at size 0) (drop 2 s)) _ _ (λ v. each (at size 0) (at v 0) (at v 1)))

  -- Any other answer is the later one, and so is every answer where W does not hold; what was accepted is what is accepted and has P.
  pub lifted-plans : {t d : Decoded} → Lifted r W P t d → (t.refusal ≡ r → ⊥) → d ≡ t
  lifted-plans (same e q) n = sym e
  lifted-plans (lifted w e q) n = absurd (n e)

  pub lifted-without : {t d : Decoded} → Lifted r W P t d → (W → ⊥) → d ≡ t
  lifted-without (same e q) n = sym e
  lifted-without (lifted w e q) n = absurd (n w)

  pub lifted-read : {t d : Decoded} → 0 < r → Lifted r W P t d → (t.refusal ≡ 0) ↔ ((d.refusal ≡ 0) × P d.network)
  lifted-read p (same e q) =
      let number = ap (λ (d : Decoded). d.refusal) e in
      (λ z. let ok = sym number ∙ z in (ok, q ok), λ k. number ∙ k.0)
  lifted-read p (lifted w e q) = (λ z. absurd (omega arith), λ k. absurd (q k.0 k.1))

-- Today's reader is one by its walk.
pub decode-today : (most : ℕ) (s : List ℕ) → decode_up_to most s ≡ decode_by (λ N s. edges (length s) N 0 s) most s
unfolding decode_by decode_up_to
decode-today most s = refl
