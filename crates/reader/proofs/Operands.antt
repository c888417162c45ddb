-- The operands of a command, and the steps that they give: which answer each way through a step's code gives.
-- Assumes nothing.
--
--   operands_fault c k s   the refusal of the command c with k bytes in front of s, but for its values
use mathlib.Core.Bool.{true, false, not, and-true}
use mathlib.Core.List.{List, [], ◌∷◌}
use mathlib.Core.Path.{◌≡◌, refl, sym, ap, ◌∙◌}
use Prim.Native.Nat.{ℕ, zero, suc, ◌+◌, ◌≤◌, ◌<◌}
use native.Mathlib.Decide.{ℕ_discrete, dec_lt}
use native.Mathlib.Omega.{arith}
use lib.Dec.{eqb}
use lib.ListN.{length}
use borrow.Author.Tests.{lt-ltb, le-ltb, eq-eqb, ne_eqb, eqb-true}
use Rattle.std.specs.Prelude.{Result, Ok, Err, nat_eq}
use Rattle.std.specs.List.{starts_with}
use Rattle.std.specs.Result.{IsErrAnd}
use Rattle.network.specs.declared.refusal.Refusal.{Refusal}
use Rattle.network.specs.Refusals.{number_of}
use Rattle.network.specs.Record.{◌then◌}
use Rattle.network.proofs.Refusals.{number-pos, number-some, none_then, some_then, refused_then, refused-some, none-when, some-when}
use Rattle.format.specs.declared.Step.{Step}
use Rattle.format.specs.Format.{Outcome, answered, answer, at, missing, unfit, metres_in, edge_refusal, end_refusal, edge_step, length_refusal, length_step}
use Rattle.format.proofs.Steps.{command, none-missing, none-unfit}

-- The refusal of the command c with k bytes, but for its values.
abbrev pub operands_fault : ℕ → ℕ → List ℕ → ℕ
operands_fault c k s = missing 1 s then unfit c s then missing k s

-- ---- the ways through `operands`

pub byte-missing : (c k : ℕ) (s : List ℕ) → length s ≡ 0 → 1 ≡ operands_fault c (k + 1) s
byte-missing c k s e =
    sym (ap (λ r. r then unfit c s then missing (k + 1) s) (some-when 1 (lt-ltb (length s) 1 (omega arith))) ∙ some_then 1 _ (omega arith))

module _ (c k : ℕ) (s : List ℕ) {x : ℕ} {l : List ℕ} (e : s ≡ x ∷ l) where
  first : at s 0 ≡ x
  first = ap (λ t. at t 0) e

  longer : length s ≡ length l + 1
  longer = omega (arith, ap length e)

  pub another-command : (x ≡ c → ⊥) → 2 ≡ operands_fault c (k + 1) s
  another-command d =
      sym (none_then _ (none-missing 1 s (omega (arith, longer)))
      ∙ ap (λ r. r then missing (k + 1) s) (some-when 2 (ap not (ne_eqb (at s 0) c (λ f. d (sym first ∙ f))))) ∙ some_then 2 _ (omega arith))

  pub values-missing : x ≡ c → length l < k → 1 ≡ operands_fault c (k + 1) s
  values-missing f m =
      sym (none_then _ (none-missing 1 s (omega (arith, longer))) ∙ none_then _ (none-unfit c s (first ∙ f))
      ∙ some-when 1 (lt-ltb (length s) (k + 1) (omega (arith, longer))))

  pub values-there : x ≡ c → k ≤ length l → 0 ≡ operands_fault c (k + 1) s
  values-there f m =
      sym (none_then _ (none-missing 1 s (omega (arith, longer))) ∙ none_then _ (none-unfit c s (first ∙ f))
      ∙ none-missing (k + 1) s (omega (arith, longer)))

-- ---- the steps

-- Rules in a row may be taken together.
then-then : (r s t : ℕ) → ((r then s) then t) ≡ (r then s then t)
unfolding ◌then◌
then-then zero s t = refl
then-then (suc r) s t = refl

-- Where one of two rules finds a fault a third one changes nothing.
then-first : (r s t : ℕ) → 0 < (r then s then 0) → (r then s then t) ≡ (r then s then 0)
unfolding ◌then◌
then-first zero zero t h = absurd (omega arith)
then-first zero (suc s) t h = refl
then-first (suc r) s t h = refl

module _ (c k : ℕ) (s : List ℕ) (values : ℕ) where
  -- A command is refused for its operands, and then for their values.
  operands-first : (operands_fault c k s then values) ≡ command c k s values
  operands-first = then-then (missing 1 s) (unfit c s then missing k s) values ∙ ap (λ r. missing 1 s then r) (then-then (unfit c s) (missing k s) values)

  pub operands-read : 0 ≡ operands_fault c k s → command c k s values ≡ values
  operands-read e = sym operands-first ∙ none_then values (sym e)

  -- Where the first j bytes are refused, all of them are.
  pub operands-refused : {j : ℕ} (r : Refusal) → number_of r ≡ operands_fault c j s → j ≤ k → number_of r ≡ command c k s values
  operands-refused {j} r e h = go (dec_lt (length s) j)
    where
      go : Dec (length s < j) → number_of r ≡ command c k s values
      go (yes l) =
          let same : missing j s ≡ missing k s = some-when 1 (lt-ltb (length s) j l) ∙ sym (some-when 1 (lt-ltb (length s) k (omega arith))) in
          refused_then r values (e ∙ ap (λ m. missing 1 s then unfit c s then m) same) ∙ operands-first
      go (no d) =
          let first = e ∙ ap (λ m. missing 1 s then unfit c s then m) (none-missing j s (omega arith)) in
          first ∙ sym (then-first (missing 1 s) (unfit c s) (missing k s then values) (omega (arith, first, number-pos r)))

-- A refusal that is passed on is the answer, whatever the values would give.
pub step-refused : (a : Result Step Refusal) (r : Refusal) {n : ℕ} (t : Outcome) → IsErrAnd a (λ e. e ≡ r) → number_of r ≡ n → answered a ≡ answer n t
step-refused (Ok x) r t h e = absurd h
step-refused (Err x) r t h e =
    ap (λ (y : Refusal). Outcome.Refused (number_of y)) h
    ∙ sym (refused-some (number_of r) t (Outcome.Refused (number_of r)) (number-some r))
    ∙ ap (λ n. answer n t) e

-- Where there is none the answer is what the values give.
pub step-taken : {n : ℕ} {t u : Outcome} → n ≡ 0 → t ≡ u → t ≡ answer n u
step-taken {u = u} z e = e ∙ ap (λ n. answer n u) (sym z)

-- ---- the first byte

-- A byte that is not 0 is there.
some-byte : (s : List ℕ) → at s 0 ≡ 0x4D → 0 < length s
some-byte [] e = let bad : ◌≡◌ {A = ℕ} 0 0x4D = e in absurd (omega arith)
some-byte (x ∷ s) e = omega arith

-- Which of two numbers is compared with the other does not matter.
either-way : (a b : ℕ) → eqb a b ≡ eqb b a
either-way a b = go (ℕ_discrete a b)
  where
    go : Dec (a ≡ b) → eqb a b ≡ eqb b a
    go (yes e) = eq-eqb a b e ∙ sym (eq-eqb b a (sym e))
    go (no d) = ne_eqb a b d ∙ sym (ne_eqb b a (λ e. d (sym e)))

-- Bytes start with one that is not 0 exactly if it stands at place 0.
first-byte : (c : ℕ) (s : List ℕ) → 0 < c → starts_with nat_eq s (c ∷ []) ≡ eqb (at s 0) c
first-byte c [] h = sym (ne_eqb 0 c (λ e. omega arith))
first-byte c (x ∷ s) h = and-true (eqb c x) ∙ either-way c x

-- The command 45, alone or with a byte after it, and any other.
module _ (n next : ℕ) (s : List ℕ) where
  is-end : eqb (at s 0) 0x45 ≡ starts_with nat_eq s (0x45 ∷ [])
  is-end = sym (first-byte 0x45 s (omega arith))

  pub end-trailing : true ≡ starts_with nat_eq s (0x45 ∷ []) → 1 < length s → Outcome.Refused 3 ≡ edge_step n next s
  unfolding edge_step end_refusal
  end-trailing e m = rw (is-end ∙ sym e, some-when 3 (lt-ltb 1 (length s) m))

  pub end-alone : true ≡ starts_with nat_eq s (0x45 ∷ []) → length s ≤ 1 → Outcome.End ≡ edge_step n next s
  unfolding edge_step end_refusal
  end-alone e m = rw (is-end ∙ sym e, none-when 3 (le-ltb 1 (length s) m))

  pub edge-other : false ≡ starts_with nat_eq s (0x45 ∷ [])
      → answer (edge_refusal n next s) (Outcome.Edge (at s 1) (at s 2) (at s 3)) ≡ edge_step n next s
  unfolding edge_step
  edge-other e = rw (is-end ∙ sym e)

-- The command 4D, and any other.
is-length : (s : List ℕ) → eqb (at s 0) 0x4D ≡ starts_with nat_eq s (0x4D ∷ [])
is-length s = sym (first-byte 0x4D s (omega arith))

pub length-other : (before : ℕ) (s : List ℕ) → false ≡ starts_with nat_eq s (0x4D ∷ []) → Outcome.Length 0 ≡ length_step before s
unfolding length_step
length-other before s e = rw (is-length s ∙ sym e)

pub length-here : (before : ℕ) (s : List ℕ) → true ≡ starts_with nat_eq s (0x4D ∷ [])
    → answer (length_refusal before s) (Outcome.Length (metres_in s)) ≡ length_step before s
unfolding length_step
length-here before s e = rw (is-length s ∙ sym e)

-- Of its operands it only remains to see that none is missing.
pub length-command : (s : List ℕ) (values : ℕ) → true ≡ starts_with nat_eq s (0x4D ∷ []) → command 0x4D 4 s values ≡ (missing 4 s then values)
length-command s values e =
    let first : at s 0 ≡ 0x4D = eqb-true (at s 0) 0x4D (is-length s ∙ sym e) in
    none_then _ (none-missing 1 s (some-byte s first)) ∙ none_then _ (none-unfit 0x4D s first)
