-- Tests as propositions: to combine tests is to combine what they say.
-- Assumes nothing.
use mathlib.Core.Path.{◌≡◌}
use mathlib.Core.Bool.{Bool, true, false, not, xor, ◌&&◌, ◌||◌}
use mathlib.Core.Logic.{◌⊎◌, inl, inr, ◌↔◌}
use Prim.Native.Nat.{ℕ}
use lib.Dec.{T, eqb, eqb→eq, eqb_refl}

-- Whether a test holds is decided.
pub T-dec : (b : Bool) → Dec (T b)
T-dec true = yes tt
T-dec false = no (λ t. t)

-- One of two tests holds exactly if their `or` does.
pub T-or : (a b : Bool) → T (a || b) ↔ (T a ⊎ T b)
T-or true b = (λ t. inl tt, λ c. tt)
T-or false b = (λ t. inr t, λ c. elim c [ inl t ↦ absurd t | inr t ↦ t ])

-- Two tests hold exactly if their `and` does.
pub T_and : (a b : Bool) → T (a && b) ↔ (T a × T b)
T_and true b = (λ t. (tt, t), λ c. c.1)
T_and false b = (λ t. absurd t, λ c. c.0)

-- A test fails exactly if its `not` holds.
pub T_not : (b : Bool) → T (not b) ↔ (T b → ⊥)
T_not true = (λ t. absurd t, λ f. f tt)
T_not false = (λ t f. f, λ f. tt)

-- Exactly one of two tests holds.
pub T-xor : (a b : Bool) → T (xor a b) ↔ ((T a × (T b → ⊥)) ⊎ (T b × (T a → ⊥)))
unfolding xor
T-xor true true = (λ t. absurd t, λ c. elim c [ inl k ↦ k.1 tt | inr k ↦ k.1 tt ])
T-xor true false = (λ t. inl (tt, λ k. k), λ c. tt)
T-xor false true = (λ t. inr (tt, λ k. k), λ c. tt)
T-xor false false = (λ t. absurd t, λ c. elim c [ inl k ↦ k.0 | inr k ↦ k.0 ])

-- A test that is asked only where another holds, and fails else, holds exactly if both do.
pub T-then : (a b : Bool) → T (elim a [ true ↦ b | false ↦ false ]) ↔ (T a × T b)
T-then true = T_and true
T-then false = T_and false

-- The test of equality is right.
pub T-eqb : (m n : ℕ) → T (eqb m n) ↔ (m ≡ n)
T-eqb m n = (eqb→eq m n, λ e. rw e (eqb_refl n))
