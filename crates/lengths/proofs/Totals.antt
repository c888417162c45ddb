-- The total, member by member, and the call's answer.
-- Assumes nothing.
use mathlib.Core.List.{[], ◌∷◌}
use mathlib.Core.Path.{◌≡◌, refl, sym, ap, ◌∙◌}
use Prim.Native.Nat.{ℕ, ◌+◌, ◌*◌, ◌≤◌}
use native.Mathlib.Decide.{ℕ_discrete}
use native.Mathlib.Omega.{arith}
use lib.ListN.{length}
use Rattle.sequences.specs.Counts.{sum}
use Rattle.bitset.specs.Members.{members}
use Rattle.bitset.proofs.MemberList.{length-members}
use Rattle.bitset.proofs.Size.{size-le}
use Rattle.network.specs.declared.Network.{Network}
use Rattle.network.specs.Record.{unless_refused, set_fault, metres_of, Stored}
use Rattle.network.specs.declared.refusal.Refusal.{Refusal}
use Rattle.network.specs.Refusals.{number_of}
use Rattle.network.proofs.Refusals.{number-some, refused_none, refused-some}
use Rattle.std.specs.Prelude.{Result, Ok, Err}
use Rattle.std.specs.Result.{IsErrAnd}
use Rattle.network.proofs.Rules.{fault-rules}
use Rattle.network.proofs.Sets.{set-none, set-ok}
use Rattle.lengths.specs.Lengths.{Measured, measured, total_metres, total_of, TotalMeans}

-- ---- the total

module _ (N : Network) where
  -- A set without members has none.
  pub total-none : (c : ℕ) → members 64 c ≡ [] → total_metres N c ≡ 0
  unfolding total_metres sum
  total-none c e = rw e refl

  -- The first of its members adds its metres to those of the others.
  pub total_first : (c k d : ℕ) → members 64 c ≡ k ∷ members 64 d → total_metres N c ≡ metres_of N k + total_metres N d
  unfolding total_metres sum
  total_first c k d e = rw e refl

-- A set has at most as many members as there are numbers.
pub members-most : (s : ℕ) → length (members 64 s) ≤ 64
members-most s = rw (length-members 64 s) (size-le 64 s)

-- ---- the answer

module _ (N : Network) (c : ℕ) where
  -- A refusal gives 0 metres, and what is not refused the total.
  pub total-refused : (r : ℕ) → r ≡ set_fault N c → (r ≡ 0 → ⊥) → record { refusal = r; metres = 0 } ≡ total_of N c
  unfolding total_of
  total-refused r e some = rw (← e, refused-some r (total_metres N c) 0 some)

  pub total-given : (r t : ℕ) → r ≡ set_fault N c → r ≡ 0 → t ≡ total_metres N c → record { refusal = 0; metres = t } ≡ total_of N c
  unfolding total_of
  total-given r t e none f = rw (← e, none, f)

  -- A refusal that is passed on is one.
  pub total-passed : (a : Result ℕ Refusal) (r : Refusal) → IsErrAnd a (λ e. e ≡ r) → number_of r ≡ set_fault N c → measured a ≡ total_of N c
  total-passed (Ok t) r h e = absurd h
  total-passed (Err q) r h e = total-refused (number_of q) (ap number_of h ∙ e) (number-some q)

  -- Beside the answer stands what it means.
  pub answer-means : Stored N → {m : Measured} → m ≡ total_of N c → (m.refusal ≡ 0 → m.metres ≤ 64 * 65535)
      → (m ≡ total_of N c) × TotalMeans N c m.refusal m.metres
  unfolding total_of
  answer-means stored {m} e most = (
    e,
    record {
      stored = stored;
      kept = (
        λ z. let p = set-ok N c (sym refusal ∙ z) in ((fault-rules N).0 p.0, p.1),
        λ p. refusal ∙ set-none N c ((fault-rules N).1 p.0) p.1,
      );
      total = λ z. metres ∙ refused_none (total_metres N c) 0 (sym refusal ∙ z);
      refused = none;
      most = elim (ℕ_discrete m.refusal 0) [ yes z ↦ most z | no f ↦ omega (arith, none f) ];
    },
  )
    where
      refusal : m.refusal ≡ set_fault N c
      refusal = ap (λ (x : Measured). x.refusal) e

      metres : m.metres ≡ unless_refused (set_fault N c) (total_metres N c) 0
      metres = ap (λ (x : Measured). x.metres) e

      none : (m.refusal ≡ 0 → ⊥) → m.metres ≡ 0
      none f = metres ∙ refused-some (set_fault N c) (total_metres N c) 0 (λ z. f (refusal ∙ z))
