-- The total metres of a set of edges, and what the call gives.
-- To believe.
--
--   total_metres N c     the metres of the members of c together; an edge that is not measured adds 0
--   Measured             a call's answer as numbers: the refusal, 0 if there is none, beside the total, 0 on refusal
--   measured a           the answer a of the call as such numbers
--   total_of N c         the call's answer: the refusal beside the total, 0 on refusal
--   TotalMeans N c r m   what the refusal r and the total m mean for the set c
use Rattle.std.specs.Prelude.{map, Result, ◌↔◌, ◌≡◌, ℕ, ◌*◌, ◌≤◌}
use Rattle.sequences.specs.Counts.{sum}
use Rattle.bitset.specs.Members.{◌⊆◌, members}
use Rattle.network.specs.declared.Network.{Network}
use Rattle.network.specs.declared.refusal.Refusal.{Refusal}
use Rattle.network.specs.Refusals.{refusal_of, answer_of}
use Rattle.network.specs.Record.{unless_refused, set_fault, metres_of, present, Stored}
use Rattle.network.specs.Rules.{Rules}

unfoldable pub total_metres : Network → ℕ → ℕ
total_metres N c = sum (map (metres_of N) (members 64 c))

pub record Measured : Type 0 where
  pub refusal : ℕ
  pub metres : ℕ

abbrev pub measured : Result ℕ Refusal → Measured
measured a = record { refusal = refusal_of a; metres = answer_of 0 a }

unfoldable pub total_of : Network → ℕ → Measured
total_of N c = let r = set_fault N c in record { refusal = r; metres = unless_refused r (total_metres N c) 0 }

pub record TotalMeans (N : Network) (c r m : ℕ) : Type 0 where
  pub stored : Stored N
  -- Nothing is refused exactly if the record keeps the rules and the members of the set are present.
  pub kept : (r ≡ 0) ↔ (Rules N × (c ⊆ present N))
  pub total : r ≡ 0 → m ≡ total_metres N c
  pub refused : (r ≡ 0 → ⊥) → m ≡ 0
  -- 64 edges of 65,535 metres.
  pub most : m ≤ 64 * 65535
