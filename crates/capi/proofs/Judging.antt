-- What a verdict means, told by its numbers.
-- Assumes nothing.
use mathlib.Core.Path.{◌≡◌, refl}
use Prim.Native.Nat.{ℕ}
use native.Mathlib.Omega.{arith}
use Rattle.network.specs.declared.Network.{Network}
use Rattle.connectivity.specs.declared.judging.Verdict.{Verdict}
use Rattle.connectivity.specs.declared.judging.Verdict.TheVariants.{NotCut, NotMinimal, Minimal}
use Rattle.std.specs.Prelude.{Result, Ok, Err}
use Rattle.connectivity.specs.Answers.{VerdictMeans, numbers_of}
use Rattle.capi.specs.Fields.{JudgedMeans}

-- The numbers of a verdict mean what the verdict says.
numbers-mean : (N : Network) (c : ℕ) (w : Result Verdict ℕ) → VerdictMeans N c w → JudgedMeans N c (numbers_of w).refusal (numbers_of w).verdict
numbers-mean N c (Ok NotCut) m = record {
  stored = m.stored;
  not-cut = (λ e. (refl, m.says), λ p. refl);
  not-minimal = (λ e. absurd (omega arith), λ p. absurd (m.says p.1));
  minimal = (λ e. absurd (omega arith), λ p. absurd (m.says p.1.cut));
}
numbers-mean N c (Ok NotMinimal) m = record {
  stored = m.stored;
  not-cut = (λ e. absurd (omega arith), λ p. absurd (p.1 m.says.0));
  not-minimal = (λ e. (refl, m.says.0, m.says.1), λ p. refl);
  minimal = (λ e. absurd (omega arith), λ p. absurd (m.says.1 p.1));
}
numbers-mean N c (Ok Minimal) m = record {
  stored = m.stored;
  not-cut = (λ e. absurd (omega arith), λ p. absurd (p.1 m.says.cut));
  not-minimal = (λ e. absurd (omega arith), λ p. absurd (p.2 m.says));
  minimal = (λ e. (refl, m.says), λ p. refl);
}
numbers-mean N c (Err k) m = record {
  stored = m.stored;
  not-cut = (λ e. absurd (omega arith), λ p. absurd (omega (arith, p.0, m.says.1)));
  not-minimal = (λ e. absurd (omega arith), λ p. absurd (omega (arith, p.0, m.says.1)));
  minimal = (λ e. absurd (omega arith), λ p. absurd (omega (arith, p.0, m.says.1)));
}

-- So do the numbers of a verdict on a network that is given field by field.
pub judged-means : {N M : Network} {c r v : ℕ} {w : Result Verdict ℕ} → VerdictMeans M c w → M ≡ N → r ≡ (numbers_of w).refusal → v ≡ (numbers_of w).verdict → JudgedMeans N c r v
judged-means {N} {M} {c} {r} {v} {w} m e p q = rw (← e, p, q) (numbers-mean M c w m)
