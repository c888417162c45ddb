-- `cutlist_classify` meets its contract, by those of `assemble`, `classify` and the number of a verdict.
-- Assumes nothing.
use mathlib.Core.Path.{refl, ap, ◌∙◌}
use Rattle.std.specs.Prelude.{Result}
use Prim.Native.Nat.{ℕ}
use Rattle.connectivity.specs.declared.judging.Verdict.{Verdict}
use Rattle.connectivity.specs.Answers.{verdict_of, numbers_of}
use Rattle.capi.proofs.Judging.{judged-means}
use Rattle.capi.proofs.cutlist_classify.Goals as goal

pub returns-in-Ok : goal.returns-in-Ok
returns-in-Ok c =
    let N = c.assemble-to_judge.ensures in
    let judged = c.in-Ok.ensures.value ∙ ap (λ N. verdict_of N c.args.set) N in
    record {
      judged = record {
        refusal = ap (λ (v : Result Verdict ℕ). (numbers_of v).refusal) judged;
        verdict = c.from.ensures ∙ ap (λ (v : Result Verdict ℕ). (numbers_of v).verdict) judged;
      };
      means = judged-means c.in-Ok.ensures.means N refl c.from.ensures;
    }

pub returns-in-Err : goal.returns-in-Err
returns-in-Err c =
    let N = c.assemble-to_judge.ensures in
    let judged = c.in-Err.ensures.value ∙ ap (λ N. verdict_of N c.args.set) N in
    record {
      judged = record {
        refusal = c.from-in-Err.ensures ∙ ap (λ (v : Result Verdict ℕ). (numbers_of v).refusal) judged;
        verdict = ap (λ (v : Result Verdict ℕ). (numbers_of v).verdict) judged;
      };
      means = judged-means c.in-Err.ensures.means N c.from-in-Err.ensures refl;
    }
