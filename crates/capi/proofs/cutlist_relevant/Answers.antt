-- `cutlist_relevant` meets its contract, by those of `assemble` and `relevant`.
-- Assumes nothing.
use mathlib.Core.Path.{◌≡◌, refl, ap, ◌∙◌}
use Rattle.std.specs.Prelude.{Result, Ok, Err}
use Rattle.network.specs.declared.refusal.Refusal.{Refusal}
use Rattle.network.specs.Refusals.{refusal_of, answer_of}
use Rattle.connectivity.specs.declared.part.RelevantPart.{RelevantPart}
use Rattle.connectivity.specs.Answers.{FoundPart, found, relevant_of}
use Rattle.capi.proofs.cutlist_relevant.Goals as goal

-- The part that is found, in numbers.
abbrev nothing : RelevantPart
nothing = record { nodes = record { 0 = 0 }; edges = record { 0 = 0 } }

refusal-found : (a : Result RelevantPart Refusal) → refusal_of a ≡ (found a).refusal
refusal-found (Ok p) = refl
refusal-found (Err r) = refl

nodes-found : (a : Result RelevantPart Refusal) → (answer_of nothing a).nodes.0 ≡ (found a).nodes.0
nodes-found (Ok p) = refl
nodes-found (Err r) = refl

edges-found : (a : Result RelevantPart Refusal) → (answer_of nothing a).edges.0 ≡ (found a).edges.0
edges-found (Ok p) = refl
edges-found (Err r) = refl

pub returns : goal.returns
returns c =
    let call = c.relevant.ensures in
    let a = c.relevant.result in
    let N = c.assemble-to_trim.ensures in
    let part = call.value ∙ ap relevant_of N in
    let r = c.told-refusal.ensures.0 ∙ refusal-found a in
    let n = ap (λ (p : RelevantPart). p.nodes.0) c.told-refusal.ensures.1 ∙ nodes-found a in
    let e = ap (λ (p : RelevantPart). p.edges.0) c.told-refusal.ensures.1 ∙ edges-found a in
    record {
      found = record {
        refusal = r ∙ ap (λ (p : FoundPart). p.refusal) part;
        nodes = n ∙ ap (λ (p : FoundPart). p.nodes.0) part;
        edges = e ∙ ap (λ (p : FoundPart). p.edges.0) part;
      };
      means = rw (r, n, e) (rw N at call.means);
    }
