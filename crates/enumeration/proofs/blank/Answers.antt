-- `blank` meets its contract: what is undecided is all but the sink.
-- Assumes nothing.
use mathlib.Core.Path.{◌≡◌, ap, ◌∙◌}
use Prim.Native.Nat.{ℕ, ◌^◌}
use Rattle.bitset.specs.Members.{◌∖◌}
use Rattle.bitset.proofs.Results.{without-minus}
use Rattle.graph.specs.Relevant.{relevant_nodes}
use Rattle.branches.specs.Enumeration.{blank}
use Rattle.enumeration.proofs.blank.Goals as goal

pub returns : goal.returns
unfolding blank
returns c =
    let part = c.args.part in
    let N = part.accepted.network in
    let less : c.without.result.0 ≡ relevant_nodes N ∖ 2 ^ N.sink =
    without-minus part.nodes.0 N.sink _ c.without.ensures ∙ ap (λ (x : ℕ). x ∖ 2 ^ N.sink) part.relevant_nodes in
    λ i. record {
      side = record { 0 = 0 };
      out = record { 0 = 0 };
      undecided = record { 0 = less i };
      rest = record { 0 = part.relevant_nodes i };
      around = record { 0 = 0 };
      cut = record { 0 = 0 };
    }
