-- `left_out` meets its contract: the two parts that change.
-- Assumes nothing.
use Rattle.bitset.proofs.Results.{with-member, without-minus}
use Rattle.node_set.specs.Width.{node_width}
use Rattle.branches.specs.declared.Branch.{Branch}
use Rattle.branches.specs.Enumeration.{left_out}
use Rattle.branches.proofs.Branch.left_out.Goals as goal

pub returns : goal.returns
unfolding left_out
returns c =
    let b : Branch = c.args.self in
    let e = with-member node_width b.out.0 c.args.v _ c.requires c.with.ensures in
    let f = without-minus b.undecided.0 c.args.v _ c.without.ensures in
    λ i. record b { out = record { 0 = e i }; undecided = record { 0 = f i } }
