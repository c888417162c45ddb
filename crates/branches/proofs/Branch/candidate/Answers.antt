-- `candidate` meets its contract: the lowest of the common members is the one that their trailing zeros tell.
-- Assumes nothing.
use mathlib.Core.Path.{◌≡◌, ap, ◌∙◌}
use Prim.Native.Nat.{ℕ}
use native.Mathlib.Omega.{arith}
use lib.Count.{count_trailing_zeros}
use mathlib.Core.Bool.{◌&&◌}
use Rattle.bitset.specs.Members.{has, Lowest}
use Rattle.bitset.proofs.Results.{intersection-and}
use Rattle.bitset.proofs.Size.{lowest-trailing, lowest-unique}
use Rattle.node_set.specs.Width.{node_width}
use Rattle.branches.specs.declared.Branch.{Branch}
use Rattle.branches.specs.Enumeration.{candidate}
use Rattle.branches.proofs.Branch.candidate.Goals as goal

-- The lowest of the common members is the candidate.
lowest-candidate : (b : Branch) (s k : ℕ) → ((j : ℕ) → has s j ≡ has b.around.0 j && has b.undecided.0 j) → Lowest 64 s k → k ≡ candidate b
lowest-candidate b s k common low =
    lowest-unique node_width _ _ _ low (lowest-trailing node_width _) ∙ ap (count_trailing_zeros node_width) (intersection-and _ _ _ common)

pub returns-then-lowest-lt-NODE_WIDTH-clause-found : goal.returns-then-lowest-lt-NODE_WIDTH-clause-found
returns-then-lowest-lt-NODE_WIDTH-clause-found c =
    (lowest-candidate c.args.self _ _ c.intersection.ensures c.lowest-lowest.ensures, c.if-lowest-lt-NODE_WIDTH.true)

pub returns-else-lowest-lt-NODE_WIDTH-clause-none : goal.returns-else-lowest-lt-NODE_WIDTH-clause-none
returns-else-lowest-lt-NODE_WIDTH-clause-none c =
    let same = lowest-candidate c.args.self _ _ c.intersection.ensures c.lowest-lowest.ensures in
    omega (arith, same, c.if-lowest-lt-NODE_WIDTH.false)
