-- `fill` meets its contract: by the bound on the rows, or by their count.
-- Assumes nothing.
use native.Mathlib.Nat.{le_trans}
use borrow.Author.Rules.{rules}
use Rattle.graph.proofs.Sound.{accepted-sound}
use Rattle.branches.proofs.Complete.{rows-at-most}
use Rattle.filling.proofs.Filled.{filled-straight}
use Rattle.filling.proofs.fill.Goals as goal

pub returns-then-always_enough : goal.returns-then-always_enough
returns-then-always_enough c =
    let part = c.args.part in
    let N = part.accepted.network in
    let most = rw (c.size.ensures, part.relevant_nodes) at (c.always_enough.ensures c.if-always_enough.true) in
    filled-straight (le_trans (rows-at-most N (accepted-sound N (search rules) part.accepted.accepted)) most) c.requires c.enumerate.ensures
