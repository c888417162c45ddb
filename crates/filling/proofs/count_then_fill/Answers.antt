-- `count_then_fill` meets its contract: each way out is a way in which rows come to be filled.
-- Assumes nothing.
use mathlib.Core.Path.{◌≡◌}
use Prim.Native.Nat.{◌+◌, min, ◌≤◌}
use native.Mathlib.Omega.{arith}
use borrow.Author.Rules.{rules}
use lib.ListN.{length}
use Rattle.branches.specs.Enumeration.{rows}
use Rattle.filling.proofs.Filled.{filled-straight, filled-copied}
use Rattle.filling.proofs.count_then_fill.Goals as goal

pub returns-then-kept-counted : goal.returns-then-kept-counted
returns-then-kept-counted c =
    let enough : length (rows c.args.part.accepted.network) ≤ length c.args.cuts.now = omega (arith, c.enumerate-counted.ensures.count, c.if-lent-counted.false) in
    filled-straight enough c.requires.1 c.enumerate.ensures

pub returns : goal.returns
returns c =
    let counted : c.enumerate-counted.result ≡ min (length (rows c.args.part.accepted.network)) (length c.args.cuts.now + 1) =
    omega (arith, c.enumerate-counted.ensures.count) in
    filled-copied c.args.found.now c.args.beside.now _ counted c.enumerate-counted.ensures c.if-kept-counted.false (search rules) (search rules)
    c.requires.0 c.copy_rows.ensures c.copy_rows-2.ensures
