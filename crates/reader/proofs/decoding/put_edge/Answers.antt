-- `reader::put_edge` meets its contract: the set with the edge is the definition's, since it has the same members.
-- Assumes nothing.
use mathlib.Core.Path.{◌≡◌, sym, ap, ◌∙◌}
use mathlib.Core.Bool.{◌||◌, ◌&&◌, and-true}
use Prim.Native.Nat.{ℕ}
use lib.Dec.{eqb}
use lib.ListN.{set}
use borrow.Author.Tests.{lt-ltb}
use Rattle.bitset.specs.Members.{has, insert}
use Rattle.bitset.proofs.Members.{has-insert, same-members}
use Rattle.network.specs.Record.{rewired, with_edge, present}
use Rattle.reader.proofs.decoding.put_edge.Goals as goal

pub returns : goal.returns
unfolding with_edge
returns c =
    let a = c.args in
    let N = a.network.now in
    let p = present N in
    let grown : c.with-network.result.0 ≡ insert p a.edge =
    same-members _ _ (λ j.
    c.with-network.ensures j
    ∙ ap (λ x. has p j || (eqb j a.edge && x)) (lt-ltb a.edge 64 c.requires)
    ∙ ap (λ x. has p j || x) (and-true (eqb j a.edge))
    ∙ sym (has-insert p a.edge j)) in
    ap (λ (edges : ℕ).
    rewired N edges (set N.first a.edge a.first) (set N.second a.edge a.second) (set N.metres a.edge a.metres)) grown
