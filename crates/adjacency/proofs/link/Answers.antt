-- `link` meets its contract: two nodes are put into each other's rows, one node into none.
-- Assumes nothing.
use mathlib.Core.Path.{sym, ap, ◌∙◌}
use mathlib.Core.List.{List}
use Prim.Native.Nat.{ℕ}
use Rattle.adjacency.specs.Adjacency.{with_member}
use Rattle.adjacency.proofs.Filling.{linked-two, linked-one}
use Rattle.adjacency.proofs.link.Goals as goal

pub returns-then-a-b : goal.returns-then-a-b
returns-then-a-b c =
    let a = c.args in
    c.add-then-a-b.ensures ∙ ap (λ (t : List ℕ). with_member t a.b a.a) c.add.ensures
    ∙ sym (linked-two a.adjacent.now a.a a.b c.if-a-b.true)

pub returns-else-a-b : goal.returns-else-a-b
returns-else-a-b c =
    let a = c.args in
    sym (linked-one a.adjacent.now a.a a.b c.if-a-b.false)
