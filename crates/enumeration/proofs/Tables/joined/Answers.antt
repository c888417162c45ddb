-- `joined` meets its contract, field by field.
-- Assumes nothing.
use mathlib.Core.Path.{ap, ◌∙◌}
use Prim.Native.Nat.{ℕ, ◌^◌}
use lib.Bits.{bit_xor}
use Rattle.bitset.specs.Members.{insert, ◌∖◌}
use Rattle.bitset.proofs.Results.{with-member, without-minus, union-or}
use Rattle.node_set.specs.Width.{node_width}
use Rattle.graph.specs.Relevant.{reach_in}
use Rattle.branches.specs.declared.Branch.{Branch}
use Rattle.branches.specs.Enumeration.{joined}
use Rattle.enumeration.proofs.Halves.{beside-round, at-edges}
use Rattle.enumeration.proofs.Tables.joined.Goals as goal

pub returns : goal.returns
unfolding joined
returns c =
    let b : Branch = c.args.b in
    let v : ℕ = c.args.v in
    let undecided = without-minus b.undecided.0 v _ c.without.ensures in (
      undecided,
      λ M t there hangs.
          let side = with-member node_width b.side.0 v _ c.requires c.with.ensures in
          let rest = c.rest_without.ensures M t.bounded t.nodes (rw t.sink there) (rw t.sink hangs)
          ∙ ap (reach_in M (b.rest.0 ∖ 2 ^ v)) t.sink in
          let around = with-member node_width _ v _ c.requires c.with-2.ensures
          ∙ ap (λ (x : ℕ). insert x v) (union-or b.around.0 _ _ c.union-beside.ensures)
          ∙ beside-round M t.bounded _ t.nodes v b.around.0 in
          let cut = ap (bit_xor b.cut.0) (at-edges M t.bounded _ t.edges v) in
          λ i. record {
            side = record { 0 = side i };
            out = b.out;
            undecided = record { 0 = undecided i };
            rest = record { 0 = rest i };
            around = record { 0 = around i };
            cut = record { 0 = cut i };
          },
    )
