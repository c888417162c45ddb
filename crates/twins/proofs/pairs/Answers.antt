use mathlib.Core.Path.{refl, ap, ◌∙◌}
use Prim.Native.Nat.{◌<◌}
use Rattle.std.proofs.Common.{below_more, length}
use native.Mathlib.Nat.{not-suc-le-zero}
use native.Mathlib.Omega.{arith}
use lib.ListN.{length-set}
use lib.Seq.{get_or-set_same, get_or-set_other}
use Rattle.bitset.specs.Members.{insert}
use Rattle.bitset.proofs.Results.{single-power, with-member}
use Rattle.node_set.specs.Width.{node_width}
use Rattle.network.specs.Record.{second_end}
use Rattle.network.proofs.Rules.{ends-within}
use Rattle.twins.proofs.pairs.Goals as goal

pub loop-k-init : goal.loop-k-init
loop-k-init c = record { size = refl; filled = λ j l. absurd (not-suc-le-zero l) }

pub loop-k-preserved : goal.loop-k-preserved
loop-k-preserved c =
    let N = c.args.accepted.network in
    let l = c.loop-k in
    let ends = ends-within N c.args.accepted.accepted l.k c.loop-k-test.true in
    let first = single-power node_width _ _ ends.0 (rw c.from.ensures at c.single-first.ensures) in
    let both = with-member node_width _ _ _ ends.1 (rw c.from-in-loop-k.ensures at c.with-pair.ensures) in
    let inside : l.k < length l.pairs = omega (arith, l.invariant.size, c.loop-k-test.true) in
    record {
      size = length-set l.pairs l.k _ ∙ l.invariant.size;
      filled = below_more _ _
          (λ j h. get_or-set_other l.pairs l.k j _ 0 (λ e. omega arith) ∙ l.invariant.filled j h)
          (get_or-set_same l.pairs l.k _ 0 inside ∙ both ∙ ap (λ s. insert s (second_end N l.k)) first);
    }

pub returns : goal.returns
returns c = λ k h. c.loop-k.invariant.filled k (omega (arith, c.loop-k-test.false))
