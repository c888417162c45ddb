-- `reader::bare_network` meets its contract: the set without members is the number 0.
-- Assumes nothing.
use mathlib.Core.Path.{◌≡◌, sym, ap, ◌∙◌}
use Prim.Native.Nat.{ℕ}
use lib.ListN.{replicate}
use Rattle.bitset.proofs.Members.{has-zero, same-members}
use Rattle.network.specs.Record.{assembled, bare}
use Rattle.reader.proofs.decoding.bare_network.Goals as goal

pub returns : goal.returns
unfolding bare
returns c =
    let a = c.args in
    let none : c.empty.result.0 ≡ 0 = same-members _ 0 (λ k. c.empty.ensures k ∙ sym (has-zero k)) in
    ap (λ (edges : ℕ). assembled a.nodes a.source a.sink edges (replicate 64 0) (replicate 64 0) (replicate 64 0)) none
