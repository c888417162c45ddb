-- `silence::severed` meets its contract: the spread is over the table of the edges outside the set, from the source.
-- Assumes nothing.
use mathlib.Core.Path.{subst}
use Prim.Native.Nat.{ℕ}
use native.Mathlib.Omega.{arith}
use Rattle.bitset.specs.Members.{◌⊆◌, ◌∖◌}
use Rattle.bitset.proofs.Sets.{minus-⊆, in-single}
use Rattle.bitset.proofs.Results.{single-power, difference-minus}
use Rattle.node_set.specs.Width.{node_width}
use Rattle.network.specs.Record.{present}
use Rattle.graph.specs.Cuts.{only}
use Rattle.graph.specs.CutTests.{severed}
use Rattle.graph.proofs.Sound.{accepted-sound}
use Rattle.adjacency.specs.Adjacency.{Adjacency}
use Rattle.adjacency.proofs.Reaching.{reached-all}
use borrow.Author.Rules.{rules}
use Rattle.connectivity.proofs.silence.severed.Goals as goal

pub fill-requires : goal.fill-requires
fill-requires c =
    let a = c.args in
    let within : c.difference-edges.result.0 ⊆ present a.accepted.network =
    rw (difference-minus _ _ _ c.difference-edges.ensures) (minus-⊆ (present a.accepted.network) a.set.0) in
    search (rules, within)

pub returns : goal.returns
unfolding severed
returns c =
    let a = c.args in
    let N = a.accepted.network in
    let S = accepted-sound N (search rules) a.accepted.accepted in
    let table = subst (λ (h : ℕ). Adjacency (only N h) c.fill.new.adjacent) (difference-minus _ _ _ c.difference-edges.ensures) c.fill.ensures in
    let from = single-power node_width N.source _ (omega (arith, S.source-lt, S.small)) c.single-start.ensures in
    let reached = reached-all N S (present N ∖ a.set.0) (minus-⊆ (present N) a.set.0) c.fill.new.adjacent table
    _ c.single-start.result.0 _ c.below-all.ensures (λ v m. rw ((in-single N.source v).0 (rw from at m)) S.source-lt) c.reach-reached.ensures in
    rw (c.contains.ensures, reached, from)
