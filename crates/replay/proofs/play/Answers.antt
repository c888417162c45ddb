use mathlib.Core.Path.{◌≡◌, ◌∙◌}
use native.Mathlib.Omega.{arith}
use borrow.Author.Rules.{rules}
use Rattle.bitset.proofs.Results.{empty-zero}
use Rattle.bitset.proofs.Sets.{member-lt}
use Rattle.network.specs.Record.{present}
use Rattle.graph.specs.CutTests.{severed}
use Rattle.graph.proofs.Cuts.{severed-settled}
use Rattle.graph.proofs.Sound.{Sound, accepted-sound}
use Rattle.replay.proofs.Events.{log-rules}
use Rattle.replay.proofs.Steps.{bool-byte, first-turn, next-turn, last_turn}
use Rattle.replay.proofs.play.Goals as goal
use Rattle.replay.proofs.play.Goals.{then-not-settled, else-not-settled}

pub loop-i-init : goal.loop-i-init
loop-i-init c = first-turn _ _ _ (empty-zero _ c.empty-down.ensures) c.severed-severs.ensures

pub changed-next-requires : goal.changed-next-requires
changed-next-requires c =
    let N = c.args.accepted.network in
    let sound : Sound N = accepted-sound N (search rules) c.args.accepted.accepted in
    let kept = (log-rules (present N) c.args.log.now).0 c.requires.0 in
    member-lt 64 (present N) _ sound.bounded.edges (kept.good.edges c.loop-i.i c.loop-i-test.true)

pub loop-i-preserved : goal.loop-i-preserved
loop-i-preserved c =
    let N = c.args.accepted.network in
    let sound : Sound N = accepted-sound N (search rules) c.args.accepted.accepted in
    let known : c.if-not-settled.severs ≡ severed N c.changed-next.result.0 =
    elim c.if-not-settled.branch [
      | then-not-settled w ↦ w.severs-is ∙ w.severed-severs-then-not-settled.ensures
      | else-not-settled w ↦
          w.severs-is ∙ severed-settled N sound.bounded _ _ _ (c.settled.ensures.holds w.if-not-settled.false) c.loop-i.invariant.known
    ] in
    next-turn _ _ _ c.loop-i.invariant c.requires.1 c.loop-i-test.true c.changed-next.ensures known (bool-byte c.if-not-settled.severs)

pub returns : goal.returns
returns c = last_turn _ _ _ c.loop-i.invariant c.requires.1 (omega (arith, c.loop-i-test.false))
