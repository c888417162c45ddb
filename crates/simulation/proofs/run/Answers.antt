use mathlib.Core.Path.{◌≡◌, ◌∙◌}
use native.Mathlib.Omega.{arith}
use borrow.Author.Rules.{rules}
use Rattle.bitset.proofs.Results.{empty-zero}
use Rattle.graph.specs.CutTests.{severed}
use Rattle.graph.proofs.Cuts.{severed-settled}
use Rattle.graph.proofs.Sound.{Sound, accepted-sound}
use Rattle.simulation.proofs.Steps.{first-turn, counted-le, silent-turn, heard-turn, last_turn}
use Rattle.simulation.proofs.run.Goals as goal
use Rattle.simulation.proofs.run.Goals.{then-not-settled, else-not-settled, then-severs, else-severs}

pub loop-init : goal.loop-init
loop-init c = first-turn _ _ _ _ _ (empty-zero _ c.empty.ensures) c.severed-severs.ensures

pub overflow_add-silent : goal.overflow_add-silent
overflow_add-silent c = omega (arith, counted-le _ _ _ _ _ c.loop.invariant, c.loop-test.true, c.requires)

pub loop-preserved : goal.loop-preserved
loop-preserved c =
    let N = c.args.accepted.network in
    let sound : Sound N = accepted-sound N (search rules) c.args.accepted.accepted in
    let t = c.loop.invariant in
    let h = c.loop-test.true in
    let made = c.step-next.ensures in
    let known : c.if-not-settled.severs ≡ severed N c.step-next.result.down.0 =
    elim c.if-not-settled.branch [
      | then-not-settled w ↦ w.severs-is ∙ w.severed-severs-then-not-settled.ensures
      | else-not-settled w ↦ w.severs-is ∙ severed-settled N sound.bounded _ _ _ (c.settled.ensures.holds w.if-not-settled.false) t.known
    ] in
    elim c.if-severs.branch [
      | then-severs w ↦ rw w.silent-is (silent-turn _ _ _ _ _ t h made known w.if-severs.true)
      | else-severs w ↦ rw w.silent-is (heard-turn _ _ _ _ _ t h made known w.if-severs.false)
    ]

pub returns : goal.returns
returns c = last_turn _ _ _ _ _ c.loop.invariant c.loop-test.false
