-- `command::length_fault` meets its contract: each return rewrites the rule by the tests that led there.
-- Assumes nothing.
use mathlib.Core.Path.{◌≡◌}
use native.Mathlib.Omega.{arith}
use borrow.Author.Tests.{eq-eqb, ne_eqb}
use Rattle.network.specs.Record.{◌when◌}
use Rattle.format.specs.Format.{length_fault}
use Rattle.reader.proofs.command.length_fault.Goals as goal

pub returns-then-edge-before : goal.returns-then-edge-before
unfolding length_fault ◌when◌
returns-then-edge-before c =
    let a = c.args in
    simp (ne_eqb a.edge a.before (λ e. omega (arith, e, c.if-edge-before.true)))

pub returns-then-unmeasured : goal.returns-then-unmeasured
unfolding length_fault ◌when◌
returns-then-unmeasured c =
    let same : c.args.edge ≡ c.args.before =
    omega (arith, c.if-edge-before.false) in
    let a = c.args in
    let none : a.metres ≡ 0 = omega (arith, c.if-unmeasured.true) in
    simp (eq-eqb a.edge a.before (same), eq-eqb a.metres 0 none)

pub returns-else-unmeasured : goal.returns-else-unmeasured
unfolding length_fault ◌when◌
returns-else-unmeasured c =
    let same : c.args.edge ≡ c.args.before =
    omega (arith, c.if-edge-before.false) in
    let a = c.args in
    simp (eq-eqb a.edge a.before (same), ne_eqb a.metres 0 (λ e. omega (arith, e, c.if-unmeasured.false)))
