-- `rows::raise_two` meets its contract.
-- Assumes nothing.
use Rattle.widths.proofs.Counting.{raised-two}
use Rattle.widths.proofs.rows.raise_two.Goals as goal
use Rattle.widths.proofs.rows.raise_two.Goals.{then-one-next, else-one-next}

pub returns : goal.returns
returns c =
    let a = c.args in
    raised-two a.counts.now a.one a.next c.if-one-next.counts
    (λ e. elim c.if-one-next.branch [ then-one-next w ↦ w.counts-is | else-one-next w ↦ absurd (w.if-one-next.false e) ])
    (λ d. elim c.if-one-next.branch [ then-one-next w ↦ absurd (d w.if-one-next.true) | else-one-next w ↦ w.counts-is ])
