use native.Mathlib.Omega.{arith}
use Rattle.windows.proofs.Windows.{edge-lt, more-gathered, all-gathered}
use Rattle.windows.proofs.minute.out_at.Goals as goal

pub book-out-requires : goal.book-out-requires
book-out-requires c = edge-lt _ _ c.loop-start.invariant c.as_chunks.ensures.front c.loop-start-test.true

pub loop-start-preserved : goal.loop-start-preserved
loop-start-preserved c = more-gathered _ _ c.loop-start.invariant c.as_chunks.ensures.front c.loop-start-test.true c.book-out.ensures

pub returns : goal.returns
returns c =
    let whole = c.as_chunks.ensures.front_len in
    all-gathered _ _ c.loop-start.invariant (omega (arith, whole, c.loop-start-test.false))
