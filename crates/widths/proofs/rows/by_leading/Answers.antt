use mathlib.Core.List.{[], ◌∷◌, ◌++◌}
use mathlib.Core.Path.{◌≡◌, refl, ap, ◌∙◌}
use Prim.Native.Nat.{◌+◌, ◌^◌, ◌<◌}
use native.Mathlib.Omega.{arith}
use borrow.Author.Rules.{rules}
use lib.ListN.{length, length-append, get_or}
use lib.Seq.{take-length}
use Rattle.sequences.proofs.Places.{mem-at}
use Rattle.sequences.proofs.Tally.{tally-none, tally-next}
use Rattle.bitset.proofs.Results.{in-union}
use Rattle.widths.specs.Widths.{width_of}
use Rattle.widths.proofs.Leading.{found-width}
use Rattle.widths.proofs.Counting.{edges_of-none, edges_of-next, size-lt, count-lt, map_next, table_of}
use Rattle.widths.proofs.rows.by_leading.Goals as goal

pub loop-row-init : goal.loop-row-init
loop-row-init c = record { found = []; many = refl; counted = tally-none 65; right = λ N twins single inside. refl; gathered = edges_of-none _ c.empty-edges.ensures }

pub bounds-counts-width : goal.bounds-counts-width
bounds-counts-width c = size-lt _ c.size-width.ensures

pub overflow_add-counts : goal.overflow_add-counts
overflow_add-counts c =
    let short : length c.args.rows.now < 2 ^ 64 =
    search rules in
    let l = c.loop-row in
    record { fits = count-lt l.counts l.invariant.found _ 1 l.invariant.counted (omega (arith, l.invariant.many, c.loop-row-test.true, short)) }

pub bounds-counts-width-in-loop-row : goal.bounds-counts-width-in-loop-row
bounds-counts-width-in-loop-row c = size-lt _ c.size-width.ensures

pub loop-row-preserved : goal.loop-row-preserved
loop-row-preserved c =
    let l = c.loop-row in
    let a = c.args in
    let rows = a.rows.now in
    let h = c.loop-row-test.true in
    record {
      found = l.invariant.found ++ c.size-width.result ∷ [];
      many = length-append l.invariant.found (c.size-width.result ∷ []) ∙ ap (λ n. n + 1) l.invariant.many;
      counted = tally-next 65 l.invariant.found c.size-width.result (size-lt _ c.size-width.ensures) l.invariant.counted;
      right = λ N twins single inside.
          let width = found-width N a.lower.now a.alone.0 twins single (get_or rows l.row-index 0) _ (inside _ (mem-at rows l.row-index 0 h)) c.leading.ensures in
          map_next (width_of N) rows l.row-index h (l.invariant.right N twins single inside) (c.size-width.ensures ∙ width);
      gathered = edges_of-next rows l.row-index _ _ h l.invariant.gathered (in-union _ _ _ c.union-edges.ensures);
    }

pub returns : goal.returns
returns c =
    let l = c.loop-row in
    let rows = c.args.rows.now in
    let all : l.row-index ≡ length rows = omega (arith, l.auto.row-index-end, c.loop-row-test.false) in (
      λ N twins single inside. table_of N rows l.invariant.counted (rw (all, take-length rows) at (l.invariant.right N twins single inside)),
      rw (all, take-length rows) at l.invariant.gathered,
    )
