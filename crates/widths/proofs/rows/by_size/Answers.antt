use mathlib.Core.List.{List, map}
use mathlib.Core.Path.{◌≡◌, ap, ◌∙◌}
use Prim.Native.Nat.{ℕ, ◌+◌, ◌*◌, ◌/◌, ◌^◌, ◌≤◌, ◌<◌}
use native.Mathlib.Omega.{arith}
use borrow.Author.Rules.{rules}
use lib.ListN.{length, length-map, take}
use lib.Seq.{length-take-le, take-length}
use Rattle.sequences.proofs.Tally.{tally-none}
use Rattle.bitset.specs.Members.{size}
use Rattle.bitset.proofs.Results.{in-union}
use Rattle.widths.proofs.Counting.{pair-at, last-row, edges_of-none, edges_of-next, size-lt, count-lt, tally-row}
use Rattle.widths.proofs.rows.by_size.Goals as goal

-- The rows passed and some more are within what a word holds.
room_for : (rows : List ℕ) (i more : ℕ) → length rows < 2 ^ 64 → i + more ≤ length rows → length (map (size 64) (take i rows)) + more < 2 ^ 64
room_for rows i more short within = omega (arith, length-map (take i rows) (size 64), length-take-le i rows (omega arith))

pub loop-pair-init : goal.loop-pair-init
loop-pair-init c = record { counted = tally-none 65; gathered = edges_of-none _ c.empty-edges.ensures }

pub raise_two-requires : goal.raise_two-requires
raise_two-requires c =
    let rows = c.args.rows.now in
    let short : length rows < 2 ^ 64 = search rules in
    let l = c.loop-pair in
    let many : length c.as_chunks.result.0.now ≡ length rows / 2 = c.as_chunks.ensures.front_len in
    let room = room_for rows (2 * l.pair-index) 2 short (omega (arith, c.loop-pair-test.true)) in (
      size-lt _ c.size.ensures,
      size-lt _ c.size-in-loop-pair.ensures,
      count-lt l.counts _ _ 2 l.invariant.counted room,
      count-lt l.counts _ _ 2 l.invariant.counted room,
    )

pub loop-pair-preserved : goal.loop-pair-preserved
loop-pair-preserved c =
    let l = c.loop-pair in
    let i = l.pair-index in
    let rows = c.args.rows.now in
    let many : length c.as_chunks.result.0.now ≡ length rows / 2 = c.as_chunks.ensures.front_len in
    let inside : i < length rows / 2 = omega (arith, c.loop-pair-test.true) in
    let front = c.as_chunks.ensures.front in
    let one = rw (← front) at (pair-at (length rows / 2) i 0 (2 * i) rows inside (omega arith) (omega arith)) in
    let next = rw (← front) at (pair-at (length rows / 2) i 1 (2 * i + 1) rows inside (omega arith) (omega arith)) in
    let after : 2 * i + 1 + 1 ≡ 2 * (i + 1) = omega arith in
    let one-size = c.size.ensures ∙ ap (size 64) one in
    let next-size = c.size-in-loop-pair.ensures ∙ ap (size 64) next in
    let first = tally-row (size 64) rows l.counts (2 * i) _ (omega arith) one-size (size-lt _ c.size.ensures) l.invariant.counted in
    let second = tally-row (size 64) rows _ (2 * i + 1) _ (omega arith) next-size (size-lt _ c.size-in-loop-pair.ensures) first in
    let edges = edges_of-next rows (2 * i) _ _ (omega arith) l.invariant.gathered (in-union _ _ _ (rw one at c.union.ensures)) in
    let both = edges_of-next rows (2 * i + 1) _ _ (omega arith) edges (in-union _ _ _ (rw next at c.union-edges.ensures)) in
    record {
      counted = c.raise_two.ensures ∙ rw after at second;
      gathered = rw after at both;
    }

pub bounds-counts-width : goal.bounds-counts-width
bounds-counts-width c = size-lt _ c.size-width.ensures

pub overflow_add-counts : goal.overflow_add-counts
overflow_add-counts c =
    let rows = c.args.rows.now in
    let short : length rows < 2 ^ 64 = search rules in
    let l = c.loop-pair in
    let many : length c.as_chunks.result.0.now ≡ length rows / 2 = c.as_chunks.ensures.front_len in
    let last = last-row rows _ _ l.pair-index (omega (arith, c.loop-pair-test.false, l.auto.pair-index-end)) c.as_chunks.ensures.back c.in-Some.ensures.value in
    record { fits = count-lt l.counts _ _ 1 l.invariant.counted (room_for rows (2 * l.pair-index) 1 short (omega (arith, last.1))) }

pub bounds-counts-width-in-Some : goal.bounds-counts-width-in-Some
bounds-counts-width-in-Some c = size-lt _ c.size-width.ensures

pub returns-in-Some : goal.returns-in-Some
returns-in-Some c =
    let l = c.loop-pair in
    let i = 2 * l.pair-index in
    let rows = c.args.rows.now in
    let many : length c.as_chunks.result.0.now ≡ length rows / 2 = c.as_chunks.ensures.front_len in
    let last = last-row rows _ _ l.pair-index (omega (arith, c.loop-pair-test.false, l.auto.pair-index-end)) c.as_chunks.ensures.back c.in-Some.ensures.value in
    let all = last.1 in
    let inside : i < length rows = omega (arith, last.1) in
    let width = c.size-width.ensures in
    let counted = tally-row (size 64) rows l.counts i _ inside (width ∙ ap (size 64) last.0) (size-lt _ width) l.invariant.counted in
    let edges = edges_of-next rows i _ _ inside l.invariant.gathered (in-union _ _ _ (rw last.0 at c.union-edges-in-Some.ensures)) in
    (rw (all, take-length rows) at counted, rw (all, take-length rows) at edges)
