-- `changes::next_change` meets its contract: one fold after the other.
-- Assumes nothing.
use mathlib.Core.Path.{◌≡◌, sym, ap, ◌∙◌}
use Prim.Native.Nat.{◌+◌, ◌-◌, ◌^◌, ◌<◌}
use native.Mathlib.Omega.{arith}
use borrow.Author.Rules.{rules}
use lib.ListN.{get_or}
use Rattle.std.specs.List.{fold}
use Rattle.windows.specs.Windows.{week}
use Rattle.windows.specs.Times.{times_of, nearer, soonest}
use Rattle.windows.proofs.Times.{soonest-append}
use Rattle.windows.proofs.Chunks.{nearest-within, booked-within, nearest-fold, nearest-booked, soonest-past}
use Rattle.windows.proofs.changes.next_change.Goals as goal

pub returns-then-minute-ge-WEEK : goal.returns-then-minute-ge-WEEK
returns-then-minute-ge-WEEK c = sym (soonest-past c.args.minute week _ (omega (arith, c.if-minute-ge-WEEK.true)))

pub overflow_add-result-2 : goal.overflow_add-result-2
overflow_add-result-2 c =
    let m = c.args.minute in
    let first : c.fold-left.result ≡ fold (λ d t. nearer m t d) (10080 - m - 1) c.args.openings.now = search rules in
    let second : c.fold-least.result ≡ fold (λ d b. nearer m (get_or b 1 0) (nearer m (get_or b 0 0) d)) c.fold-left.result c.as_chunks.result.0.now =
    search rules in
    let within = nearest-within m (10080 - m - 1) c.args.openings.now in
    let within' = booked-within m c.fold-left.result c.as_chunks.result.0.now in
    omega (arith, first, second, within, within', c.if-minute-ge-WEEK.false)

pub returns : goal.returns
returns c =
    let m = c.args.minute in
    let o = c.args.openings.now in
    let w = c.args.works.now in
    let first : c.fold-left.result ≡ fold (λ d t. nearer m t d) (10080 - m - 1) o = search rules in
    let second : c.fold-least.result ≡ fold (λ d b. nearer m (get_or b 1 0) (nearer m (get_or b 0 0) d)) c.fold-left.result c.as_chunks.result.0.now =
    search rules in
    let room : m + 1 + (week - m - 1) < 2 ^ 16 = omega (arith, c.if-minute-ge-WEEK.false) in
    let begun : m + 1 + (week - m - 1) ≡ week = omega (arith, c.if-minute-ge-WEEK.false) in
    let one : m + 1 + c.fold-left.result ≡ soonest m week o =
    ap (λ d. m + 1 + d) first ∙ nearest-fold m (week - m - 1) o (λ i. omega (arith, c.type_inv.openings i)) room ∙ ap (λ n. soonest m n o) begun in
    let within = nearest-within m (week - m - 1) o in
    let room' : m + 1 + c.fold-left.result < 2 ^ 16 = omega (arith, first, within, room) in
    ap (λ d. m + 1 + d) (second ∙ ap (fold (λ d b. nearer m (get_or b 1 0) (nearer m (get_or b 0 0) d)) c.fold-left.result) c.as_chunks.ensures.front)
    ∙ nearest-booked m c.fold-left.result w (λ i. omega (arith, c.type_inv.works i)) room'
    ∙ ap (λ n. soonest m n (times_of w)) one ∙ sym (soonest-append m o (times_of w) week)
