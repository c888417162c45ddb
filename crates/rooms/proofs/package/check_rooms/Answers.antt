use mathlib.Core.Path.{refl, sym, ◌∙◌}
use mathlib.Core.Logic.{inl, inr}
use Prim.Native.Nat.{◌<◌}
use native.Mathlib.Omega.{arith}
use borrow.Author.Tests.{eqb-true, eqb-false}
use denote.Floats.{passes}
use lib.ListN.{get_or}
use Rattle.bitset.proofs.Results.{with-member}
use Rattle.node_set.specs.Width.{node_width}
use Rattle.network.proofs.Rules.{fault-rules}
use Rattle.rooms.proofs.Packages.{room-iff, first-packing, next-packing, asked-faulty, asked-none, asked-many, asked-misfit, asked-package, packed-rooms}
use Rattle.rooms.proofs.package.check_rooms.Goals as goal

pub returns-in_err-accepted : goal.returns-in_err-accepted
returns-in_err-accepted c = asked-faulty _ _ _ _ c.from_residual.ensures.1 c.in_err-accepted.ensures.refusal

pub returns-then-is_empty : goal.returns-then-is_empty
returns-then-is_empty c = elim c.then-is_empty.either [
  | inl e ↦ asked-none _ _ c.in_ok-accepted.ensures.refusal (eqb-true _ 0 (sym c.is_empty.ensures ∙ e))
  | inr p ↦ asked-many _ _ c.in_ok-accepted.ensures.refusal p.1
]

pub loop-room-init : goal.loop-room-init
loop-room-init c = first-packing _ _

pub returns-then-not-fits : goal.returns-then-not-fits
returns-then-not-fits c =
    let some = eqb-false _ 0 (sym c.is_empty.ensures ∙ c.if-is_empty.false) in
    asked-misfit _ _ c.in_ok-accepted.ensures.refusal some c.if-rooms-gt-MOST_ROOMS.false c.loop-room.invariant c.loop-room-test.true
    c.fits.ensures c.if-not-fits.true

pub loop-room-preserved : goal.loop-room-preserved
loop-room-preserved c =
    let N = c.args.network in
    let l = c.loop-room in
    let room = get_or c.args.rooms.now l.room-index 0 in
    let fits = (room-iff N l.seen.0 room).0 (passes _ (sym c.fits.ensures ∙ c.if-not-fits.false)) in
    let room-lt : room < node_width = omega (arith, fits.0, ((fault-rules N).0 (sym c.in_ok-accepted.ensures.refusal)).size.1) in
    next-packing _ _ l.invariant c.loop-room-test.true c.fits.ensures c.if-not-fits.false
    (with-member node_width _ _ _ room-lt (rw c.from.ensures at c.with-seen.ensures))

pub invariant_of-result : goal.invariant_of-result
invariant_of-result c =
    let some = eqb-false _ 0 (sym c.is_empty.ensures ∙ c.if-is_empty.false) in
    let asked = packed-rooms _ _ c.in_ok-accepted.ensures.refusal some c.if-rooms-gt-MOST_ROOMS.false c.loop-room.invariant c.loop-room-test.false in
    record { asked = rw c.in_ok-accepted.ensures.same asked }

pub returns : goal.returns
returns c =
    let some = eqb-false _ 0 (sym c.is_empty.ensures ∙ c.if-is_empty.false) in
    asked-package _ _ c.in_ok-accepted.ensures.refusal some c.if-rooms-gt-MOST_ROOMS.false c.loop-room.invariant c.loop-room-test.false
    c.in_ok-accepted.ensures.same refl
