use native.Mathlib.Omega.{arith}
use Rattle.bitset.proofs.Going.{came-lt}
use Rattle.text.proofs.Written.{room-front, left-room, left-text, left-none}
use Rattle.text.proofs.NumberTexts.{left-hyphen, left-lowest, left-number, left-nothing}
use Rattle.text.proofs.Page.numbers.Goals as goal

pub text-requires : goal.text-requires
text-requires g c = left-room (left-hyphen c.members-rising.ensures c.in_default.ensures.steps.0) c.requires

pub returns-in_default : goal.returns-in_default
returns-in_default g c = left-none (left-text (left-hyphen c.members-rising.ensures c.in_default.ensures.steps.0) c.text.ensures)

pub number-requires : goal.number-requires
number-requires g c = room-front _ (left-room (left-lowest c.members-rising.ensures c.in-Some.ensures.steps) c.requires)

pub loop-k-init : goal.loop-k-init
loop-k-init g c = rw c.into_iter-k-iterator.ensures.into_iter_gives (left-text (left-lowest c.members-rising.ensures c.in-Some.ensures.steps) c.number.ensures)

pub spaced-requires : goal.spaced-requires
spaced-requires g c =
    let member = came-lt 64 _ c.in-Some-k.k _ c.in-Some-k.ensures.steps in
    record {
      digits = omega (arith, member);
      room = room-front _ (left-room (left-number c.in-Some-k.ensures.steps c.loop-k.invariant) c.requires);
    }

pub loop-k-preserved : goal.loop-k-preserved
loop-k-preserved g c = left-text (left-number c.in-Some-k.ensures.steps c.loop-k.invariant) c.spaced.ensures

pub returns : goal.returns
returns g c = left-none (left-nothing c.in-None.ensures.steps.0 c.loop-k.invariant)
