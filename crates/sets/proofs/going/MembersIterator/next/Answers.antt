-- `Members::next` meets its contract: the lowest member comes first, and the number before shares all others.
-- Assumes nothing.
use Rattle.std.proofs.Common.{rules, ◌≡◌, ap, length, arith}
use Rattle.bitset.specs.Members.{members}
use lib.Bits.{bit_and}
use lib.Count.{count_trailing_zeros}
use Rattle.std.proofs.Common.{◌-◌, ◌∷◌}
use Rattle.bitset.proofs.Going.{members-lowest, members-empty}
use Rattle.sets.proofs.going.MembersIterator.next.Goals as goal

pub returns-then-self-eq0-clause-steps : goal.returns-then-self-eq0-clause-steps
returns-then-self-eq0-clause-steps c = (members-empty 64 (search rules), members-empty 64 (search rules))

pub returns-clause-steps : goal.returns-clause-steps
returns-clause-steps c = members-lowest 64 (search rules) (search rules)

pub returns-clause-goes : goal.returns-clause-goes
returns-clause-goes c =
    let first : let s = c.args.self.now.left in members 64 s ≡ count_trailing_zeros 64 s ∷ members 64 (bit_and s (s - 1)) =
    members-lowest 64 (search rules) (search rules) in
    record { on = λ _. (tt, tt, omega (arith, ap length first)); keeps = tt; rests = λ _. tt }
