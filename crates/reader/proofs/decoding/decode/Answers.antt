-- `reader::decode` meets its contract: each command's answer is the definition's, and the first refusal leaves.
-- Assumes nothing.
use mathlib.Core.Path.{sym, ap, ◌∙◌}
use native.Mathlib.Omega.{arith}
use lib.ListN.{drop}
use Rattle.format.specs.Format.{Outcome, outcome_of, Bytes, walk}
use Rattle.format.proofs.Reading.{read-means}
use Rattle.format.proofs.Walk.{size-stops, terminals-goes, terminals-stops}
use Rattle.reader.proofs.Outcomes.{step-is}
use Rattle.reader.proofs.decoding.decode.Goals as goal

pub refused-requires : goal.refused-requires
refused-requires c =
    let stop = size-stops c.args.plan.now c.next_command-size.ensures (λ n e. c.in_default.not-Size n (step-is (Outcome.Size n) tt e)) in
    (stop.number, stop.refused)

pub returns-in_default : goal.returns-in_default
returns-in_default c =
    let plan = c.args.plan.now in
    let given : Bytes plan = λ i. omega (arith, c.type_inv.plan i) in
    let stop = size-stops plan c.next_command-size.ensures (λ n e. c.in_default.not-Size n (step-is (Outcome.Size n) tt e)) in
    let both = read-means plan given (c.refused.ensures ∙ stop.decides) in
    record { value = both.0; means = both.1 }

pub refused-requires-in_default-terminals : goal.refused-requires-in_default-terminals
refused-requires-in_default-terminals c =
    let stop =
    terminals-stops c.args.plan.now c.next_command-size.ensures (ap outcome_of c.in-Size.is) c.next_command-terminals.ensures
    (λ a b e. c.in_default-terminals.not-Terminals a b (step-is (Outcome.Terminals a b) tt e)) in
    (stop.number, stop.refused)

pub returns-in_default-terminals : goal.returns-in_default-terminals
returns-in_default-terminals c =
    let plan = c.args.plan.now in
    let given : Bytes plan = λ i. omega (arith, c.type_inv.plan i) in
    let stop =
    terminals-stops plan c.next_command-size.ensures (ap outcome_of c.in-Size.is) c.next_command-terminals.ensures
    (λ a b e. c.in_default-terminals.not-Terminals a b (step-is (Outcome.Terminals a b) tt e)) in
    let both = read-means plan given (c.refused-in_default-terminals.ensures ∙ stop.decides) in
    record { value = both.0; means = both.1 }

pub returns : goal.returns
returns c =
    let plan = c.args.plan.now in
    let given : Bytes plan = λ i. omega (arith, c.type_inv.plan i) in
    let both =
    read-means plan given (c.decode_edges.ensures ∙ ap (λ N. walk N 0 (drop 5 plan)) c.bare_network.ensures
    ∙ sym (terminals-goes plan c.next_command-size.ensures (ap outcome_of c.in-Size.is) c.next_command-terminals.ensures (ap outcome_of c.in-Terminals.is))) in
    record { value = both.0; means = both.1 }
