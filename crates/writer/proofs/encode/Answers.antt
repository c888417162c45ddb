-- `writer::encode` meets its contract: a refusal leaves the buffer, and otherwise header, edges and end stand in it.
-- Assumes nothing.
use mathlib.Core.Path.{sym, ◌∙◌}
use mathlib.Core.List.{[], ◌∷◌}
use Prim.Native.Nat.{◌≤◌, ◌<◌}
use native.Mathlib.Omega.{arith}
use borrow.Author.Rules.{rules}
use borrow.Author.Tests.{lt-ltb, le-ltb}
use lib.ListN.{length}
use Rattle.network.specs.Record.{Stored}
use Rattle.network.proofs.Refusals.{none_then, refused_then, some-when, none-when}
use Rattle.format.specs.Format.{encode_of, encode_refusal}
use Rattle.format.proofs.Writing.{next-room}
use Rattle.writer.proofs.Encoding.{encode-refused, encode-passed, encode-written, written-means, header-room, header-kept, end-bytes}
use Rattle.writer.proofs.encode.Goals as goal

pub returns-in_err-fault : goal.returns-in_err-fault
unfolding encode_refusal
returns-in_err-fault c =
    let stored : Stored c.args.network = search rules in
    let both =
    written-means c.args.network stored _
    (encode-passed c.args.network _ _ _ c.from_residual.ensures.1 (refused_then _ _ c.in_err-fault.ensures.value)) in
    record { value = both.0; means = both.1 }

pub returns-then-plan-count : goal.returns-then-plan-count
unfolding encode_refusal
returns-then-plan-count c =
    let stored : Stored c.args.network = search rules in
    let N = c.args.network in
    let short : length c.args.plan.now < length (encode_of N) = omega arith in
    let both =
    written-means N stored _
    (encode-refused N _ 15 (sym (none_then _ (sym c.in_ok-fault.ensures.value) ∙ some-when 15 (lt-ltb _ _ short))) (λ e. omega arith)) in
    record { value = both.0; means = both.1 }

pub put-requires : goal.put-requires
put-requires c = (omega arith, record { within = header-room c.args.network c.args.plan.now (omega arith) })

pub edges-requires-clause-header : goal.edges-requires-clause-header
edges-requires-clause-header c = c.put.ensures.len

pub edges-requires-clause-written : goal.edges-requires-clause-written
edges-requires-clause-written c = rw c.put.ensures.bytes (header-kept c.args.network c.args.plan.now (omega arith))

pub put-requires-2 : goal.put-requires-2
put-requires-2 c =
    let e = c.edges.ensures in
    (omega arith, record { within = next-room (encode_of c.args.network) _ _ _ (0x45 ∷ []) [] e.written e.end_left })

pub returns : goal.returns
unfolding encode_refusal
returns c =
    let stored : Stored c.args.network = search rules in
    let fits : length (encode_of c.args.network) ≤ length c.args.plan.now = omega arith in
    let e = c.edges.ensures in
    let a = c.args in
    let edges = rw c.put.ensures.bytes at e.written in
    let both =
    written-means a.network stored _
    (encode-written a.network a.plan.now _ _ (none_then _ (sym c.in_ok-fault.ensures.value) ∙ none-when 15 (le-ltb _ _ fits))
    c.encoded_length-count.ensures
    (search rules ∙ c.put-2.ensures.bytes ∙ end-bytes a.network a.plan.now fits _ _ edges e.end_left)) in
    record { value = both.0; means = both.1 }
