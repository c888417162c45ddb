use mathlib.Core.Path.{refl, ◌∙◌}
use native.Mathlib.Omega.{arith}
use Prim.Native.Nat.{◌<◌}
use Rattle.bitset.proofs.Going.{came-lt}
use Rattle.format.specs.Format.{encode_of, present_command}
use Rattle.format.proofs.Commands.{left-header, left-first, left-none}
use Rattle.format.proofs.Writing.{next-room, written_next, left-next}
use Rattle.writer.proofs.Plan.edges.Goals as goal

pub loop-edge-init : goal.loop-edge-init
loop-edge-init c =
    let start = c.into_iter-edge-iterator in (
      tt,
      tt,
      record {
        same_memory = refl;
        written = rw c.requires.header c.requires.written;
        rest = rw (c.requires.header, start.ensures.into_iter_gives, c.members-edge-items.ensures) (left-header c.args.network.now);
      },
    )

pub overflow_cast-edge : goal.overflow_cast-edge
overflow_cast-edge c =
    let small : c.in-Some.edge < 64 = came-lt 64 _ _ _ c.in-Some.ensures.steps in
    omega (arith, small)

pub edge-requires-clause-number : goal.edge-requires-clause-number
edge-requires-clause-number c = came-lt 64 _ _ _ c.in-Some.ensures.steps

pub edge-requires-clause-room : goal.edge-requires-clause-room
edge-requires-clause-room c =
    let N = c.args.network.now in
    let l = c.loop-edge in
    let turn = l.invariant.2 in
    record {
      within =
          next-room (encode_of N) _ l.self.bytes.now l.self.len (present_command N c.in-Some.edge) _ turn.written
          (turn.rest ∙ left-first N _ _ c.in-Some.ensures.steps);
    }

pub loop-edge-preserved : goal.loop-edge-preserved
loop-edge-preserved c =
    let N = c.args.network.now in
    let l = c.loop-edge in
    let turn = l.invariant.2 in
    let put = c.edge.ensures in
    let vs = present_command N c.in-Some.edge in
    let first = turn.rest ∙ left-first N _ _ c.in-Some.ensures.steps in (
      tt,
      tt,
      record {
        same_memory = put.same_memory ∙ turn.same_memory;
        written = rw (put.len, put.bytes) (written_next (encode_of N) _ l.self.bytes.now l.self.len vs _ turn.written first);
        rest = rw put.len (left-next (encode_of N) _ l.self.bytes.now l.self.len vs _ turn.written first);
      },
    )

pub returns : goal.returns
returns c =
    let turn = c.loop-edge.invariant.2 in
    record {
      same_memory = turn.same_memory;
      written = turn.written;
      end_left = turn.rest ∙ left-none c.args.network.now _ c.in-None.ensures.steps.0;
    }
