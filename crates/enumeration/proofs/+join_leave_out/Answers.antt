use mathlib.Core.Path.{◌≡◌, refl}
use mathlib.Core.Bool.{true, false}
use mathlib.Core.Logic.{◌⊎◌, inl, inr}
use Prim.Native.Nat.{ℕ, ◌≤◌, ◌<◌}
use native.Mathlib.Omega.{arith}
use Rattle.bitset.specs.Members.{has}
use Rattle.network.specs.declared.Network.{Network}
use Rattle.branches.specs.declared.Branch.{Branch}
use Rattle.branches.specs.Enumeration.{left_out, leave_out_rows}
use Rattle.enumeration.specs.declared.rows.Rows.{Rows}
use Rattle.enumeration.specs.Rows.{Fed, Whole, RowsPut}
use Rattle.enumeration.proofs.Putting.{put-past, same-on}
use Rattle.enumeration.proofs.Halves.{joined-fed, joined-whole, made-joined, whole-hangs, left_out-fed, left_out-whole, left_out-undecided, undecided-fewer, candidate-free, wanted-and, unwanted-or, join-half, leave-out-half, shut-put, leaf-put, split-put}
use Rattle.enumeration.proofs.+join_leave_out.Goals as goal

-- ---- a node joins

pub join-returns-then-not-is_open-clause-put : goal.join-returns-then-not-is_open-clause-put
join-returns-then-not-is_open-clause-put t c M tables fed hangs =
    let a = c.args in
    let next = made-joined _ a.b _ a.v c.requires.1 c.joined-next.ensures.1 M tables fed hangs in
    shut-put M _ c.is_open.result _ (join-half M a.b a.v _ next _ c.is_open.ensures) a.rows.now c.if-not-is_open.true

pub join-returns-in_default-clause-put : goal.join-returns-in_default-clause-put
join-returns-in_default-clause-put t c M tables fed hangs =
    let a = c.args in
    let next = made-joined _ a.b _ a.v c.requires.1 c.joined-next.ensures.1 M tables fed hangs in
    leaf-put M _ c.is_open.result _ (join-half M a.b a.v _ next _ c.is_open.ensures) a.rows.now c.if-not-is_open.false
    c.in_default.ensures.none c.put.new.self c.put.ensures.put

pub join-join-requires : goal.join-join-requires
join-join-requires t c =
    let d = c.joined-next.result in
    let found = c.in-Some.ensures.found in
    let less = undecided-fewer c.args.b.undecided.0 d.undecided.0 c.args.v c.requires.0 c.requires.1 c.joined-next.ensures.0 in
    (omega (arith, less, c.decreases), (found.1, candidate-free d _ found.0 found.1, c.requires.2))

pub join-leave_out-requires : goal.join-leave_out-requires
join-leave_out-requires t c =
    let d = c.joined-next.result in
    let found = c.in-Some.ensures.found in
    let less = undecided-fewer c.args.b.undecided.0 d.undecided.0 c.args.v c.requires.0 c.requires.1 c.joined-next.ensures.0 in
    (omega (arith, less, c.decreases), (found.1, candidate-free d _ found.0 found.1))

pub join-returns-clause-put : goal.join-returns-clause-put
join-returns-clause-put t c M tables fed hangs =
    let a = c.args in
    let d = c.joined-next.result in
    let found = c.in-Some.ensures.found in
    let next = made-joined _ a.b d a.v c.requires.1 c.joined-next.ensures.1 M tables fed hangs in
    let fed' : Fed M d = rw next (joined-fed M tables.bounded a.b a.v c.requires.1 fed) in
    let whole' : Whole M d = rw next (joined-whole M tables.bounded a.b a.v c.requires.1 fed) in
    split-put M _ c.is_open.result d (join-half M a.b a.v _ next _ c.is_open.ensures) a.rows.now c.if-not-is_open.false
    _ found.0 found.1 c.join.new.rows c.leave_out.new.rows c.join.ensures.same
    (c.join.ensures.put M tables fed' (whole-hangs M d _ whole')) (c.leave_out.ensures.put M tables fed' whole')

-- ---- a node is left out

-- Where w cannot be left out, no row is put: none is wanted, or the sink does not reach w.
none-put : (M : Network) (b : Branch) (w : ℕ) (r : Rows) → (r.limit < r.count) ⊎ (has b.rest.0 w ≡ false) → RowsPut (leave_out_rows M b w) r r
none-put M b w r (inl past) = put-past r past (leave_out_rows M b w)
none-put M b w r (inr off) = shut-put M _ _ (left_out b w) (leave-out-half M b w _ refl _ refl) r off

pub leave_out-returns-in_default-clause-put : goal.leave_out-returns-in_default-clause-put
leave_out-returns-in_default-clause-put t c M tables fed whole =
    let l = c.loop-next in
    let wanted : (l.rows.count ≤ l.rows.limit) × (has l.next.rest.0 l.w ≡ true) = wanted-and _ _ _ c.can_leave_out.result c.can_leave_out.ensures c.loop-next-test.true in
    let half = leave-out-half M l.next l.w _ c.left_out-next.ensures _ refl in
    (l.invariant.goes M tables fed whole).2 c.put.new.self
    (leaf-put M _ _ c.left_out-next.result half l.rows wanted.1 c.in_default.ensures.none c.put.new.self c.put.ensures.put)

pub leave_out-join-requires : goal.leave_out-join-requires
leave_out-join-requires t c =
    let l = c.loop-next in
    let d = c.left_out-next.result in
    let found = c.in-Some.ensures.found in
    let wanted : (l.rows.count ≤ l.rows.limit) × (has l.next.rest.0 l.w ≡ true) = wanted-and _ _ _ c.can_leave_out.result c.can_leave_out.ensures c.loop-next-test.true in
    let less = undecided-fewer l.next.undecided.0 d.undecided.0 l.w l.invariant.low l.invariant.free (left_out-undecided l.next d l.w c.left_out-next.ensures) in
    (omega (arith, less, l.invariant.fewer, c.decreases), (found.1, candidate-free d _ found.0 found.1, wanted.0))

pub leave_out-loop-next-smaller : goal.leave_out-loop-next-smaller
leave_out-loop-next-smaller t c =
    let l = c.loop-next in
    let d = c.left_out-next.result in
    undecided-fewer l.next.undecided.0 d.undecided.0 l.w l.invariant.low l.invariant.free (left_out-undecided l.next d l.w c.left_out-next.ensures)

pub leave_out-loop-next-preserved : goal.leave_out-loop-next-preserved
leave_out-loop-next-preserved t c =
    let l = c.loop-next in
    let d = c.left_out-next.result in
    let found = c.in-Some.ensures.found in
    let wanted : (l.rows.count ≤ l.rows.limit) × (has l.next.rest.0 l.w ≡ true) = wanted-and _ _ _ c.can_leave_out.result c.can_leave_out.ensures c.loop-next-test.true in
    let less = undecided-fewer l.next.undecided.0 d.undecided.0 l.w l.invariant.low l.invariant.free (left_out-undecided l.next d l.w c.left_out-next.ensures) in
    record {
      low = found.1;
      free = candidate-free d _ found.0 found.1;
      fewer = omega (arith, less, l.invariant.fewer);
      same = same-on l.invariant.same c.join.ensures.same;
      goes = λ M tables fed whole.
          let goes = l.invariant.goes M tables fed whole in
          let next = c.left_out-next.ensures in
          let fed' : Fed M d = rw next (left_out-fed M l.next l.w goes.0) in
          let whole' : Whole M d = rw next (left_out-whole M l.next l.w goes.1) in (
            fed',
            whole',
            λ last p. goes.2 last
                (split-put M _ _ d (leave-out-half M l.next l.w _ next _ refl) l.rows wanted.1 _ found.0 found.1 c.join.new.rows last
                c.join.ensures.same (c.join.ensures.put M tables fed' (whole-hangs M d _ whole')) p),
          );
    }

pub leave_out-returns-clause-put : goal.leave_out-returns-clause-put
leave_out-returns-clause-put t c M tables fed whole =
    let l = c.loop-next in
    (l.invariant.goes M tables fed whole).2 l.rows
    (none-put M l.next l.w l.rows (unwanted-or _ _ _ c.can_leave_out.result c.can_leave_out.ensures c.loop-next-test.false))
