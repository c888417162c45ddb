use mathlib.Core.Path.{◌≡◌, sym, ◌∙◌}
use mathlib.Core.Bool.{false}
use borrow.Author.Tests.{eqb-true, eqb-false}
use denote.Floats.{passes}
use Rattle.bitset.specs.Members.{has}
use Rattle.bitset.proofs.Sets.{in-drop}
use Rattle.bitset.proofs.Results.{without-minus, in_without, in-difference, in-intersection}
use Rattle.adjacency.proofs.Reaching.{adjacency-mutual, reached-inside}
use Rattle.parts.proofs.Hanging.{remains-first, remains-next, near-less, part-reached, left-reached, hangs-on, hangs-all}
use Rattle.parts.proofs.rest_without.Goals as goal

pub returns-then-not-contains : goal.returns-then-not-contains
returns-then-not-contains c M B table there hangs =
    let a = c.args in
    let lacks : has a.rest.0 a.v ≡ false = sym c.contains.ensures ∙ c.if-not-contains.true in
    hangs-all M B a.rest.0 a.v a.sink hangs (λ m. rw lacks at m) there

pub loop-near-init : goal.loop-near-init
loop-near-init c = remains-first _ _ _ _ _ (in-intersection _ _ _ c.intersection-near.ensures)

pub part_of-part-requires : goal.part_of-part-requires
part_of-part-requires c w m = ((c.loop-near.invariant.beside w).0 m).1

pub returns-then-is_empty : goal.returns-then-is_empty
returns-then-is_empty c M B table there hangs =
    let a = c.args in
    let split = in_without a.rest.0 a.v _ c.without-left.ensures in
    let was = (in-drop a.rest.0 a.v a.sink).0 there in
    let reached = left-reached _ _ _ _ _ _ _ _ c.loop-near.invariant c.part_of-part.ensures (in-difference _ _ _ c.difference-near.ensures)
    (adjacency-mutual M a.adjacent.now table) a.rest.0 split (hangs-on M B a.rest.0 a.v a.sink hangs a.adjacent.now table was.0 _ split)
    ((split a.sink).1 was) (eqb-true _ 0 (sym c.is_empty.ensures ∙ c.if-is_empty.true)) in
    reached-inside M B _ _ table _ _ there (rw (without-minus a.rest.0 a.v _ c.without-left.ensures) at reached)

pub returns-then-contains : goal.returns-then-contains
returns-then-contains c M B table there hangs =
    let a = c.args in
    let some = eqb-false _ 0 (sym c.is_empty.ensures ∙ c.if-is_empty.false) in
    let reached = part-reached _ _ _ _ _ _ _ _ c.loop-near.invariant c.part_of-part.ensures (in-difference _ _ _ c.difference-near.ensures)
    (adjacency-mutual M a.adjacent.now table) some (passes _ (sym c.contains-in-loop-near.ensures ∙ c.if-contains.true)) in
    reached-inside M B _ _ table _ _ there (rw (without-minus a.rest.0 a.v _ c.without-left.ensures) at reached)

pub loop-near-smaller : goal.loop-near-smaller
loop-near-smaller c =
    near-less _ _ _ _ _ _ _ _ c.loop-near.invariant c.part_of-part.ensures (in-difference _ _ _ c.difference-near.ensures)
    (eqb-false _ 0 (sym c.is_empty.ensures ∙ c.if-is_empty.false))

pub loop-near-preserved : goal.loop-near-preserved
loop-near-preserved c =
    let off : has _ _ ≡ false = sym c.contains-in-loop-near.ensures ∙ c.if-contains.false in
    remains-next _ _ _ _ _ _ _ _ c.loop-near.invariant c.part_of-part.ensures (in-difference _ _ _ c.difference-near.ensures)
    (eqb-false _ 0 (sym c.is_empty.ensures ∙ c.if-is_empty.false)) (λ m. rw off at m) _ (in-difference _ _ _ c.difference-left.ensures)
