-- The source sides of a branch: each belongs to one half, a branch that is not open has none, and one without a candidate has its side
-- alone.
-- Assumes a sound network.
--
--   OfBranch N b t   the source side t belongs to the branch b: it holds all that has joined and nothing that is left out
use mathlib.Core.Path.{◌≡◌, refl}
use mathlib.Core.Logic.{◌⊎◌, inl, inr, ◌↔◌}
use Prim.Native.Nat.{ℕ}
use native.Mathlib.Decide.{ℕ_discrete}
use Rattle.bitset.specs.Members.{◌⊆◌, ◌∖◌, ◌∈◌}
use Rattle.bitset.proofs.Subsets.{⊆-refl, ⊆-antisym, ⊆-insert}
use Rattle.bitset.proofs.Sets.{∈-dec, in_insert, in-minus}
use Rattle.network.specs.declared.Network.{Network}
use Rattle.graph.specs.Paths.{Joins}
use Rattle.graph.specs.Cuts.{RelevantEdge, RelevantNode}
use Rattle.graph.specs.SourceSides.{SourceSide}
use Rattle.graph.specs.Relevant.{relevant_nodes}
use Rattle.graph.proofs.Nodes.{carried}
use Rattle.graph.proofs.Reach.{in-round}
use Rattle.graph.proofs.Sound.{Sound}
use Rattle.graph.proofs.RelevantEdges.{relevant-edge-iff}
use Rattle.graph.proofs.Relevant.{in-relevant_nodes}
use Rattle.graph.proofs.Correspondence.{side-reach}
use Rattle.branches.specs.declared.Branch.{Branch}
use Rattle.branches.specs.Enumeration.{relevant_network, joined, left_out}
use Rattle.branches.proofs.ReachIn.{reach_in-induct, reach_in-over, reach_in-mono}
use Rattle.branches.proofs.Part.{part-bounded, part-joins}
use Rattle.branches.proofs.Branches.{Grown, Open, sink-relevant, sink-beyond, sink-rest, rest-beyond}

-- The source side t belongs to the branch b: it holds all that has joined and nothing that is left out.
pub record OfBranch (N : Network) (b : Branch) (t : ℕ) : Type 0 where
  pub side : SourceSide N t
  pub holds : b.side.0 ⊆ t
  pub avoids : (v : ℕ) → v ∈ t → v ∈ b.out.0 → ⊥

-- A source side of the branch has v, or has it not.
pub within-split : (N M : Network) (b : Branch) (v t : ℕ) → OfBranch N b t ↔ (OfBranch N (joined M b v) t ⊎ OfBranch N (left_out b v) t)
unfolding joined left_out
within-split N M b v t = (
  λ w. go w (∈-dec v t),
  λ c. elim c [
    | inl w ↦ record { side = w.side; holds = λ k m. w.holds k (⊆-insert b.side.0 v k m); avoids = w.avoids }
    | inr w ↦ record { side = w.side; holds = w.holds; avoids = λ k m i. w.avoids k m (⊆-insert b.out.0 v k i) }
  ],
)
  where
    go : OfBranch N b t → Dec (v ∈ t) → OfBranch N (joined M b v) t ⊎ OfBranch N (left_out b v) t
    go w (yes i) = inl (record {
      side = w.side;
      holds = λ k m. elim ((in_insert b.side.0 v k).0 m) [ inl l ↦ w.holds k l | inr e ↦ rw e i ];
      avoids = w.avoids;
    })
    go w (no n) = inr (record {
      side = w.side;
      holds = w.holds;
      avoids = λ k m j. elim ((in_insert b.out.0 v k).0 j) [ inl l ↦ w.avoids k m l | inr e ↦ n (rw e at m) ];
    })

-- None belongs to both halves.
pub within-apart : (N M : Network) (b : Branch) (v t : ℕ) → OfBranch N (joined M b v) t → OfBranch N (left_out b v) t → ⊥
unfolding joined left_out
within-apart N M b v t j l =
    l.avoids v (j.holds v ((in_insert b.side.0 v v).1 (inr refl))) ((in_insert b.out.0 v v).1 (inr refl))

module _ (N : Network) (S : Sound N) (b : Branch) where
  -- A branch that has a source side is open: outside it the sink reaches all relevant nodes.
  pub within-reached : Grown N b → (t : ℕ) → OfBranch N b t → b.out.0 ⊆ b.rest.0
  within-reached g t w v m =
      let all : ℕ = relevant_nodes N in
      let outside : v ∈ (all ∖ t) = (in-minus all t v).1 (g.out v m, λ i. w.avoids v i m) in
      rw g.rest
      (reach_in-mono N S.bounded (all ∖ t) (all ∖ b.side.0) N.sink ((in-minus all t N.sink).1 (sink-relevant N S, w.side.sink))
      (λ k i. let p = (in-minus all t k).0 i in (in-minus all b.side.0 k).1 (p.0, λ j. p.1 (w.holds k j))) v
      (((side-reach N S t).0 w.side).4 v outside))

  module _ (o : Open N b) (none : (v : ℕ) → v ∈ b.around.0 → v ∈ b.undecided.0 → ⊥) where
    -- Without a candidate, all beside the side is left out, but for the sink.
    beside-decided : (e x y : ℕ) → Joins (relevant_network N) e x y → x ∈ b.side.0 → (y ∈ b.side.0) ⊎ ((y ∈ b.out.0) ⊎ (y ≡ N.sink))
    beside-decided e x y j i = go (∈-dec y b.side.0) (∈-dec y b.out.0) (ℕ_discrete y N.sink)
      where
        beside : y ∈ b.around.0
        beside = rw o.grown.around ((in-round (relevant_network N) (part-bounded N S).edges b.side.0 y).1 (inr (e, (x, (i, j)))))

        go : Dec (y ∈ b.side.0) → Dec (y ∈ b.out.0) → Dec (y ≡ N.sink) → (y ∈ b.side.0) ⊎ ((y ∈ b.out.0) ⊎ (y ≡ N.sink))
        go (yes k) d f = inl k
        go (no n) (yes k) f = inr (inl k)
        go (no n) (no m) (yes k) = inr (inr k)
        go (no n) (no m) (no l) = absurd (none y beside ((o.grown.undecided y).1 (((part-joins N S e x y).0 j).3, n, m, l)))

    -- Then no edge of the relevant part leads out of the side and what the sink reaches.
    side-or-rest : (e x y : ℕ) → Joins (relevant_network N) e x y
        → (x ∈ b.side.0) ⊎ (x ∈ b.rest.0) → (y ∈ b.side.0) ⊎ (y ∈ b.rest.0)
    side-or-rest e x y j (inl i) =
        elim (beside-decided e x y j i) [
          | inl k ↦ inl k
          | inr d ↦ inr (elim d [ inl k ↦ o.reached y k | inr q ↦ rw q (sink-rest N S b o.grown) ])
        ]
    side-or-rest e x y j (inr i) = go (∈-dec y b.side.0)
      where
        go : Dec (y ∈ b.side.0) → (y ∈ b.side.0) ⊎ (y ∈ b.rest.0)
        go (yes k) = inl k
        go (no n) =
            let all : ℕ = relevant_nodes N in
            let p = (part-joins N S e x y).0 j in
            inr (rw o.grown.rest (reach_in-over N S.bounded (all ∖ b.side.0) N.sink (sink-beyond N S b o.grown) e x y p.0
            ((in-minus all b.side.0 y).1 (p.3, n)) (rw o.grown.rest at i)))

    -- So every relevant node is in one of the two.
    all-decided : (v : ℕ) → RelevantNode N v → (v ∈ b.side.0) ⊎ (v ∈ b.rest.0)
    all-decided v (inl e) = inl (rw e o.grown.source)
    all-decided v (inr (inl e)) = inr (rw e (sink-rest N S b o.grown))
    all-decided v (inr (inr (r, (m, i)))) =
        carried N (λ x. (x ∈ b.side.0) ⊎ (x ∈ b.rest.0)) m.steps N.source N.sink m.leads
        (λ e k x y j.
        let on : RelevantEdge N e = (r, (m, rw m.members at k)) in
        let ends = (relevant-edge-iff N e x y j).0 on in
        side-or-rest e x y ((part-joins N S e x y).1 (
          j,
          ends.0,
          (in-relevant_nodes N S x).1 ends.1.0,
          (in-relevant_nodes N S y).1 ends.1.1,
        )))
        (inl o.grown.source) v i

    -- The side is a source side.
    leaf-side : SourceSide N b.side.0
    leaf-side =
        (side-reach N S b.side.0).1 (
          o.grown.relevant,
          o.grown.source,
          o.grown.sink,
          o.grown.inside,
          λ v m.
              let p = (in-minus (relevant_nodes N) b.side.0 v).0 m in
              elim (all-decided v ((in-relevant_nodes N S v).0 p.0)) [ inl i ↦ absurd (p.1 i) | inr i ↦ rw o.grown.rest at i ],
        )

    -- A source side of the branch does not go beyond the side.
    leaf-within : (t : ℕ) → OfBranch N b t → t ⊆ b.side.0
    leaf-within t w v m =
        let r = (side-reach N S t).0 w.side in
        reach_in-induct N S.bounded t N.source w.side.source (λ x. x ∈ b.side.0) o.grown.source
        (λ e x y j i k. elim (ℕ_discrete x y) [
          | yes q ↦ rw q at k
          | no differ ↦ elim (beside-decided e x y ((part-joins N S e x y).1 (j, differ, o.grown.relevant x k, r.0 y i)) k) [
            | inl l ↦ l
            | inr d ↦ absurd (elim d [ inl l ↦ w.avoids y i l | inr q ↦ w.side.sink (rw q at i) ])
          ]
        ]) v (r.3 v m)

    -- Without a candidate, an open branch has one source side, its side.
    pub within-leaf : (t : ℕ) → OfBranch N b t ↔ (t ≡ b.side.0)
    within-leaf t = (
      λ w. ⊆-antisym t b.side.0 (leaf-within t w) w.holds,
      λ e. rw e (record {
        side = leaf-side;
        holds = ⊆-refl b.side.0;
        avoids = λ v m i. ((in-minus (relevant_nodes N) b.side.0 v).0 (rest-beyond N S b o.grown v (o.reached v i))).1 m;
      }),
    )
