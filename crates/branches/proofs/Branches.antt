-- The branches of the enumeration: what each part of a branch holds, and that a join and a leaving-out keep this.
-- Assumes a sound network.
--
--   Grown N b        the parts of the branch b are what they are to be
--   Open N b         the branch b may be entered: the sink reaches all that is left out
use mathlib.Core.Path.{◌≡◌, refl, sym, ap, ◌∙◌}
use mathlib.Core.Logic.{inl, inr, ◌↔◌}
use Prim.Native.Nat.{ℕ, ◌^◌}
use lib.Bits.{bit_or, bit_xor, or_zero_l}
use Rattle.bitset.specs.Members.{◌⊆◌, insert, ◌∖◌, ◌∈◌}
use Rattle.bitset.proofs.Subsets.{zero-⊆, ⊆-insert}
use Rattle.bitset.proofs.Sets.{in_insert, in-minus, in-single, in-drop, same_set, insert-zero, not-insert, not-zero}
use Rattle.network.specs.declared.Network.{Network}
use Rattle.graph.specs.Reach.{round}
use Rattle.graph.specs.Relevant.{reach_in, edges_at, relevant_nodes, boundary_of}
use Rattle.graph.specs.Cuts.{only}
use Rattle.graph.proofs.Reach.{in-round}
use Rattle.graph.proofs.Sound.{Sound}
use Rattle.graph.proofs.Relevant.{in-relevant_nodes}
use Rattle.graph.proofs.Correspondence.{in-boundary_of}
use Rattle.branches.specs.declared.Branch.{Branch}
use Rattle.branches.specs.Enumeration.{relevant_network, blank, start, joined, left_out}
use Rattle.branches.proofs.ReachIn.{reach_in-start, reach_in-⊆, reach_in-over, reach_in-mono, reach_in-same}
use Rattle.branches.proofs.Part.{part-bounded, part-joins, part-reach_in, beside-insert, boundary-insert}

-- The parts of a branch are what they are to be.
pub record Grown (N : Network) (b : Branch) : Type 0 where
  pub relevant : b.side.0 ⊆ relevant_nodes N
  pub source : N.source ∈ b.side.0
  pub sink : N.sink ∈ b.side.0 → ⊥
  pub inside : b.side.0 ⊆ reach_in N b.side.0 N.source
  pub out : b.out.0 ⊆ relevant_nodes N
  pub undecided : (v : ℕ)
      → (v ∈ b.undecided.0) ↔ ((v ∈ relevant_nodes N) × (v ∈ b.side.0 → ⊥) × (v ∈ b.out.0 → ⊥) × (v ≡ N.sink → ⊥))
  pub rest : b.rest.0 ≡ reach_in N (relevant_nodes N ∖ b.side.0) N.sink
  pub around : b.around.0 ≡ round (relevant_network N) b.side.0
  pub cut : b.cut.0 ≡ boundary_of N b.side.0

-- A branch that may be entered: the sink reaches all that is left out.
pub record Open (N : Network) (b : Branch) : Type 0 where
  pub grown : Grown N b
  pub reached : b.out.0 ⊆ b.rest.0

module _ (N : Network) (S : Sound N) where
  -- The sink is a relevant node.
  pub sink-relevant : N.sink ∈ relevant_nodes N
  sink-relevant = (in-relevant_nodes N S N.sink).1 (inr (inl refl))

  -- ---- the first branch

  -- The empty set has no boundary.
  boundary-zero : boundary_of N 0 ≡ 0
  boundary-zero =
      same_set (λ e. (λ m. let k = ((in-boundary_of N S 0 e).0 m).1 in absurd (not-zero k.near k.near-in), λ m. absurd (not-zero e m)))

  -- The first branch.
  pub start-grown : Grown N (start N)
  unfolding blank joined only
  start-grown =
      let M : Network = relevant_network N in
      let all : ℕ = relevant_nodes N in
      let s : ℕ = insert 0 N.source in
      let alone : s ≡ 2 ^ N.source = insert-zero N.source in
      let member : (v : ℕ) → v ∈ s → v ≡ N.source = λ v m. (in-single N.source v).0 (rw alone at m) in
      let there : N.source ∈ s = (in_insert 0 N.source N.source).1 (inr refl) in
      record {
        relevant = λ v m. rw (member v m) ((in-relevant_nodes N S N.source).1 (inl refl));
        source = there;
        sink = λ m. S.differ (sym (member N.sink m));
        inside = λ v m. rw (member v m) (reach_in-start N S.bounded s N.source there);
        out = zero-⊆ all;
        undecided = λ v.
            let drop = in-drop (all ∖ 2 ^ N.sink) N.source v in
            let drops = in-drop all N.sink v in (
              λ m. let d = drop.0 m in let k = drops.0 d.0 in (k.0, λ i. d.1 (member v i), not-zero v, k.1),
              λ k. drop.1 (drops.1 (k.0, k.3), λ e. k.1 (rw e there)),
            );
        rest = part-reach_in N S (all ∖ 2 ^ N.source) N.sink (λ v m. ((in-minus all (2 ^ N.source) v).0 m).0)
            ∙ ap (λ (x : ℕ). reach_in N (all ∖ x) N.sink) (sym alone);
        around = or_zero_l (round M (2 ^ N.source)) ∙ ap (round M) (sym alone);
        cut = sym (boundary-insert N S 0 N.source (not-zero N.source) ∙ ap (λ (x : ℕ). bit_xor x (edges_at M N.source)) boundary-zero);
      }

  -- ---- what a branch holds

  module _ (b : Branch) (g : Grown N b) where
    -- The sink lies outside the side.
    pub sink-beyond : N.sink ∈ (relevant_nodes N ∖ b.side.0)
    sink-beyond = (in-minus (relevant_nodes N) b.side.0 N.sink).1 (sink-relevant, g.sink)

    -- The sink reaches itself.
    pub sink-rest : N.sink ∈ b.rest.0
    sink-rest = rw g.rest (reach_in-start N S.bounded (relevant_nodes N ∖ b.side.0) N.sink sink-beyond)

    -- What the sink reaches is relevant and lies outside the side.
    pub rest-beyond : b.rest.0 ⊆ (relevant_nodes N ∖ b.side.0)
    rest-beyond = rw g.rest (reach_in-⊆ N S.bounded (relevant_nodes N ∖ b.side.0) N.sink sink-beyond)

    -- Without v the sink reaches as much inside what it reached as in any set between that and all that it reaches.
    rest-within : (v t : ℕ) → (N.sink ≡ v → ⊥) → (b.rest.0 ∖ 2 ^ v) ⊆ t → reach_in N t N.sink ⊆ (b.rest.0 ∖ 2 ^ v)
        → reach_in (relevant_network N) (b.rest.0 ∖ 2 ^ v) N.sink ≡ reach_in N t N.sink
    rest-within v t other within holds =
        part-reach_in N S (b.rest.0 ∖ 2 ^ v) N.sink
        (λ k m. ((in-minus (relevant_nodes N) b.side.0 k).0 (rest-beyond k ((in-drop b.rest.0 v k).0 m).0)).0)
        ∙ reach_in-same N S.bounded (b.rest.0 ∖ 2 ^ v) t N.sink ((in-drop b.rest.0 v N.sink).1 (sink-rest, other)) within holds

    -- What the sink did not reach makes no difference to what it reaches.
    pub rest-kept : (v : ℕ) → (N.sink ≡ v → ⊥) → (v ∈ b.rest.0 → ⊥)
        → reach_in (relevant_network N) (b.rest.0 ∖ 2 ^ v) N.sink ≡ b.rest.0
    rest-kept v other off =
        rest-within v (relevant_nodes N ∖ b.side.0) other (λ k m. rest-beyond k ((in-drop b.rest.0 v k).0 m).0)
        (λ k m. (in-drop b.rest.0 v k).1 (rw g.rest m, λ e. off (rw (g.rest, ← e) m)))
        ∙ sym g.rest

    module _ (v : ℕ) (beside : v ∈ b.around.0) (free : v ∈ b.undecided.0) where
      -- With v joined, what the sink reaches is what it reaches outside the side with v.
      joined-rest : reach_in (relevant_network N) (b.rest.0 ∖ 2 ^ v) N.sink ≡ reach_in N (relevant_nodes N ∖ insert b.side.0 v) N.sink
      joined-rest =
          let s : ℕ = b.side.0 in
          let all : ℕ = relevant_nodes N in
          let beyond : ℕ = all ∖ insert s v in
          let other : N.sink ≡ v → ⊥ = λ e. ((g.undecided v).0 free).3 (sym e) in
          let there : N.sink ∈ beyond = (in-minus all (insert s v) N.sink).1 (sink-relevant, (not-insert s v N.sink).1 (g.sink, other)) in
          rest-within v beyond other
          (λ k m.
          let d = (in-drop b.rest.0 v k).0 m in
          let p = (in-minus all s k).0 (rest-beyond k d.0) in
          (in-minus all (insert s v) k).1 (p.0, (not-insert s v k).1 (p.1, d.1)))
          (λ k m.
          let p = (in-minus all (insert s v) k).0 (reach_in-⊆ N S.bounded beyond N.sink there k m) in
          let fewer : beyond ⊆ (all ∖ s) =
          λ j i. let q = (in-minus all (insert s v) j).0 i in (in-minus all s j).1 (q.0, ((not-insert s v j).0 q.1).0) in
          (in-drop b.rest.0 v k).1
          (rw g.rest (reach_in-mono N S.bounded beyond (all ∖ s) N.sink there fewer k m), ((not-insert s v k).0 p.1).1))

      -- With v joined, source reaches all of the side inside it.
      joined-inside : insert b.side.0 v ⊆ reach_in N (insert b.side.0 v) N.source
      joined-inside k m =
          let s : ℕ = b.side.0 in
          let grow : reach_in N s N.source ⊆ reach_in N (insert s v) N.source =
          reach_in-mono N S.bounded s (insert s v) N.source g.source (⊆-insert s v) in
          elim ((in_insert s v k).0 m) [
            | inl l ↦ grow k (g.inside k l)
            | inr e ↦
                elim ((in-round (relevant_network N) (part-bounded N S).edges s v).0 (rw g.around at beside)) [
                  | inl i ↦ absurd (((g.undecided v).0 free).1 i)
                  | inr w ↦
                      let over = ((part-joins N S w.0 w.1.0 v).0 w.1.1.1).0 in
                      rw e (reach_in-over N S.bounded (insert s v) N.source (⊆-insert s v N.source g.source) w.0 w.1.0 v over
                      ((in_insert s v v).1 (inr refl)) (grow w.1.0 (g.inside w.1.0 w.1.1.0)))
                ]
          ]

      -- A branch with an undecided node beside its side joined.
      pub joined-grown : Grown N (joined (relevant_network N) b v)
      unfolding joined only
      joined-grown =
          let s : ℕ = b.side.0 in
          let u = (g.undecided v).0 free in
          record {
            relevant = λ k m. elim ((in_insert s v k).0 m) [ inl l ↦ g.relevant k l | inr e ↦ rw e u.0 ];
            source = ⊆-insert s v N.source g.source;
            sink = (not-insert s v N.sink).1 (g.sink, λ e. u.3 (sym e));
            inside = joined-inside;
            out = g.out;
            undecided = λ k.
                let drop = in-drop b.undecided.0 v k in (
                  λ m. let d = drop.0 m in let q = (g.undecided k).0 d.0 in (q.0, (not-insert s v k).1 (q.1, d.1), q.2, q.3),
                  λ q. let n = (not-insert s v k).0 q.1 in drop.1 ((g.undecided k).1 (q.0, n.0, q.2, q.3), n.1),
                );
            rest = joined-rest;
            around = ap (λ (x : ℕ). bit_or x (round (relevant_network N) (2 ^ v))) g.around ∙ sym (beside-insert N S s v);
            cut = ap (λ (x : ℕ). bit_xor x (edges_at (relevant_network N) v)) g.cut ∙ sym (boundary-insert N S s v u.1);
          }

    -- A branch with an undecided node left out.
    pub left_out-grown : (v : ℕ) → v ∈ b.undecided.0 → Grown N (left_out b v)
    unfolding left_out
    left_out-grown v free =
        let x : ℕ = b.out.0 in
        record {
          relevant = g.relevant;
          source = g.source;
          sink = g.sink;
          inside = g.inside;
          out = λ k m. elim ((in_insert x v k).0 m) [ inl l ↦ g.out k l | inr e ↦ rw e ((g.undecided v).0 free).0 ];
          undecided = λ k.
              let drop = in-drop b.undecided.0 v k in (
                λ m. let d = drop.0 m in let q = (g.undecided k).0 d.0 in (q.0, q.1, (not-insert x v k).1 (q.2, d.1), q.3),
                λ q. let n = (not-insert x v k).0 q.2 in drop.1 ((g.undecided k).1 (q.0, q.1, n.0, q.3), n.1),
              );
          rest = g.rest;
          around = g.around;
          cut = g.cut;
        }
