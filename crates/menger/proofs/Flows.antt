-- Flows of single units over the edges, from the sink to the source, and what a unit more along a way changes. They run that way so that
-- the ways which they are peeled into run from the source to the sink.
-- Assumes that the edges have numbers below 64 and ends below the node count.
--
--   Link                 what an edge carries: a unit from one node to another, or nothing if the two are one
--   Idle l               it carries nothing
--   Joined N F           what F says that an edge carries, it carries from one of its ends to the other
--   leaves F g           the weights by g of the nodes from which edges carry, in all
--   arrives F g          the weights by g of the nodes to which edges carry, in all
--   Flow N k F           F carries k units from the sink to the source. That what leaves a node has arrived there is said by weights: for
--                        each weighing of the nodes, with k units put in at the sink and taken out at the source, both sums are the same
--   Free N F e u v       a unit can pass the edge e from u to v: it is idle, or it carries from v to u, and what it carries goes back
--   Pushed N F u v p     what edges carry after a unit more went from u to v by the steps p
use mathlib.Core.Path.{◌≡◌, refl, ap, ◌∙◌}
use mathlib.Core.Bool.{true, false}
use mathlib.Core.List.{List, [], ◌∷◌}
use mathlib.Core.Logic.{◌⊎◌, inl, inr, ◌≢◌}
use Prim.Native.Nat.{ℕ, ◌+◌, ◌*◌}
use native.Mathlib.Decide.{ℕ_discrete}
use native.Mathlib.Omega.{arith}
use borrow.Author.Tests.{eq-eqb, ne_eqb}
use lib.Dec.{eqb}
use Rattle.sequences.specs.Distinct.{Distinct}
use Rattle.sequences.specs.Counts.{sum_below}
use Rattle.sequences.proofs.Sums.{sum-change}
use Rattle.bitset.specs.Members.{◌∈◌}
use Rattle.network.specs.declared.Network.{Network}
use Rattle.graph.specs.Paths.{Joins, Hop, Leads, Simple, edges_of}
use Rattle.graph.specs.Reach.{Bounded}
use Rattle.graph.proofs.Walks.{edges-nil, edges-cons}
use Rattle.graph.proofs.Minpaths.{first_alone}
use Rattle.graph.proofs.EdgeSets.{edge-lt}
use Rattle.menger.proofs.Ways.{Along, along-leads}

pub record Link : Type 0 where
  pub near : ℕ
  pub far : ℕ

abbrev pub Idle : Link → Type 0
Idle l = l.near ≡ l.far

abbrev pub Joined : Network → (ℕ → Link) → Type 0
Joined N F = (e : ℕ) → Idle (F e) ⊎ Joins N e (F e).near (F e).far

abbrev pub leaves : (ℕ → Link) → (ℕ → ℕ) → ℕ
leaves F g = sum_below 64 (λ e. g (F e).near)

abbrev pub arrives : (ℕ → Link) → (ℕ → ℕ) → ℕ
arrives F g = sum_below 64 (λ e. g (F e).far)

pub record Flow (N : Network) (k : ℕ) (F : ℕ → Link) : Type 0 where
  pub joined : Joined N F
  pub balanced : (g : ℕ → ℕ) → arrives F g + k * g N.sink ≡ leaves F g + k * g N.source

pub record Free (N : Network) (F : ℕ → Link) (e u v : ℕ) : Type 0 where
  pub joins : Joins N e u v
  pub room : Idle (F e) ⊎ (((F e).near ≡ v) × ((F e).far ≡ u))

-- An edge that carried is idle afterwards, as it carried the other way; one that was idle carries.
pub record Pushed (N : Network) (F : ℕ → Link) (u v : ℕ) (p : List Hop) : Type 0 where
  pub flow : ℕ → Link
  pub joined : Joined N flow
  pub moved : (g : ℕ → ℕ) → arrives flow g + leaves F g + g u ≡ leaves flow g + arrives F g + g v
  pub kept : (e : ℕ) → (e ∈ edges_of p → ⊥) → flow e ≡ F e
  pub spent : (e : ℕ) → e ∈ edges_of p → (Idle (F e) → ⊥) → Idle (flow e)

-- Whether an edge is idle is decided.
pub idle-dec : (l : Link) → Dec (Idle l)
idle-dec l = ℕ_discrete l.near l.far

-- ---- one edge

-- F with l at the edge e.
unfoldable put : (ℕ → Link) → ℕ → Link → ℕ → Link
put F e l k = elim (eqb k e) [ true ↦ l | false ↦ F k ]

put-at : (F : ℕ → Link) (e : ℕ) (l : Link) → put F e l e ≡ l
unfolding put
put-at F e l = rw (eq-eqb e e refl, put)

put_other : (F : ℕ → Link) (e : ℕ) (l : Link) (k : ℕ) → k ≢ e → put F e l k ≡ F k
unfolding put
put_other F e l k n = rw (ne_eqb k e n, put)

-- What an edge that carried l carries once a unit has passed it from u to v.
unfoldable passed : (l : Link) → Dec (Idle l) → ℕ → ℕ → Link
passed l (yes i) u v = record { near = u; far = v }
passed l (no n) u v = record { near = u; far = u }

module _ (N : Network) (B : Bounded N) where
  module _ (F : ℕ → Link) (e u v : ℕ) (free : Free N F e u v) where
    -- The flow after a unit has passed the edge.
    abbrev pass : Dec (Idle (F e)) → ℕ → Link
    pass d = put F e (passed (F e) d u v)

    -- With another link at the edge the sums change by its weights.
    sums : (l : Link) (g : ℕ → ℕ)
        → (arrives (put F e l) g + g (F e).far ≡ arrives F g + g l.far) × (leaves (put F e l) g + g (F e).near ≡ leaves F g + g l.near)
    unfolding Joins
    sums l g =
        let below = edge-lt N B e free.joins.0 in (
          rw (put-at F e l) at (sum-change 64 e (λ k. g (put F e l k).far) (λ k. g (F k).far) below (λ k n. ap (λ (x : Link). g x.far) (put_other F e l k n))),
          rw (put-at F e l) at (sum-change 64 e (λ k. g (put F e l k).near) (λ k. g (F k).near) below (λ k n. ap (λ (x : Link). g x.near) (put_other F e l k n))),
        )

    -- So a unit has moved from u to v.
    pass-moves : (d : Dec (Idle (F e))) (g : ℕ → ℕ) → arrives (pass d) g + leaves F g + g u ≡ leaves (pass d) g + arrives F g + g v
    unfolding passed
    pass-moves (yes i) g =
        let (far, near) = sums (record { near = u; far = v }) g in
        omega (arith, far, near, ap g i)
    pass-moves (no n) g =
        let (far, near) = sums (record { near = u; far = u }) g in
        elim free.room [ inl i ↦ absurd (n i) | inr k ↦ omega (arith, far, near, ap g k.0, ap g k.1) ]

    -- What the edge then carries, it carries from one of its ends to the other.
    passed-joined : (d : Dec (Idle (F e))) → Idle (passed (F e) d u v) ⊎ Joins N e (passed (F e) d u v).near (passed (F e) d u v).far
    unfolding passed
    passed-joined (yes i) = inr free.joins
    passed-joined (no n) = inl refl

    pass-joined : (d : Dec (Idle (F e))) → Joined N F → Joined N (pass d)
    pass-joined d joined k = go (ℕ_discrete k e)
      where
        go : Dec (k ≡ e) → Idle (pass d k) ⊎ Joins N k (pass d k).near (pass d k).far
        go (yes q) = rw (q, put-at F e (passed (F e) d u v)) (passed-joined d)
        go (no n) = rw (put_other F e (passed (F e) d u v) k n) (joined k)

    -- An edge that carried is idle afterwards.
    pass_spent : (d : Dec (Idle (F e))) → (Idle (F e) → ⊥) → Idle (pass d e)
    unfolding passed
    pass_spent (yes i) carried = absurd (carried i)
    pass_spent (no n) carried = rw (put-at F e (record { near = u; far = u })) refl

  -- ---- all edges of a way

  module _ (F : ℕ → Link) (joined : Joined N F) where
    -- A unit more goes along a simple way of free edges: first the steps after the first, which leave the first edge as it was.
    pub push : (p : List Hop) (u v : ℕ) → Along (Free N F) u p v → Simple u p → Pushed N F u v p
    unfolding Along Distinct
    push [] u v a simple = record {
      flow = F;
      joined = joined;
      moved = λ g. omega (arith, ap g a);
      kept = λ e n. refl;
      spent = λ e m. absurd (edges-nil e m);
    }
    push (s ∷ p) u v a simple =
        let e : ℕ = s.edge in
        let w : ℕ = s.to in
        let rest : Pushed N F w v p = push p w v a.1 simple.1 in
        let leads : Leads N u (s ∷ p) v = along-leads N (Free N F) (λ k x y f. f.joins) (s ∷ p) u v a in
        let alone : e ∈ edges_of p → ⊥ = first_alone N s p u v e w leads simple a.0.joins in
        let same : rest.flow e ≡ F e = rest.kept e alone in
        let free : Free N rest.flow e u w = record { joins = a.0.joins; room = rw same a.0.room } in
        let d : Dec (Idle (rest.flow e)) = idle-dec (rest.flow e) in
        record {
          flow = pass rest.flow e u w free d;
          joined = pass-joined rest.flow e u w free d rest.joined;
          moved = λ g. omega (arith, rest.moved g, pass-moves rest.flow e u w free d g);
          kept = λ k n.
              put_other rest.flow e (passed (rest.flow e) d u w) k (λ q. n ((edges-cons s p k).1 (inr q)))
              ∙ rest.kept k (λ m. n ((edges-cons s p k).1 (inl m)));
          spent = λ k m carried. elim ((edges-cons s p k).0 m) [
            | inl i ↦
                rw (put_other rest.flow e (passed (rest.flow e) d u w) k (λ q. alone (rw q at i))) (rest.spent k i carried)
            | inr q ↦ rw q (pass_spent rest.flow e u w free d (λ i. carried (rw (q, ← same) i)))
          ];
        }
