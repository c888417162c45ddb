-- What a node reaches inside a set: the least part of the set that holds the node and that no edge within the set leaves.
-- Assumes that the edges have numbers below 64 and ends below the node count.
use mathlib.Core.Path.{◌≡◌, refl}
use mathlib.Core.List.Memᴰ
use mathlib.Core.List.{[], ◌∷◌}
use mathlib.Core.Logic.{inl, inr}
use Prim.Native.Nat.{ℕ}
use Rattle.bitset.specs.Members.{◌⊆◌, ◌∈◌}
use Rattle.bitset.proofs.Subsets.{⊆-antisym}
use Rattle.network.specs.declared.Network.{Network}
use Rattle.graph.specs.Reach.{Bounded}
use Rattle.graph.specs.Paths.{Joins, Leads}
use Rattle.graph.specs.Relevant.{reach_in}
use Rattle.graph.specs.SourceSides.{Inside}
use Rattle.graph.proofs.Walks.{joins-sym, end-met, ends-met}
use Rattle.graph.proofs.Nodes.{carried}
use Rattle.graph.proofs.Inside.{in-reach_in, inside-append}

module _ (N : Network) (B : Bounded N) (u h : ℕ) (start : h ∈ u) where
  -- What holds at the start, and is carried over each edge to a node of u, holds at all that is reached inside u.
  pub reach_in-induct : (P : ℕ → Type 0) → P h → ((e x y : ℕ) → Joins N e x y → y ∈ u → P x → P y)
      → (v : ℕ) → v ∈ reach_in N u h → P v
  reach_in-induct P first over v m =
      let p = (in-reach_in N B u h start v).0 m in
      carried N P p.steps h v p.leads
      (λ e i x y j. over e x y j (p.stays y (ends-met N p.steps h v e y x p.leads i (joins-sym N e x y j))))
      first v (end-met N p.steps h v p.leads)

  -- The start is reached.
  pub reach_in-start : h ∈ reach_in N u h
  unfolding Leads
  reach_in-start =
      (in-reach_in N B u h start h).1 (record { steps = []; leads = refl; stays = λ x m. rw (Memᴰ.eq_of_singleton m) start })

  -- What is reached lies in u.
  pub reach_in-⊆ : reach_in N u h ⊆ u
  reach_in-⊆ = reach_in-induct (λ v. v ∈ u) start (λ e x y j i k. i)

  -- Over an edge to a node of u it goes on.
  pub reach_in-over : (e x y : ℕ) → Joins N e x y → y ∈ u → x ∈ reach_in N u h → y ∈ reach_in N u h
  unfolding Leads
  reach_in-over e x y j i k =
      let step : Inside N (λ z. z ∈ u) x y = record {
        steps = record { edge = e; to = y } ∷ [];
        leads = (j, refl);
        stays = λ z m. elim (Memᴰ.cases_cons m) [
          | inl q ↦ rw q (reach_in-⊆ x k)
          | inr n ↦ rw (Memᴰ.eq_of_singleton n) i
        ];
      } in
      (in-reach_in N B u h start y).1 (inside-append N (λ z. z ∈ u) h x y ((in-reach_in N B u h start x).0 k) step)

-- In a larger set more is reached.
pub reach_in-mono : (N : Network) → Bounded N → (u t h : ℕ) → h ∈ u → u ⊆ t → reach_in N u h ⊆ reach_in N t h
reach_in-mono N B u t h start within =
    reach_in-induct N B u h start (λ v. v ∈ reach_in N t h) (reach_in-start N B t h (within h start))
    (λ e x y j i. reach_in-over N B t h (within h start) e x y j (within y i))

-- In a part of a set that holds all that is reached, the same is reached.
pub reach_in-same : (N : Network) → Bounded N → (u t h : ℕ) → h ∈ u → u ⊆ t → reach_in N t h ⊆ u → reach_in N u h ≡ reach_in N t h
reach_in-same N B u t h start within holds =
    let there : h ∈ t = within h start in
    ⊆-antisym (reach_in N u h) (reach_in N t h) (reach_in-mono N B u t h start within) (λ v m.
    (reach_in-induct N B t h there (λ x. (x ∈ reach_in N t h) × (x ∈ reach_in N u h))
    (reach_in-start N B t h there, reach_in-start N B u h start)
    (λ e x y j i k.
    let on : y ∈ reach_in N t h = reach_in-over N B t h there e x y j i k.0 in
    (on, reach_in-over N B u h start e x y j (holds y on) k.1))
    v m).1)
