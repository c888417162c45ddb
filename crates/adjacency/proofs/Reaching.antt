-- What a spread over the table of a network reaches: what is reached over the edges of the network.
-- Assumes that the edges have numbers below 64 and ends below the node count.
use mathlib.Core.Path.{◌≡◌, sym, ◌∙◌}
use mathlib.Core.Bool.{◌&&◌}
use mathlib.Core.List.{List}
use mathlib.Core.Logic.{◌⊎◌, inl, inr, ◌↔◌, ◌≢◌}
use Prim.Native.Nat.{ℕ, ◌-◌, ◌^◌, ◌<◌}
use native.Mathlib.Decide.{ℕ_discrete}
use lib.Dec.{ltb}
use lib.ListN.{get_or}
use Rattle.bitset.specs.Members.{has, ◌⊆◌, ◌∖◌, ◌∈◌}
use Rattle.bitset.proofs.Subsets.{⊆-antisym}
use Rattle.bitset.proofs.Sets.{in-single, in-drop, in_ones}
use Rattle.bitset.proofs.Results.{below-ones}
use Rattle.node_set.specs.Width.{node_width}
use Rattle.network.specs.declared.Network.{Network}
use Rattle.network.specs.Record.{present}
use Rattle.graph.specs.Paths.{Joins}
use Rattle.graph.specs.Cuts.{only}
use Rattle.graph.specs.Reach.{reach_of, Bounded}
use Rattle.graph.specs.Relevant.{edges_within, reach_in}
use Rattle.graph.proofs.Walks.{joins-sym, joins-other, joins-ends}
use Rattle.graph.proofs.Reach.{reach-start, reach-closed, reach-least, bounded-only}
use Rattle.graph.proofs.EdgeSets.{in-edges_within}
use Rattle.graph.proofs.Sound.{Sound}
use Rattle.spread.specs.Spread.{Reached}
use Rattle.adjacency.specs.Adjacency.{Adjacency, Mutual}

-- In the table of a network each node is adjacent to those that are adjacent to it.
pub adjacency-mutual : (N : Network) (adjacent : List ℕ) → Adjacency N adjacent → Mutual adjacent
adjacency-mutual N adjacent table v w m =
    let j = (table v w).0 m in
    (table w v).1 (λ e. j.0 (sym e), (j.1.0, joins-sym N j.1.0 v w j.1.1))

-- ---- over the edges of a network

-- Where the steps that the table gives inside a set are those over the edges of N, both reach the same.
reached-same : (N : Network) → Bounded N → (adjacent : List ℕ) (within start r : ℕ) → Reached adjacent within start r
    → start ⊆ within → ((e v w : ℕ) → Joins N e v w → w ∈ within)
    → ((v w : ℕ) → v ∈ within → ((w ∈ get_or adjacent v 0) × (w ∈ within)) ↔ ((v ≡ w → ⊥) × ((e : ℕ) × Joins N e v w)))
    → r ≡ reach_of N start
reached-same N B adjacent within start r reached from ends steps =
    ⊆-antisym r (reach_of N start)
    (reached.least (reach_of N start) (reach-start N B start) (λ w p k.
    let inside = reach-least N B start within from (λ e u v j m. ends e u v j) p.0 p.1.0 in
    let j = (steps p.0 w inside).0 (p.1.1, k) in
    reach-closed N B start j.1.0 p.0 w j.1.1 p.1.0))
    (reach-least N B start r reached.started (λ e u v j m. over e u v j m (ℕ_discrete u v)))
  where
    over : (e u v : ℕ) → Joins N e u v → u ∈ r → Dec (u ≡ v) → v ∈ r
    over e u v j m (yes q) = rw q at m
    over e u v j m (no n) =
        let p = (steps u v (ends e v u (joins-sym N e u v j))).1 (n, (e, j)) in
        reached.closed v (u, (m, p.0)) p.1

-- Over the table of the edges of h, inside all nodes of a sound network, what is reached is what the start reaches over these edges.
pub reached-all : (N : Network) → Sound N → (h : ℕ) → h ⊆ present N → (adjacent : List ℕ) → Adjacency (only N h) adjacent
    → (all start r : ℕ) → ((j : ℕ) → has all j ≡ ltb j N.nodes && ltb j node_width) → ((v : ℕ) → v ∈ start → v < N.nodes)
    → Reached adjacent all start r → r ≡ reach_of (only N h) start
unfolding only
reached-all N S h l adjacent table all start r is_all nodes reached =
    let B = bounded-only N S.bounded h l in
    let holds : (v : ℕ) → v < N.nodes → v ∈ all =
    λ v k. rw (below-ones node_width N.nodes all S.small is_all) ((in_ones N.nodes v).1 k) in
    let ends : (e v w : ℕ) → Joins (only N h) e v w → w ∈ all = λ e v w j. holds w (B.ends e v w j) in
    reached-same (only N h) B adjacent all start r reached (λ v m. holds v (nodes v m)) ends
    (λ v w m. (λ p. (table v w).0 p.0, λ j. ((table v w).1 j, ends j.1.0 v w j.1.1)))

-- ---- inside a set of nodes

module _ (N : Network) (B : Bounded N) (u : ℕ) where
  -- The edges within u keep the bounds.
  bounded-within : Bounded (only N (edges_within N u))
  bounded-within = bounded-only N B (edges_within N u) (λ e m. ((in-edges_within N B u e).0 m).0)

  -- They join two different nodes of u.
  joins-within : (e v w : ℕ) → Joins (only N (edges_within N u)) e v w ↔ (Joins N e v w × (v ≡ w → ⊥) × (v ∈ u) × (w ∈ u))
  unfolding Joins only
  joins-within e v w =
      let within = in-edges_within N B u e in (
        λ j.
            let p = within.0 j.0 in
            let here : Joins N e v w = (p.0, j.1) in
            let q = p.1 v w here in
            (here, q.0, q.1, (p.1 w v (joins-sym N e v w here)).1),
        λ p. (within.1 (p.0.0, λ x y k. both p x y k (joins-ends N e v w x y p.0 k)), p.0.1),
      )
    where
      both : Joins N e v w × (v ≡ w → ⊥) × (v ∈ u) × (w ∈ u) → (x y : ℕ) → Joins N e x y → (x ≡ v) ⊎ (x ≡ w) → (x ≢ y) × (x ∈ u)
      both p x y k (inl q) = (λ d. p.1 (sym q ∙ d ∙ joins-other N e v y w (rw q at k) p.0), rw q p.2)
      both p x y k (inr q) =
          (λ d. p.1 (sym (sym q ∙ d ∙ joins-other N e w y v (rw q at k) (joins-sym N e v w p.0))), rw q p.3)

  -- Over the table of N, inside u, what is reached is what the start reaches by walks that stay inside u.
  pub reached-inside : (adjacent : List ℕ) → Adjacency N adjacent → (h r : ℕ) → h ∈ u → Reached adjacent u (2 ^ h) r → r ≡ reach_in N u h
  unfolding reach_in
  reached-inside adjacent table h r there reached =
      reached-same (only N (edges_within N u)) bounded-within adjacent u (2 ^ h) r reached
      (λ v m. rw ((in-single h v).0 m) there)
      (λ e v w j. ((joins-within e v w).0 j).3)
      (λ v w m. (
        λ p. let j = (table v w).0 p.0 in (j.0, (j.1.0, (joins-within j.1.0 v w).1 (j.1.1, j.0, m, p.1))),
        λ j. let p = (joins-within j.1.0 v w).0 j.1.1 in ((table v w).1 (j.0, (j.1.0, p.0)), p.3),
      ))

-- ---- without a node

-- The table of N without c is that of the edges within the other nodes.
pub adjacency-without : (N : Network) → Bounded N → (adjacent : List ℕ) → Adjacency N adjacent → (c : ℕ) (others : List ℕ)
    → ((v w : ℕ) → (w ∈ get_or others v 0) ↔ ((w ∈ get_or adjacent v 0) × (v ≡ c → ⊥) × (w ≡ c → ⊥)))
    → Adjacency (only N (edges_within N ((2 ^ N.nodes - 1) ∖ 2 ^ c))) others
adjacency-without N B adjacent table c others rows v w =
    let u : ℕ = (2 ^ N.nodes - 1) ∖ 2 ^ c in (
      λ m.
          let p = (rows v w).0 m in
          let j = (table v w).0 p.0 in
          let e : ℕ = j.1.0 in
          let from = other v (B.ends e w v (joins-sym N e v w j.1.1)) p.1 in
          let to = other w (B.ends e v w j.1.1) p.2 in
          (j.0, (e, (joins-within N B u e v w).1 (j.1.1, j.0, from, to))),
      λ j.
          let p = (joins-within N B u j.1.0 v w).0 j.1.1 in
          (rows v w).1 (
            (table v w).1 (j.0, (j.1.0, p.0)),
            ((in-drop (2 ^ N.nodes - 1) c v).0 p.2).1,
            ((in-drop (2 ^ N.nodes - 1) c w).0 p.3).1,
          ),
    )
  where
    other : (x : ℕ) → x < N.nodes → (x ≡ c → ⊥) → x ∈ ((2 ^ N.nodes - 1) ∖ 2 ^ c)
    other x h n = (in-drop (2 ^ N.nodes - 1) c x).1 ((in_ones N.nodes x).1 h, n)
