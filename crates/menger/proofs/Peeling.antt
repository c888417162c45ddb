-- A flow of k units is peeled into k minpaths, no two of which share an edge.
-- Assumes that the edges have numbers below 64 and ends below the node count.
--
--   Back N F e u v       the edge e carries from v to u, two different nodes
--   Peeled N k F         k minpaths, no two of which share an edge, over edges that F does not leave idle
use mathlib.Core.Path.{◌≡◌, refl, sym, ap, ◌∙◌}
use mathlib.Core.Bool.{true, false}
use mathlib.Core.List.Memᴰ
use mathlib.Core.List.Pairwise
use mathlib.Core.List.{List, [], ◌∷◌, Memᴰ}
use mathlib.Core.Logic.{◌⊎◌, inl, inr, ◌≢◌, ∥∥₁_elim}
use mathlib.Core.HLevel.{¬_prop}
use Prim.Native.Nat.{ℕ, zero, suc, ◌+◌, ◌*◌}
use native.Mathlib.Nat.{suc-mul}
use native.Mathlib.Decide.{ℕ_discrete}
use native.Mathlib.Omega.{arith}
use lib.ListN.{length}
use Rattle.sequences.specs.Counts.{bit}
use Rattle.sequences.proofs.Counts.{bit-mono}
use Rattle.sequences.proofs.Sums.{sum_mono}
use Rattle.bitset.specs.Members.{has, ◌∈◌}
use Rattle.bitset.specs.Families.{Disjoint}
use Rattle.bitset.proofs.Subsets.{same_test}
use Rattle.bitset.proofs.Sets.{∈-dec}
use Rattle.network.specs.declared.Network.{Network}
use Rattle.graph.specs.Paths.{Joins, edges_of, Minpath}
use Rattle.graph.specs.Reach.{Bounded}
use Rattle.graph.proofs.Walks.{joins-sym}
use Rattle.menger.specs.Separate.{Apart}
use Rattle.menger.proofs.Ways.{Closure, Way, along-leads, along-edge, along-wider, closure}
use Rattle.menger.proofs.Flows.{Link, Idle, Joined, leaves, arrives, Flow, Free, Pushed, idle-dec, push}

pub record Back (N : Network) (F : ℕ → Link) (e u v : ℕ) : Type 0 where
  pub joins : Joins N e u v
  pub near : (F e).near ≡ v
  pub far : (F e).far ≡ u
  pub differ : u ≢ v

pub record Peeled (N : Network) (k : ℕ) (F : ℕ → Link) : Type 0 where
  pub ways : List ℕ
  pub apart : Apart N ways
  pub count : length ways ≡ k
  pub over : (r : ℕ) → Memᴰ r ways → (e : ℕ) → e ∈ r → Idle (F e) → ⊥

module _ (N : Network) (B : Bounded N) (F : ℕ → Link) where
  -- Of each edge it is decided whether it carries back.
  back-dec : (e u v : ℕ) → Joins N e u v → Dec (Back N F e u v)
  back-dec e u v j = go (ℕ_discrete (F e).near v) (ℕ_discrete (F e).far u) (ℕ_discrete u v)
    where
      go : Dec ((F e).near ≡ v) → Dec ((F e).far ≡ u) → Dec (u ≡ v) → Dec (Back N F e u v)
      go (yes a) (yes b) (no d) = yes (record { joins = j; near = a; far = b; differ = d })
      go (yes a) (yes b) (yes d) = no (λ k. k.differ d)
      go (yes a) (no b) d = no (λ k. b k.far)
      go (no a) b d = no (λ k. a k.near)

  -- The nodes from which the flow can be followed back to the sink.
  back-closure : Closure (Back N F) N.sink
  back-closure = closure N B (Back N F) (λ e u v k. k.joins) back-dec N.sink

  -- What is carried back is no idle edge.
  back-carries : (e u v : ℕ) → Back N F e u v → Idle (F e) → ⊥
  back-carries e u v k i = k.differ (sym k.far ∙ sym i ∙ k.near)

  -- If there is a unit at all, the source is one of them: else more would leave their set than arrive.
  source-back : (k : ℕ) → Flow N (suc k) F → N.source ∈ back-closure.set
  source-back k flow = go (∈-dec N.source s)
    where
      s : ℕ
      s = back-closure.set

      onward : (e : ℕ) → (F e).near ∈ s → (F e).far ∈ s
      onward e m = at (idle-dec (F e)) (flow.joined e)
        where
          at : Dec (Idle (F e)) → Idle (F e) ⊎ Joins N e (F e).near (F e).far → (F e).far ∈ s
          at (yes i) j = rw (← i) m
          at (no n) (inl i) = absurd (n i)
          at (no n) (inr j) =
              back-closure.closed e (F e).far (F e).near
              (record { joins = joins-sym N e (F e).near (F e).far j; near = refl; far = refl; differ = λ q. n (sym q) }) m

      go : Dec (N.source ∈ s) → N.source ∈ s
      go (yes m) = m
      go (no n) =
          let g : ℕ → ℕ = λ x. bit (has s x) in
          let one : g N.sink ≡ 1 = ap bit (same_test (has s N.sink) true (λ m. tt) (λ m. back-closure.target)) in
          let none : g N.source ≡ 0 = ap bit (same_test (has s N.source) false n absurd) in
          let balanced : arrives F g + suc k * 1 ≡ leaves F g + suc k * 0 = rw (one, none) at (flow.balanced g) in
          let more = sum_mono 64 (λ e. g (F e).near) (λ e. g (F e).far) (λ e h. bit-mono (has s (F e).near) (has s (F e).far) (onward e)) in
          absurd (omega (arith, balanced, more))

  -- So there is a minpath over edges that carry, and a flow of one unit less that leaves its edges idle.
  module _ (joined : Joined N F) (w : Way (Back N F) back-closure.set N.sink N.source) where
    way-minpath : Minpath N (edges_of w.steps)
    way-minpath = record {
      steps = w.steps;
      leads = along-leads N (Back N F) (λ e u v k. k.joins) w.steps N.source N.sink w.along;
      simple = w.simple;
      members = refl;
    }

    way-carries : (e : ℕ) → e ∈ edges_of w.steps → Idle (F e) → ⊥
    way-carries e m = let (x, (y, k)) = along-edge (Back N F) w.steps N.source N.sink e w.along m in back-carries e x y k

    way-pushed : Pushed N F N.source N.sink w.steps
    way-pushed =
        push N B F joined w.steps N.source N.sink
        (along-wider (Back N F) (Free N F) (λ e u v k. record { joins = k.joins; room = inr (k.near, k.far) }) w.steps N.source N.sink w.along)
        w.simple

module _ (N : Network) (B : Bounded N) where
  -- One minpath after the other is taken off the flow; those that follow go over edges that still carry, and so over none of its edges.
  pub peel : (k : ℕ) (F : ℕ → Link) → Flow N k F → Peeled N k F
  peel zero F flow = record {
    ways = [];
    apart = record { minpaths = λ r m. absurd (Memᴰ.not-nil m); disjoint = Pairwise.nil };
    count = refl;
    over = λ r m. absurd (Memᴰ.not-nil m);
  }
  peel (suc k) F flow = go ((back-closure N B F).ways N.source (source-back N B F k flow)) (peel k)
    where
      go : Way (Back N F) (back-closure N B F).set N.sink N.source → ((G : ℕ → Link) → Flow N k G → Peeled N k G) → Peeled N (suc k) F
      go w rest =
          let first : ℕ = edges_of w.steps in
          let pushed = way-pushed N B F flow.joined w in
          let left : Flow N k pushed.flow = record {
            joined = pushed.joined;
            balanced = λ g. omega (arith, pushed.moved g, flow.balanced g, suc-mul k (g N.sink), suc-mul k (g N.source));
          } in
          let others = rest pushed.flow left in
          let off : (r : ℕ) → Memᴰ r others.ways → (e : ℕ) → e ∈ r → e ∈ first → ⊥ =
          λ r m e i j. others.over r m e i (pushed.spent e j (way-carries N B F flow.joined w e j)) in
          let apart : (r : ℕ) → Memᴰ r others.ways → Disjoint first r = λ r m (e, (i, j)). off r m e j i in
          record {
            ways = first ∷ others.ways;
            apart = record {
              minpaths = λ r m. elim (Memᴰ.cases_cons m) [
                | inl q ↦ rw q (way-minpath N B F flow.joined w)
                | inr i ↦ others.apart.minpaths r i
              ];
              disjoint = Pairwise.cons (λ r m. ∥∥₁_elim m ¬_prop (apart r)) others.apart.disjoint;
            };
            count = ap suc others.count;
            over = λ r m e i. elim (Memᴰ.cases_cons m) [
              | inl q ↦ way-carries N B F flow.joined w e (rw q at i)
              | inr j ↦ rw (← pushed.kept e (off r j e i)) (others.over r j e i)
            ];
          }
