-- The largest flow: a unit more is pushed from the sink to the source while there is a free way. Where there is none, the nodes that have a
-- free way to the source do not hold the sink, and the edges that leave them are a cut with as many members as the flow has units.
-- Assumes what the record test says.
--
--   crossing N s         the present edges with exactly one end in s
--   Full N k             a flow of k units, and a cut of k edges
use mathlib.Core.Path.{◌≡◌, refl, sym, ap, ◌∙◌}
use mathlib.Core.Bool.{Bool, true, false}
use mathlib.Core.Logic.{◌⊎◌, inl, inr, ◌↔◌}
use Prim.Native.Nat.{ℕ, zero, suc, ◌+◌, ◌*◌, ◌≤◌}
use native.Mathlib.Nat.{suc-mul}
use native.Mathlib.Decide.{ℕ_discrete}
use native.Mathlib.Omega.{arith}
use borrow.Author.Tests.{eq-eqb, ne_eqb}
use lib.Dec.{T, eqb}
use Rattle.sequences.specs.Counts.{bit, sum_below}
use Rattle.sequences.proofs.Counts.{bit-mono}
use Rattle.sequences.proofs.Sums.{sum_same, sum_ones, sum-plus}
use Rattle.bitset.specs.Members.{has, ◌∈◌, ◌⊆◌, size}
use Rattle.bitset.proofs.Subsets.{⊆-refl, same_test}
use Rattle.bitset.proofs.Size.{size-sum}
use Rattle.bitset.proofs.Sets.{∈-dec, in-minus}
use Rattle.network.specs.declared.Network.{Network}
use Rattle.network.specs.Record.{present, first_end, second_end}
use Rattle.graph.specs.Paths.{Joins}
use Rattle.graph.specs.Cuts.{only, without, Cut}
use Rattle.graph.specs.Reach.{Bounded, Closed}
use Rattle.graph.specs.Relevant.{crossing_of}
use Rattle.graph.proofs.Walks.{joins-sym, joins-other, joins-ends}
use Rattle.graph.proofs.Reach.{closed-walk}
use Rattle.graph.proofs.Cuts.{cut-connected}
use Rattle.graph.proofs.Sound.{Sound}
use Rattle.graph.proofs.EdgeSets.{joins-stored, in-crossing_of}
use Rattle.menger.proofs.Ways.{Closure, closure}
use Rattle.menger.proofs.Flows.{Link, Idle, Joined, leaves, arrives, Flow, Free, idle-dec, push}

abbrev pub crossing : Network → ℕ → ℕ
crossing N s = crossing_of N (present N) s

pub record Full (N : Network) (k : ℕ) : Type 0 where
  pub flow : ℕ → Link
  pub is-flow : Flow N k flow
  pub edges : ℕ
  pub is_cut : Cut N edges
  pub count : size 64 edges ≡ k

-- ---- edges that cross

module _ (N : Network) (B : Bounded N) (s : ℕ) where
  -- An edge crosses exactly if one of its ends is in the set and the other is not.
  in-crossing : (e u v : ℕ) → Joins N e u v → (e ∈ crossing N s) ↔ (((u ∈ s) × (v ∈ s → ⊥)) ⊎ ((v ∈ s) × (u ∈ s → ⊥)))
  unfolding Joins
  in-crossing e u v j =
      let test = in-crossing_of N B (present N) (⊆-refl (present N)) s e in (
        λ m.
            let k = (test.0 m).1 in
            elim (joins-ends N e u v k.near k.far j k.joins) [
              | inl q ↦ inl (rw (← q) k.near-in, rw (joins-other N e u v k.far j (rw q at k.joins)) k.far-out)
              | inr q ↦ inr (rw (← q) k.near-in, rw (joins-other N e v u k.far (joins-sym N e u v j) (rw q at k.joins)) k.far-out)
            ],
        λ c. test.1 (
          j.0,
          elim c [
            | inl k ↦ record { near = u; far = v; joins = j; near-in = k.0; far-out = k.1 }
            | inr k ↦ record { near = v; far = u; joins = joins-sym N e u v j; near-in = k.0; far-out = k.1 }
          ],
        ),
      )

  -- Only present edges cross.
  crossing-present : crossing N s ⊆ present N
  crossing-present e m = ((in-crossing_of N B (present N) (⊆-refl (present N)) s e).0 m).0

  -- Without the edges that cross no walk leaves the set.
  crossing-closed : Closed (without N (crossing N s)) s
  unfolding only Joins
  crossing-closed e u v j m = go (∈-dec v s)
    where
      go : Dec (v ∈ s) → v ∈ s
      go (yes i) = i
      go (no n) =
          let (there, off) = (in-minus (present N) (crossing N s) e).0 j.0 in
          absurd (off ((in-crossing e u v (there, j.1)).1 (inl (m, n))))

  -- So where they part source and sink they are a cut.
  crossing-cut : N.source ∈ s → (N.sink ∈ s → ⊥) → Cut N (crossing N s)
  crossing-cut source sink =
      (cut-connected N (crossing N s)).1
      (crossing-present, λ w. sink (closed-walk (without N (crossing N s)) s crossing-closed w.0 N.source N.sink w.1 source))

-- ---- a flow with no free way left

module _ (N : Network) (B : Bounded N) (F : ℕ → Link) where
  -- Of each edge it is decided whether a unit can pass it.
  free-dec : (e u v : ℕ) → Joins N e u v → Dec (Free N F e u v)
  free-dec e u v j = go (idle-dec (F e)) (ℕ_discrete (F e).near v) (ℕ_discrete (F e).far u)
    where
      go : Dec (Idle (F e)) → Dec ((F e).near ≡ v) → Dec ((F e).far ≡ u) → Dec (Free N F e u v)
      go (yes i) a b = yes (record { joins = j; room = inl i })
      go (no n) (yes a) (yes b) = yes (record { joins = j; room = inr (a, b) })
      go (no n) (yes a) (no b) = no (λ f. elim f.room [ inl i ↦ n i | inr k ↦ b k.1 ])
      go (no n) (no a) b = no (λ f. elim f.room [ inl i ↦ n i | inr k ↦ a k.0 ])

  -- The nodes that have a free way to the source.
  free-closure : Closure (Free N F) N.source
  free-closure = closure N B (Free N F) (λ e u v f. f.joins) free-dec N.source

  module _ (joined : Joined N F) (s : ℕ) (closed : (e u v : ℕ) → Free N F e u v → v ∈ s → u ∈ s) where
    -- An idle edge could be passed either way, so it does not cross.
    idle-inside : (e : ℕ) → Idle (F e) → e ∈ crossing N s → ⊥
    idle-inside e i m =
        let j = joins-stored N e (crossing-present N B s e m) in
        let there = closed e (first_end N e) (second_end N e) (record { joins = j; room = inl i }) in
        let back = closed e (second_end N e) (first_end N e) (record { joins = joins-sym N e (first_end N e) (second_end N e) j; room = inl i }) in
        elim ((in-crossing N B s e (first_end N e) (second_end N e) j).0 m) [ inl c ↦ c.1 (back c.0) | inr c ↦ c.1 (there c.0) ]

    -- What an edge carries out of the set could be taken back, so an edge that crosses carries into the set, and no other does.
    carries-in : (e : ℕ) → bit (has s (F e).far) ≡ bit (has s (F e).near) + bit (has (crossing N s) e)
    carries-in e = go (joined e)
      where
        count : (a b c : Bool) → (T a → T b) → (T c ↔ ((T a × (T b → ⊥)) ⊎ (T b × (T a → ⊥)))) → bit b ≡ bit a + bit c
        count true true true f x = absurd (elim (x.0 tt) [ inl k ↦ k.1 tt | inr k ↦ k.1 tt ])
        count true true false f x = refl
        count true false c f x = absurd (f tt)
        count false true true f x = refl
        count false true false f x = absurd (x.1 (inr (tt, λ z. z)))
        count false false true f x = absurd (elim (x.0 tt) [ inl k ↦ k.0 | inr k ↦ k.0 ])
        count false false false f x = refl

        go : Idle (F e) ⊎ Joins N e (F e).near (F e).far → bit (has s (F e).far) ≡ bit (has s (F e).near) + bit (has (crossing N s) e)
        go (inl i) = rw (← i, same_test (has (crossing N s) e) false (idle-inside e i) absurd) (omega arith)
        go (inr j) =
            count (has s (F e).near) (has s (F e).far) (has (crossing N s) e)
            (closed e (F e).far (F e).near (record { joins = joins-sym N e (F e).near (F e).far j; room = inr (refl, refl) }))
            (in-crossing N B s e (F e).near (F e).far j)

    -- So where the set parts source and sink, as many edges cross as there are units.
    crossing-count : (k : ℕ) → Flow N k F → N.source ∈ s → (N.sink ∈ s → ⊥) → size 64 (crossing N s) ≡ k
    crossing-count k flow source sink =
        let g : ℕ → ℕ = λ x. bit (has s x) in
        let c : ℕ = crossing N s in
        let into : arrives F g ≡ leaves F g + sum_below 64 (λ e. bit (has c e)) =
        sum_same 64 (λ e. g (F e).far) (λ e. g (F e).near + bit (has c e)) (λ e h. carries-in e)
        ∙ sum-plus 64 (λ e. g (F e).near) (λ e. bit (has c e)) in
        let one : g N.source ≡ 1 = ap bit (same_test (has s N.source) true (λ m. tt) (λ m. source)) in
        let none : g N.sink ≡ 0 = ap bit (same_test (has s N.sink) false sink absurd) in
        let balanced : arrives F g + k * 0 ≡ leaves F g + k * 1 = rw (one, none) at (flow.balanced g) in
        omega (arith, size-sum 64 c, into, balanced)

-- ---- one unit more, until none can be pushed

module _ (N : Network) (S : Sound N) where
  -- No flow is larger than there are edges: its units arrive at the source by different ones.
  flow-small : (k : ℕ) (F : ℕ → Link) → Flow N k F → k ≤ 64
  flow-small k F flow =
      let g : ℕ → ℕ = λ x. bit (eqb x N.source) in
      let one : g N.source ≡ 1 = ap bit (eq-eqb N.source N.source refl) in
      let none : g N.sink ≡ 0 = ap bit (ne_eqb N.sink N.source (λ e. S.differ (sym e))) in
      let balanced : arrives F g + k * 0 ≡ leaves F g + k * 1 = rw (one, none) at (flow.balanced g) in
      omega (arith, balanced, sum_ones 64 (λ e. g (F e).far) (λ e h. bit-mono (eqb (F e).far N.source) true (λ t. tt)))

  -- A free way from the sink to the source makes a flow of one unit more.
  augmented : (k : ℕ) (F : ℕ → Link) → Flow N k F → (C : Closure (Free N F) N.source) → N.sink ∈ C.set → (G : ℕ → Link) × Flow N (suc k) G
  augmented k F flow C m =
      let w = C.ways N.sink m in
      let r = push N S.bounded F flow.joined w.steps N.sink N.source w.along w.simple in (
        r.flow,
        record {
          joined = r.joined;
          balanced = λ g. omega (arith, r.moved g, flow.balanced g, suc-mul k (g N.sink), suc-mul k (g N.source));
        },
      )

  -- With as many tries as units can be missing, the flow becomes full.
  fill : (n k : ℕ) → 65 ≤ n + k → (F : ℕ → Link) → Flow N k F → (j : ℕ) × Full N j
  fill zero k h F flow = absurd (omega (arith, flow-small k F flow))
  fill (suc n) k h F flow = go (fill n) (free-closure N S.bounded F)
    where
      try : ((i : ℕ) → 65 ≤ n + i → (G : ℕ → Link) → Flow N i G → (j : ℕ) × Full N j)
          → (C : Closure (Free N F) N.source) → Dec (N.sink ∈ C.set) → (j : ℕ) × Full N j
      try more C (yes m) = let (G, larger) = augmented k F flow C m in more (suc k) (omega arith) G larger
      try more C (no n) = (
        k,
        record {
          flow = F;
          is-flow = flow;
          edges = crossing N C.set;
          is_cut = crossing-cut N S.bounded C.set C.target n;
          count = crossing-count N S.bounded F flow.joined C.set C.closed k flow C.target n;
        },
      )

      go : ((i : ℕ) → 65 ≤ n + i → (G : ℕ → Link) → Flow N i G → (j : ℕ) × Full N j) → Closure (Free N F) N.source → (j : ℕ) × Full N j
      go more C = try more C (∈-dec N.sink C.set)

  -- Some flow is full: the one that carries nothing is filled.
  pub full : (j : ℕ) × Full N j
  full = fill 65 0 (omega arith) (λ e. record { near = 0; far = 0 }) (record { joined = λ e. inl refl; balanced = λ g. omega arith })
