-- The reachable set is what it is to be: a round adds the neighbours, and the rounds end at the nodes connected to the start.
-- Assumes that the edges have numbers below 64 and ends below the node count.
--
--   Beside N s e v       the node v is joined by the edge e to a node of s
use mathlib.Core.Path.{◌≡◌, refl, sym}
use mathlib.Core.Bool.{Bool, true, false}
use mathlib.Core.List.Memᴰ
use mathlib.Core.List.{List, [], ◌∷◌, Memᴰ}
use mathlib.Core.Logic.Dec
use mathlib.Core.Logic.{◌⊎◌, inl, inr, ⊎_map, ◌↔◌}
use Prim.Native.Nat.{ℕ, zero, suc, ◌+◌, ◌^◌, ◌≤◌, ◌<◌}
use native.Mathlib.Nat.{lt_of_le_of_lt}
use native.Mathlib.Decide.{dec_lt}
use native.Mathlib.Omega.{arith}
use borrow.Author.Tests.{eq-eqb, eqb-true}
use denote.Floats.{is_true}
use lib.Dec.{eqb}
use Rattle.bitset.specs.Members.{has, ◌⊆◌, add_if, size, ◌∈◌}
use Rattle.bitset.proofs.Subsets.{⊆-antisym, same_test, subset-le}
use Rattle.bitset.proofs.Size.{size-le, size-lt}
use Rattle.bitset.proofs.Sets.{∈-dec, in-add_if, in-single, member-lt}
use Rattle.bitset.proofs.MemberList.{in_members}
use Rattle.network.specs.declared.Network.{Network}
use Rattle.network.specs.Record.{first_end, second_end, present}
use Rattle.graph.specs.Paths.{Joins, Hop, Leads, Connected}
use Rattle.graph.specs.Cuts.{only}
use Rattle.graph.specs.Reach.{Bounded, across, edge_list, round_over, rounds, round, reach_of, Closed}

-- ---- a round

-- The node v is joined by the edge e to a node of s.
abbrev pub Beside : Network → ℕ → ℕ → ℕ → Type 0
Beside N s e v = (u : ℕ) × ((u ∈ s) × Joins N e u v)

module _ (N : Network) (s : ℕ) where
  -- Over a present edge come the nodes that it joins to nodes of s.
  pub in-across : (k : ℕ) → k ∈ present N → (t v : ℕ) → (v ∈ across N s k t) ↔ ((v ∈ t) ⊎ Beside N s k v)
  unfolding across Joins
  in-across k there t v =
      let a : ℕ = first_end N k in
      let b : ℕ = second_end N k in (
        λ m. elim ((in-add_if (has s a) (add_if (has s b) t a) b v).0 m) [
          | inl n ↦ ⊎_map (λ l. l) (λ q. (b, (q.0, (there, inr (sym q.1, refl))))) ((in-add_if (has s b) t a v).0 n)
          | inr q ↦ inr (a, (q.0, (there, inl (refl, sym q.1))))
        ],
        λ c. (in-add_if (has s a) (add_if (has s b) t a) b v).1 (elim c [
          | inl l ↦ inl ((in-add_if (has s b) t a v).1 (inl l))
          | inr j ↦ elim j.1.1.1 [
            | inl q ↦ inr (rw q.0 j.1.0, sym q.1)
            | inr q ↦ inl ((in-add_if (has s b) t a v).1 (inr (rw q.1 j.1.0, sym q.0)))
          ]
        ]),
      )

  -- A round over a list of present edges adds the nodes that one of them joins to nodes of s.
  in-round_over : (l : List ℕ) → ((k : ℕ) → Memᴰ k l → k ∈ present N)
      → (v : ℕ) → (v ∈ round_over N l s) ↔ ((v ∈ s) ⊎ ((e : ℕ) × (Memᴰ e l × Beside N s e v)))
  unfolding round_over
  in-round_over [] there v = (λ m. inl m, λ c. elim c [ inl m ↦ m | inr j ↦ absurd (Memᴰ.not-nil j.1.0) ])
  in-round_over (k ∷ l) there v =
      let first = in-across k (there k (Memᴰ.head refl)) (round_over N l s) v in
      let rest = in-round_over l (λ e m. there e (Memᴰ.tail m)) v in (
        λ m. elim (first.0 m) [
          | inl n ↦ ⊎_map (λ q. q) (λ j. (j.0, (Memᴰ.tail j.1.0, j.1.1))) (rest.0 n)
          | inr j ↦ inr (k, (Memᴰ.head refl, j))
        ],
        λ c. first.1 (elim c [
          | inl n ↦ inl (rest.1 (inl n))
          | inr j ↦ elim (Memᴰ.cases_cons j.1.0) [
            | inl q ↦ inr (rw q at j.1.1)
            | inr m ↦ inl (rest.1 (inr (j.0, (m, j.1.1))))
          ]
        ]),
      )

module _ (N : Network) (small : present N < 2 ^ 64) where
  -- A round adds exactly the nodes that an edge joins to nodes of the set.
  pub in-round : (s v : ℕ) → (v ∈ round N s) ↔ ((v ∈ s) ⊎ ((e : ℕ) × Beside N s e v))
  unfolding Joins
  in-round s v =
      let listed = in_members 64 (present N) in
      let over = in-round_over N s (edge_list N) (λ e m. ((listed e).0 m).0) v in
      let list : (e : ℕ) → e ∈ present N → Memᴰ e (edge_list N) =
      λ e m. (listed e).1 (m, member-lt 64 (present N) e small m) in (
        λ m. ⊎_map (λ n. n) (λ j. (j.0, j.1.1)) (over.0 m),
        λ c. over.1 (⊎_map (λ n. n) (λ j. (j.0, (list j.0 j.1.1.1.0, j.1))) c),
      )

  -- A set is part of its round.
  pub round-grows : (s : ℕ) → s ⊆ round N s
  round-grows s v m = (in-round s v).1 (inl m)

-- A walk does not leave a closed set.
pub closed-walk : (N : Network) (s : ℕ) → Closed N s → (p : List Hop) (u v : ℕ) → Leads N u p v → u ∈ s → v ∈ s
unfolding Leads
closed-walk N s c [] u v h m = rw (← h) m
closed-walk N s c (t ∷ p) u v h m = closed-walk N s c p t.to v h.1 (c t.edge u t.to h.0 m)

module _ (N : Network) (B : Bounded N) where
  -- A larger set has a larger round.
  pub round_mono : (s t : ℕ) → s ⊆ t → round N s ⊆ round N t
  round_mono s t h v m = (in-round N B.edges t v).1 (elim ((in-round N B.edges s v).0 m) [
    | inl n ↦ inl (h v n)
    | inr j ↦ inr (j.0, (j.1.0, (h j.1.0 j.1.1.0, j.1.1.1)))
  ])

  -- A round adds nothing exactly if the set is closed.
  pub round-closed : (s : ℕ) → (round N s ≡ s) ↔ Closed N s
  round-closed s = (
    λ fixed e u v j m. rw fixed at ((in-round N B.edges s v).1 (inr (e, (u, (m, j))))),
    λ c. ⊆-antisym (round N s) s (λ v m. elim ((in-round N B.edges s v).0 m) [
      | inl n ↦ n
      | inr j ↦ c j.0 j.1.0 v j.1.1.1 j.1.1.0
    ]) (round-grows N B.edges s),
  )

  -- ---- the rounds

  -- No round adds anything to a set to which one adds nothing.
  rounds-fixed : (n s : ℕ) → round N s ≡ s → rounds N (edge_list N) n s ≡ s
  unfolding rounds
  rounds-fixed zero s fixed = refl
  rounds-fixed (suc n) s fixed = rw (eq-eqb (round N s) s fixed, rounds)

  -- One more round is a round and then the others: to stop early changes nothing.
  rounds-suc : (n s : ℕ) → rounds N (edge_list N) (suc n) s ≡ rounds N (edge_list N) n (round N s)
  unfolding rounds
  rounds-suc n s = go (eqb (round N s) s) refl
    where
      go : (b : Bool) → eqb (round N s) s ≡ b
          → elim b [ true ↦ s | false ↦ rounds N (edge_list N) n (round N s) ] ≡ rounds N (edge_list N) n (round N s)
      go true e = let fixed = eqb-true (round N s) s e in rw (fixed, rounds-fixed n s fixed)
      go false e = refl

  -- The start is part of what the rounds end at.
  rounds-start : (n s : ℕ) → s ⊆ rounds N (edge_list N) n s
  unfolding rounds
  rounds-start zero s v m = m
  rounds-start (suc n) s v m = rw (rounds-suc n s) (rounds-start n (round N s) v (round-grows N B.edges s v m))

  -- The rounds add connected nodes alone.
  rounds-connected : (n s v : ℕ) → v ∈ rounds N (edge_list N) n s → (u : ℕ) × ((u ∈ s) × Connected N u v)
  unfolding rounds Leads
  rounds-connected zero s v m = (v, (m, ([], refl)))
  rounds-connected (suc n) s v m =
      let r = rounds-connected n (round N s) v (rw (rounds-suc n s) at m) in
      elim ((in-round N B.edges s r.0).0 r.1.0) [
        | inl k ↦ (r.0, (k, r.1.1))
        | inr j ↦ (j.1.0, (j.1.1.0, (record { edge = j.0; to = r.0 } ∷ r.1.1.0, (j.1.1.1, r.1.1.1))))
      ]

  -- A set whose round has no more members below the node count is closed.
  settled : (s : ℕ) → (size N.nodes s < size N.nodes (round N s) → ⊥) → Closed N s
  settled s full e u v j m = (Dec.not-not (∈-dec v s)).0 (λ n.
      let added = is_true (has (round N s) v) ((in-round N B.edges s v).1 (inr (e, (u, (m, j))))) in
      full (size-lt N.nodes s (round N s) v (round-grows N B.edges s) (B.ends e u v j) added (same_test (has s v) false n absurd)))

  -- With as many rounds as nodes are missing, the rounds end at a closed set.
  rounds-closed : (n s : ℕ) → N.nodes ≤ n + size N.nodes s → Closed N (rounds N (edge_list N) n s)
  unfolding rounds
  rounds-closed zero s h = settled s (λ l. omega (arith, size-le N.nodes (round N s)))
  rounds-closed (suc n) s h = go (dec_lt (size N.nodes s) (size N.nodes (round N s))) (rounds-closed n (round N s))
    where
      go : Dec (size N.nodes s < size N.nodes (round N s))
          → (N.nodes ≤ n + size N.nodes (round N s) → Closed N (rounds N (edge_list N) n (round N s)))
          → Closed N (rounds N (edge_list N) (suc n) s)
      go (yes l) more = rw (rounds-suc n s) (more (omega arith))
      go (no l) more = rw (rounds-fixed (suc n) s ((round-closed s).1 (settled s l))) (settled s l)

  -- ---- the reachable set

  -- The start is reachable.
  pub reach-start : (s : ℕ) → s ⊆ reach_of N s
  unfolding reach_of
  reach-start s = rounds-start N.nodes s

  -- No edge leads out of the reachable set.
  pub reach-closed : (s : ℕ) → Closed N (reach_of N s)
  unfolding reach_of
  reach-closed s = rounds-closed N.nodes s (omega arith)

  -- The reachable nodes are exactly those that some node of the start is connected to.
  pub in_reach : (s v : ℕ) → (v ∈ reach_of N s) ↔ ((u : ℕ) × ((u ∈ s) × Connected N u v))
  unfolding reach_of
  in_reach s v = (
    rounds-connected N.nodes s v,
    λ c. closed-walk N (reach_of N s) (reach-closed s) c.1.1.0 c.0 v c.1.1.1 (reach-start s c.0 c.1.0),
  )

  -- Every closed set that holds the start holds all that is reachable.
  pub reach-least : (s t : ℕ) → s ⊆ t → Closed N t → reach_of N s ⊆ t
  reach-least s t h c v m =
      let w = (in_reach s v).0 m in
      closed-walk N t c w.1.1.0 w.0 v w.1.1.1 (h w.0 w.1.0)

  -- From one node, the reachable nodes are those that it is connected to.
  pub in-reach-single : (u v : ℕ) → (v ∈ reach_of N (2 ^ u)) ↔ Connected N u v
  in-reach-single u v = (
    λ m. let w = (in_reach (2 ^ u) v).0 m in rw ((in-single u w.0).0 w.1.0) at w.1.1,
    λ c. (in_reach (2 ^ u) v).1 (u, ((in-single u u).1 refl, c)),
  )

-- A network with fewer edges stays within the same bounds.
pub bounded-only : (N : Network) → Bounded N → (h : ℕ) → h ⊆ present N → Bounded (only N h)
unfolding only Joins
bounded-only N B h l = record {
  edges = lt_of_le_of_lt (subset-le h (present N) l) B.edges;
  ends = λ e u v j. B.ends e u v (l e j.0, j.1);
}
