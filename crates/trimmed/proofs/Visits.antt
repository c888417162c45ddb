-- A depth-first visit, branch by branch: what is found past each node, and what hangs on one node alone.
-- Assumes a table in which each node is adjacent to those that are adjacent to it.
--
--   Visiting adjacent before v visited beside     a visit of v is under way: it has found the visited nodes, and misses none that is adjacent to a
--                            new one but v; of the nodes before, those adjacent to a new one are beside
use mathlib.Core.Path.{◌≡◌, refl, sym, ◌∙◌}
use mathlib.Core.Bool.{Bool, false, not, ◌&&◌}
use mathlib.Core.List.{List}
use mathlib.Core.Logic
use mathlib.Core.Logic.{◌⊎◌, inl, inr, ◌↔◌}
use Prim.Native.Nat.{ℕ, ◌-◌, ◌^◌, ◌<◌}
use native.Mathlib.Decide.{ℕ_discrete}
use denote.Floats.{is_true, passes}
use lib.Dec.{T, eqb}
use lib.ListN.{get_or}
use Rattle.sequences.proofs.Tests.{T-dec, T_not}
use Rattle.bitset.specs.Members.{has, insert, ◌∈◌, ◌⊆◌, ◌∖◌, Lowest}
use Rattle.bitset.proofs.Subsets.{subset-lt, same_test}
use Rattle.bitset.proofs.Sets.{not-zero, in_insert, in-minus, in-or-minus, minus-steps, insert-minus, in-single, in_ones, empty-or-member}
use Rattle.bitset.proofs.Results.{in_without, in-difference}
use Rattle.spread.specs.Spread.{AdjacentTo}
use Rattle.adjacency.specs.Adjacency.{Mutual}
use Rattle.trimmed.specs.Visits.{ClosedBut, Reaches, Found, Visited, Hanging, VisitEnds}

-- A visit of v is under way: it has found the visited nodes, and misses none that is adjacent to a new one but v; of the nodes before,
-- those adjacent to a new one are beside.
pub record Visiting (adjacent : List ℕ) (before v visited beside : ℕ) : Type 0 where
  pub found : Found adjacent before v visited
  pub closed : (u w : ℕ) → u ∈ (visited ∖ before) → (u ≡ v → ⊥) → w ∈ get_or adjacent u 0 → w ∈ visited
  pub besides : (w : ℕ) → w ∈ before → (w ∈ beside) ↔ AdjacentTo adjacent (visited ∖ before) w

-- ---- the next node

-- The lowest of the fresh nodes, if there is one, is of the row and not visited.
pub next-fresh : (w row visited fresh k : ℕ) → ((j : ℕ) → has fresh j ≡ has row j && not (has visited j)) → Lowest w fresh k → k < w
    → (k ∈ row) × (k ∈ visited → ⊥)
next-fresh w row visited fresh k is-fresh low h = (in-difference row visited fresh is-fresh k).0 (passes (has fresh k) (low.member h))

-- ---- ways back

module _ (ways v others : ℕ) (drops : (j : ℕ) → has others j ≡ has ways j && not (eqb j v)) where
  -- Where no other way back is left, each is v.
  pub no_other : others ≡ 0 → (x : ℕ) → x ∈ ways → x ≡ v
  no_other none x m = (Logic.Dec.not-not (ℕ_discrete x v)).0 (λ n. not-zero x (rw none at ((in_without ways v others drops x).1 (m, n))))

  -- Else there is another.
  pub some-other : (others ≡ 0 → ⊥) → (x : ℕ) × ((x ∈ ways) × (x ≡ v → ⊥))
  some-other some = elim (empty-or-member others) [ inl e ↦ absurd (some e) | inr k ↦ (k.0, (in_without ways v others drops k.0).0 k.1) ]

-- ---- what is reached

-- Of the nodes that there can be, fewer are left once some were found.
pub found-fewer : (adjacent : List ℕ) (n before v after : ℕ) → Found adjacent before v after → v < n → ((2 ^ n - 1) ∖ after) < ((2 ^ n - 1) ∖ before)
found-fewer adjacent n before v after f h =
    let all : ℕ = 2 ^ n - 1 in
    let p = (in-minus after before v).0 f.visits in
    subset-lt (all ∖ after) (all ∖ before) v
    (λ w m. let q = (in-minus all after w).0 m in (in-minus all before w).1 (q.0, λ i. q.1 (f.keeps w i)))
    (is_true (has (all ∖ before) v) ((in-minus all before v).1 ((in_ones n v).1 h, p.1)))
    (same_test (has (all ∖ after) v) false (λ m. ((in-minus all after v).0 m).1 p.0) absurd)

-- A test that passes w passes the set of w alone.
single-passes : (r : ℕ → Bool) (c w : ℕ) → ((w ≡ c → ⊥) → T (r w)) → (x : ℕ) → x ∈ 2 ^ w → (x ≡ c → ⊥) → T (r x)
single-passes r c w p x m ne = let e = (in-single w x).0 m in rw e (p (λ d. ne (e ∙ d)))

module _ (adjacent : List ℕ) (back : Mutual adjacent) where
  -- What a closed test does not pass is closed too.
  outside-closed : (c : ℕ) (r : ℕ → Bool) → ClosedBut adjacent c r → ClosedBut adjacent c (λ w. not (r w))
  outside-closed c r closed u w m ne i ne' = (T_not (r w)).1 (λ k. (T_not (r u)).0 m (closed w u k ne' (back u w i) ne))

  -- A branch: from v, w is visited.
  module _ (before v visited w after : ℕ) (one : Found adjacent before v visited) (two : Found adjacent visited w after)
      (step : w ∈ get_or adjacent v 0) where
    -- What is new with the branch was new before or is the branch's own.
    new : (u : ℕ) → (u ∈ (after ∖ before)) ↔ ((u ∈ (visited ∖ before)) ⊎ (u ∈ (after ∖ visited)))
    new = minus-steps before visited after one.keeps two.keeps

    -- What the branch has found differs from what was visited.
    differ : (x y : ℕ) → x ∈ visited → y ∈ (after ∖ visited) → y ≡ x → ⊥
    differ x y m n e = ((in-minus after visited y).0 n).1 (rw e m)

    -- The visit has v itself.
    seen : v ∈ visited
    seen = ((in-minus visited before v).0 one.visits).0

    -- Past an older node: v reaches what it had found, and over w what the branch has found.
    branch-past-others : (c : ℕ) → (c ∈ (after ∖ before) → ⊥) → Reaches adjacent c (2 ^ v) (after ∖ before)
    branch-past-others c off r closed holds u m ne =
        let other : v ≡ c → ⊥ = λ e. off ((new c).1 (inl (rw e at one.visits))) in
        elim ((new u).0 m) [
          | inl k ↦ one.past-others c (λ n. off ((new c).1 (inl n))) r closed holds u k ne
          | inr k ↦
              two.past-others c (λ n. off ((new c).1 (inr n))) r closed
              (single-passes r c w (closed v w (holds v ((in-single v v).1 refl) other) other step)) u k ne
        ]

    -- Past a node that the branch has found: v reaches what it had found, and from all that the branch reaches the rest.
    branch-past-new : (c : ℕ) → c ∈ (after ∖ visited) → Reaches adjacent c (insert before v) (after ∖ before)
    branch-past-new c here r closed holds u m ne =
        let other : (k : ℕ) → k ∈ visited → k ≡ c → ⊥ = λ k i e. differ k c i here (sym e) in
        let at : T (r v) = holds v ((in_insert before v v).1 (inr refl)) (other v seen) in
        let earlier =
        one.past-others c (λ n. differ c c ((in-minus visited before c).0 n).0 here refl) r closed (single-passes r c v (λ d. at)) in
        let held : (k : ℕ) → k ∈ insert visited w → (k ≡ c → ⊥) → T (r k) =
        λ k i ne'. elim ((in_insert visited w k).0 i) [
          | inl j ↦ elim (in-or-minus before visited k j) [ inl b ↦ holds k ((in_insert before v k).1 (inl b)) ne' | inr o ↦ earlier k o ne' ]
          | inr e ↦ rw e (closed v w at (other v seen) step (λ d. ne' (e ∙ d)))
        ] in
        elim ((new u).0 m) [ inl k ↦ earlier u k ne | inr k ↦ two.past-own c here r closed held u k ne ]

    -- Past a node that v had found, over another way than v: from x, which was visited, to y, which the branch has found, and so to w.
    way-round : (c x y : ℕ) → c ∈ visited → (x ≡ c → ⊥) → y ∈ (after ∖ visited) → x ∈ get_or adjacent y 0
        → (r : ℕ → Bool) → ClosedBut adjacent c r → T (r x) → T (r w)
    way-round c x y there ne own i r closed m =
        let other : y ≡ c → ⊥ = differ c y there own in
        let reached : T (r y) = closed x y m ne (back y x i) other in
        let off : c ∈ (after ∖ visited) → ⊥ = λ n. differ c c there n refl in
        (Logic.Dec.not-not (T-dec (r w))).0 (λ n.
        (T_not (r y)).0
        (two.past-others c off (λ k. not (r k)) (outside-closed c r closed) (single-passes (λ k. not (r k)) c w (λ d. (T_not (r w)).1 n)) y own other)
        reached)

    -- There is such a way.
    module _ (x : ℕ) (old : x ∈ visited) (apart : x ≡ v → ⊥) (beside : AdjacentTo adjacent (after ∖ visited) x) where
      -- Past a node that v had found: w is reached over v, and past v by the other way.
      branch-past-found : (c : ℕ) → c ∈ (visited ∖ before) → Reaches adjacent c (insert before v) (after ∖ before)
      branch-past-found c here r closed holds u m ne =
          let there : c ∈ visited = ((in-minus visited before c).0 here).0 in
          let earlier = one.past-own c here r closed holds in
          let held : (k : ℕ) → k ∈ visited → (k ≡ c → ⊥) → T (r k) =
          λ k i other. elim (in-or-minus before visited k i) [ inl b ↦ holds k ((in_insert before v k).1 (inl b)) other | inr o ↦ earlier k o other ] in
          let reached : Dec (v ≡ c) → (w ≡ c → ⊥) → T (r w) =
          λ d other. elim d [
            | yes e ↦
                let ne' : x ≡ c → ⊥ = λ q. apart (q ∙ sym e) in
                way-round c x beside.0 there ne' beside.1.0 beside.1.1 r closed (held x old ne')
            | no n ↦ closed v w (held v seen n) n step other
          ] in
          elim ((new u).0 m) [
            | inl k ↦ earlier u k ne
            | inr k ↦
                two.past-others c (λ n. differ c c there n refl) r closed (single-passes r c w (reached (ℕ_discrete v c))) u k ne
          ]

      -- So a branch that has another way back is found with v.
      found-branch : Found adjacent before v after
      found-branch = record {
        keeps = λ u m. two.keeps u (one.keeps u m);
        visits = (new v).1 (inl one.visits);
        past-others = branch-past-others;
        past-own = λ c m. elim ((new c).0 m) [ inl i ↦ branch-past-found c i | inr i ↦ branch-past-new c i ];
      }

  -- ---- turns of a visit

  -- At first v alone is visited, and beside it stand the nodes of its row.
  pub visiting-first : (before v : ℕ) → (v ∈ before → ⊥) → Visiting adjacent before v (insert before v) (get_or adjacent v 0)
  visiting-first before v off =
      let one = insert-minus before v off in
      record {
        found = record {
          keeps = λ u m. (in_insert before v u).1 (inl m);
          visits = (one v).1 refl;
          past-others = λ c n r closed holds u m ne. holds u ((in-single v u).1 ((one u).0 m)) ne;
          past-own = λ c n r closed holds u m ne. holds u ((in_insert before v u).1 (inr ((one u).0 m))) ne;
        };
        closed = λ u w m ne. absurd (ne ((one u).0 m));
        besides = λ w m. (λ i. (v, ((one v).1 refl, i)), λ a. rw ((one a.0).0 a.1.0) at a.1.1);
      }

  module _ (before v visited beside : ℕ) (s : Visiting adjacent before v visited beside) where
    -- The nodes before and v are visited.
    started : insert before v ⊆ visited
    started u m = elim ((in_insert before v u).0 m) [
      | inl i ↦ s.found.keeps u i
      | inr e ↦ rw e ((in-minus visited before v).0 s.found.visits).0
    ]

    module _ (w after ways : ℕ) (step : w ∈ get_or adjacent v 0) where
      -- A branch with another way back than v.
      pub visiting-next : (x : ℕ) → x ∈ ways → (x ≡ v → ⊥) → Visited adjacent visited w after ways
          → (beside' : ℕ) → ((k : ℕ) → (k ∈ beside') ↔ ((k ∈ beside) ⊎ (k ∈ ways))) → Visiting adjacent before v after beside'
      visiting-next x m ne branch beside' either =
          let way = (branch.backs x).0 m in
          let one = s.found in
          let two = branch.found in
          let own = minus-steps before visited after one.keeps two.keeps in
          record {
            found = found-branch before v visited w after one two step x way.0 ne way.1;
            closed = λ u k i n j. elim ((own u).0 i) [ inl o ↦ two.keeps k (s.closed u k o n j) | inr o ↦ branch.closed u k o j ];
            besides = λ k i. (
              λ b. elim ((either k).0 b) [
                | inl c ↦ let a = (s.besides k i).0 c in (a.0, ((own a.0).1 (inl a.1.0), a.1.1))
                | inr c ↦ let a = ((branch.backs k).0 c).1 in (a.0, ((own a.0).1 (inr a.1.0), a.1.1))
              ],
              λ a. (either k).1 (elim ((own a.0).0 a.1.0) [
                | inl o ↦ inl ((s.besides k i).1 (a.0, (o, a.1.1)))
                | inr o ↦ inr ((branch.backs k).1 (one.keeps k i, (a.0, (o, a.1.1))))
              ]),
            );
          }

      -- A branch without one hangs on v alone, or something in it on another node.
      pub visiting-hangs : VisitEnds adjacent visited w after ways → ((x : ℕ) → x ∈ ways → x ≡ v) → Hanging adjacent (insert before v)
      visiting-hangs (inl branch) none =
          record {
            holder = v;
            part = after ∖ visited;
            some = (w, (branch.found.visits, step));
            apart = λ u m n. ((in-minus after visited u).0 m).1 (started u n);
            other = λ m. ((in-minus after visited v).0 m).1 (started v ((in_insert before v v).1 (inr refl)));
            alone = λ u k m i. elim (in-or-minus visited after k (branch.closed u k m i)) [
              | inl o ↦ inr (none k ((branch.backs k).1 (o, (u, (m, i)))))
              | inr o ↦ inl o
            ];
          }
      visiting-hangs (inr (same, zero, h)) none =
          record {
            holder = h.holder;
            part = h.part;
            some = h.some;
            apart = λ u m n. h.apart u m ((in_insert visited w u).1 (inl (started u n)));
            other = h.other;
            alone = h.alone;
          }

    -- Where all of v's row is visited, the visit ends.
    pub visiting-last : ((w : ℕ) → w ∈ get_or adjacent v 0 → w ∈ visited)
        → (ways : ℕ) → ((k : ℕ) → (k ∈ ways) ↔ ((k ∈ beside) × (k ∈ before))) → Visited adjacent before v visited ways
    visiting-last all ways both = record {
      found = s.found;
      closed = λ u w m i. go u w m i (ℕ_discrete u v);
      backs = λ k. (
        λ m. let p = (both k).0 m in (p.1, (s.besides k p.1).0 p.0),
        λ p. (both k).1 ((s.besides k p.0).1 p.1, p.0),
      );
    }
      where
        go : (u w : ℕ) → u ∈ (visited ∖ before) → w ∈ get_or adjacent u 0 → Dec (u ≡ v) → w ∈ visited
        go u w m i (yes e) = all w (rw e at i)
        go u w m i (no n) = s.closed u w m n i

  -- A visit with a way back did not end hanging.
  pub ends-visited : (before v after ways x : ℕ) → x ∈ ways → VisitEnds adjacent before v after ways → Visited adjacent before v after ways
  ends-visited before v after ways x m (inl branch) = branch
  ends-visited before v after ways x m (inr (same, zero, h)) = absurd (not-zero x (rw zero at m))
