-- The part of a set around one of its nodes, found node by node until it has all targets or no node is fresh.
-- Assumes, for what hangs together, a table in which each node is adjacent to those that are adjacent to it.
--
--   One targets others start     the targets are `others` and the start, which is one of them, if there is one
--   Search adjacent within start others missing fresh left     the nodes of the set that are not left are the spread from the start on,
--                            and of the targets `others` those that are not missing are among them
--   Turn adjacent missing fresh left missing' fresh' left'     a fresh node is looked at: those of its neighbours that are left are found
use mathlib.Core.Path.{◌≡◌, refl, sym, ◌∙◌}
use mathlib.Core.Bool.{false, not, ◌&&◌, ◌||◌}
use mathlib.Core.List.{List}
use mathlib.Core.Logic.Dec
use mathlib.Core.Logic.{◌⊎◌, inl, inr, ⊎_map, ◌↔◌}
use Prim.Native.Nat.{ℕ, ◌^◌, ◌<◌}
use native.Mathlib.Decide.{ℕ_discrete}
use native.Mathlib.Nat.{lt_of_le_of_lt}
use denote.Floats.{is_true, passes}
use lib.Bits.{bit_and, bit_or}
use lib.Count.{count_trailing_zeros}
use lib.Dec.{eqb}
use lib.ListN.{get_or}
use Rattle.bitset.specs.Members.{has, ◌∈◌, ◌⊆◌, ◌∖◌, Lowest}
use Rattle.bitset.proofs.Subsets.{subset-le, subset-lt, same_test}
use Rattle.bitset.proofs.Size.{lowest-trailing}
use Rattle.bitset.proofs.Sets.{∈-dec, not-zero, in_and, in-or, in-minus, minus-⊆, minus-part, in-single, empty-or-member}
use Rattle.bitset.proofs.Results.{in_without, in-difference, in-intersection, in-union}
use Rattle.bitset.proofs.Scans.{Less, less-lowest, lowest-lt}
use Rattle.spread.specs.Spread.{ClosedInside}
use Rattle.spread.proofs.Rounds.{Spread, Finds, spread-first, spread-on}
use Rattle.adjacency.specs.Adjacency.{Mutual}
use Rattle.parts.specs.Parts.{Together, PartOf}

-- ---- what hangs together

module _ (adjacent : List ℕ) (back : Mutual adjacent) (within : ℕ) where
  -- Where a set is closed, so is what it leaves.
  without-closed : (s : ℕ) → ClosedInside adjacent within s → ClosedInside adjacent within (within ∖ s)
  without-closed s closed w (v, (m, i)) k =
      let p = (in-minus within s v).0 m in
      (in-minus within s w).1 (k, λ j. p.1 (closed v (w, (j, back v w i)) p.0))

  -- What every closed set with the start has, where the start is one node, hangs together.
  least-together : (start p : ℕ) → start ⊆ within → ((a b : ℕ) → a ∈ start → b ∈ start → a ≡ b)
      → ((s : ℕ) → start ⊆ s → ClosedInside adjacent within s → p ⊆ s) → Together adjacent within p
  least-together start p inside one least s closed (k, (i, j)) = go (empty-or-member (bit_and start s))
    where
      go : (bit_and start s ≡ 0) ⊎ ((h : ℕ) × (h ∈ bit_and start s)) → p ⊆ s
      go (inl none) =
          let apart : start ⊆ (within ∖ s) =
          λ w m. (in-minus within s w).1 (inside w m, λ n. not-zero w (rw none at ((in_and start s w).1 (m, n)))) in
          absurd (((in-minus within s k).0 (least (within ∖ s) apart (without-closed s closed) k i)).1 j)
      go (inr (h, m)) = let q = (in_and start s h).0 m in least s (λ w n. rw (one w h n q.0) q.1) closed

-- ---- the start

-- The targets are `others` and the start, which is one of them, if there is one.
pub record One (targets others start : ℕ) : Type 0 where
  pub members : (w : ℕ) → (w ∈ start) ↔ ((w ∈ targets) × (w ∈ others → ⊥))
  pub one : (a b : ℕ) → a ∈ start → b ∈ start → a ≡ b
  pub some : (k : ℕ) → k ∈ targets → (h : ℕ) × (h ∈ start)

-- The lowest is one of the targets, and the others are those without it.
pub lowest-one : (w targets others start : ℕ) → targets < 2 ^ w
    → ((j : ℕ) → Lowest w targets j → (k : ℕ) → has others k ≡ has targets k && not (eqb k j))
    → ((j : ℕ) → has start j ≡ has targets j && not (has others j)) → One targets others start
lowest-one w targets others start small without differ =
    let first : ℕ = count_trailing_zeros w targets in
    let low = lowest-trailing w targets in
    let in-others = in_without targets first others (without first low) in
    let in_start = in-difference targets others start differ in
    let lowest : (k : ℕ) → k ∈ start → k ≡ first =
    λ k m. let p = (in_start k).0 m in (Dec.not-not (ℕ_discrete k first)).0 (λ n. p.1 ((in-others k).1 (p.0, n))) in
    record {
      members = in_start;
      one = λ a b m n. lowest a m ∙ sym (lowest b n);
      some = λ k m.
          let below = lowest-lt w targets first small (λ e. not-zero k (rw e at m)) low in
          (first, (in_start first).1 (passes (has targets first) (low.member below), λ n. ((in-others first).0 n).1 refl));
    }

-- ---- the search

-- The nodes of the set that are not left are the spread from the start on, and of the targets `others` those that are not missing are
-- among them.
pub record Search (adjacent : List ℕ) (within start others missing fresh left : ℕ) : Type 0 where
  pub left_in : left ⊆ within
  pub spread : Spread adjacent within start (within ∖ left) fresh
  pub found : (w : ℕ) → w ∈ others → (w ∈ missing → ⊥) → w ∈ left → ⊥

-- A fresh node is looked at: those of its neighbours that are left are found.
pub record Turn (adjacent : List ℕ) (missing fresh left missing' fresh' left' : ℕ) : Type 0 where
  pub node : ℕ
  pub unseen : ℕ
  pub found : ℕ
  pub less : Less fresh node unseen
  pub in-found : (w : ℕ) → (w ∈ found) ↔ ((w ∈ get_or adjacent node 0) × (w ∈ left))
  pub in_left : (w : ℕ) → (w ∈ left') ↔ ((w ∈ left) × (w ∈ found → ⊥))
  pub in-missing : (w : ℕ) → (w ∈ missing') ↔ ((w ∈ missing) × (w ∈ found → ⊥))
  pub in-fresh : (w : ℕ) → (w ∈ fresh') ↔ ((w ∈ unseen) ⊎ (w ∈ found))

module _ (adjacent : List ℕ) (within start others : ℕ) where
  -- At first the start is found, and all of it is fresh.
  pub search-first : start ⊆ within → (left : ℕ) → left ≡ within ∖ start → Search adjacent within start others others start left
  search-first inside left e = rw e (record {
    left_in = minus-⊆ within start;
    spread = rw (minus-part within start inside) (spread-first adjacent within start);
    found = λ w m n. absurd (n m);
  })

  module _ (missing fresh left : ℕ) (s : Search adjacent within start others missing fresh left) where
    -- The lowest of the fresh nodes is below the width, if there is one.
    pub fresh-lt : (w k : ℕ) → within < 2 ^ w → (fresh ≡ 0 → ⊥) → Lowest w fresh k → k < w
    fresh-lt w k small some low =
        let inside : fresh ⊆ within = λ v m. minus-⊆ within left v (s.spread.part v m) in
        lowest-lt w fresh k (lt_of_le_of_lt (subset-le fresh within inside) small) some low

    -- To look at it is a turn, by what the methods of the sets give.
    pub looked : (w node unseen found missing' fresh' left' : ℕ) → within < 2 ^ w → (fresh ≡ 0 → ⊥) → Lowest w fresh node
        → ((j : ℕ) → Lowest w fresh j → (k : ℕ) → has unseen k ≡ has fresh k && not (eqb k j))
        → ((j : ℕ) → has found j ≡ has (get_or adjacent node 0) j && has left j)
        → ((j : ℕ) → has left' j ≡ has left j && not (has found j))
        → ((j : ℕ) → has missing' j ≡ has missing j && not (has found j))
        → ((j : ℕ) → has fresh' j ≡ has unseen j || has found j)
        → Turn adjacent missing fresh left missing' fresh' left'
    looked w node unseen found missing' fresh' left' small some low drops met rest lacks more = record {
      node = node;
      unseen = unseen;
      found = found;
      less = less-lowest w fresh node unseen low (fresh-lt w node small some low) (drops node low);
      in-found = in-intersection (get_or adjacent node 0) left found met;
      in_left = in-difference left found left' rest;
      in-missing = in-difference missing found missing' lacks;
      in-fresh = in-union unseen found fresh' more;
    }

    module _ (missing' fresh' left' : ℕ) (t : Turn adjacent missing fresh left missing' fresh' left') where
      -- The nodes that are no longer left.
      in-gone : (w : ℕ) → (w ∈ (within ∖ left')) ↔ ((w ∈ (within ∖ left)) ⊎ (w ∈ t.found))
      in-gone w = (
        λ m. let p = (in-minus within left' w).0 m in go p.0 p.1 (∈-dec w t.found),
        λ c. (in-minus within left' w).1 (elim c [
          | inl m ↦ let p = (in-minus within left w).0 m in (p.0, λ n. p.1 ((t.in_left w).0 n).0)
          | inr f ↦ (s.left_in w ((t.in-found w).0 f).1, λ n. ((t.in_left w).0 n).1 f)
        ]),
      )
        where
          go : w ∈ within → (w ∈ left' → ⊥) → Dec (w ∈ t.found) → (w ∈ (within ∖ left)) ⊎ (w ∈ t.found)
          go i n (yes f) = inr f
          go i n (no o) = inl ((in-minus within left w).1 (i, λ l. n ((t.in_left w).1 (l, o))))

      -- What is found is what a round from that node alone finds.
      finds-one : Finds adjacent within (within ∖ left) (2 ^ t.node) t.found
      finds-one w = (
        λ m.
            let p = (t.in-found w).0 m in
            ((t.node, ((in-single t.node t.node).1 refl, p.0)), s.left_in w p.1, λ n. ((in-minus within left w).0 n).1 p.1),
        λ (p, i, n). (t.in-found w).1 (
          rw ((in-single t.node p.0).0 p.1.0) at p.1.1,
          (Dec.not-not (∈-dec w left)).0 (λ o. n ((in-minus within left w).1 (i, o))),
        ),
      )

      -- The search goes on.
      pub search-next : Search adjacent within start others missing' fresh' left'
      search-next = record {
        left_in = λ w m. s.left_in w ((t.in_left w).0 m).0;
        spread = spread-on adjacent within start (within ∖ left) fresh (2 ^ t.node) t.found s.spread
            (λ w m. rw ((in-single t.node w).0 m) t.less.member) finds-one (within ∖ left') fresh' in-gone (λ w. (
              λ m. ⊎_map (λ u. let p = (t.less.rest w).0 u in (p.0, λ n. p.1 ((in-single t.node w).0 n))) (λ f. f) ((t.in-fresh w).0 m),
              λ c. (t.in-fresh w).1 (⊎_map (λ p. (t.less.rest w).1 (p.0, λ e. p.1 ((in-single t.node w).1 e))) (λ f. f) c),
            ));
        found = λ w m n l. let p = (t.in_left w).0 l in s.found w m (λ o. n ((t.in-missing w).1 (o, p.1))) p.0;
      }

      -- One node less is left or fresh.
      pub search-less : bit_or left' fresh' < bit_or left fresh
      search-less =
          let k : ℕ = t.node in
          let gone : k ∈ left → ⊥ = ((in-minus within left k).0 (s.spread.part k t.less.member)).1 in
          subset-lt (bit_or left' fresh') (bit_or left fresh) k
          (λ w m. (in-or left fresh w).1 (elim ((in-or left' fresh' w).0 m) [
            | inl l ↦ inl ((t.in_left w).0 l).0
            | inr f ↦ elim ((t.in-fresh w).0 f) [ inl u ↦ inr ((t.less.rest w).0 u).0 | inr g ↦ inl ((t.in-found w).0 g).1 ]
          ]))
          (is_true (has (bit_or left fresh) k) ((in-or left fresh k).1 (inr t.less.member)))
          (same_test (has (bit_or left' fresh') k) false (λ m. elim ((in-or left' fresh' k).0 m) [
            | inl l ↦ gone ((t.in_left k).0 l).0
            | inr f ↦ elim ((t.in-fresh k).0 f) [ inl u ↦ ((t.less.rest k).0 u).1 refl | inr g ↦ gone ((t.in-found k).0 g).1 ]
          ]) absurd)

    -- Where no target is missing, or no node fresh, the part is found.
    pub search-last : (targets : ℕ) → One targets others start → targets ⊆ within
        → (missing ≡ 0) ⊎ (fresh ≡ 0) → (p : ℕ) → p ≡ within ∖ left → PartOf adjacent within targets p
    search-last targets one inside end p e = rw e (record {
      inside = minus-⊆ within left;
      met = λ k m. let h = one.some k m in (h.0, (((one.members h.0).0 h.1).0, s.spread.started h.0 h.1));
      whole = ⊎_map
          (λ none w m. (in-minus within left w).1 (inside w m, λ l. go w m l (λ i. not-zero w (rw none at i)) (∈-dec w others)))
          (λ none w a i. s.spread.done a.0 w a.1.0 (λ f. not-zero a.0 (rw none at f)) a.1.1 i)
          end;
      together = λ back. least-together adjacent back within start (within ∖ left) (λ w m. inside w ((one.members w).0 m).0) one.one s.spread.least;
    })
      where
        go : (w : ℕ) → w ∈ targets → w ∈ left → (w ∈ missing → ⊥) → Dec (w ∈ others) → ⊥
        go w m l n (yes o) = s.found w o n l
        go w m l n (no o) = ((in-minus within left w).0 (s.spread.started w ((one.members w).1 (m, o)))).1 l
