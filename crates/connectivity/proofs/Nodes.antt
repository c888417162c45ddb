-- The edges within a set of nodes, the nodes past every node, and those past one, as the code finds them.
-- Assumes nothing of a network but what is said.
--
--   Within N u e v   the edge e, as v, joins two different nodes of u
--   others_of N      the other nodes past the source
--   Past N left nodes    the nodes are those past the source, and past each of the others but those that are left
use mathlib.Core.Path.{◌≡◌, refl, ap, ◌∙◌}
use mathlib.Core.Bool.{Bool, true, false, not, ◌&&◌, ◌||◌}
use mathlib.Core.List.{List}
use mathlib.Core.Logic.{◌⊎◌, inl, inr, ◌↔◌}
use Prim.Native.Nat.{ℕ, zero, suc, ◌-◌, ◌^◌, ◌<◌}
use native.Mathlib.Decide.{ℕ_discrete}
use native.Mathlib.Omega.{arith}
use lib.Bits.{bit_and}
use lib.Dec.{T, eqb, ltb}
use Rattle.bitset.specs.Members.{has, insert, ◌∖◌, ◌∈◌, ◌⊆◌}
use Rattle.bitset.proofs.Subsets.{⊆-refl, ⊆-antisym}
use Rattle.bitset.proofs.Scans.{Less}
use Rattle.sequences.proofs.Tests.{T_and}
use Rattle.bitset.proofs.Sets.{∈-dec, same_set, member-lt, in_and, in_insert, in_ones, in-single, in-drop}
use Rattle.bitset.proofs.Results.{single-power, with-member, without-minus}
use Rattle.node_set.specs.Width.{node_width}
use Rattle.network.specs.declared.Network.{Network}
use Rattle.network.specs.Record.{has_edge, first_end, second_end, present}
use Rattle.graph.specs.Cuts.{only}
use Rattle.graph.specs.Relevant.{two_in, edges_within, past, past_all}
use Rattle.graph.proofs.EdgeSets.{in-chosen, in-edges_within}
use Rattle.graph.proofs.Relevant.{past-others, past-all-first}
use Rattle.graph.proofs.Sound.{Sound}
use Rattle.spread.specs.Spread.{Reached}
use Rattle.adjacency.specs.Adjacency.{Adjacency}
use Rattle.adjacency.proofs.Reaching.{reached-all}

-- ---- the edges within a set of nodes

-- The edge e, as v, joins two different nodes of u.
abbrev pub Within : Network → ℕ → ℕ → ℕ → Type 0
Within N u e v = T (two_in u (first_end N e) (second_end N e)) × (v ≡ e)

module _ (N : Network) (u : ℕ) where
  module _ (k t : ℕ) (kept : Bool) (is-kept : kept ≡ two_in u (first_end N k) (second_end N k)) where
    -- An edge within u is added,
    pub edge-kept : kept ≡ true → k < 64 → (t' : ℕ) → ((j : ℕ) → has t' j ≡ has t j || (eqb j k && ltb k 64))
        → (v : ℕ) → (v ∈ t') ↔ ((v ∈ t) ⊎ Within N u k v)
    edge-kept is h t' with v = rw (with-member 64 t k t' h with) (
      λ m. elim ((in_insert t k v).0 m) [ inl i ↦ inl i | inr e ↦ inr (rw (← is-kept, is) tt, e) ],
      λ c. (in_insert t k v).1 (elim c [ inl i ↦ inl i | inr w ↦ inr w.1 ]),
    )

    -- and no other.
    pub edge-left : kept ≡ false → (v : ℕ) → (v ∈ t) ↔ ((v ∈ t) ⊎ Within N u k v)
    edge-left off v = (λ m. inl m, λ c. elim c [ inl i ↦ i | inr w ↦ absurd (rw (← is-kept, off) at w.0) ])

  -- A set of the present edges within u alone is the set of them.
  pub kept-all : (base t : ℕ) → present N < 2 ^ 64 → ((v : ℕ) → v ∈ base → ⊥)
      → ((v : ℕ) → (v ∈ t) ↔ ((v ∈ base) ⊎ ((e : ℕ) × ((e ∈ present N) × Within N u e v)))) → t ≡ edges_within N u
  unfolding edges_within
  kept-all base t small none members =
      let test = in-chosen (λ k. has_edge N k && two_in u (first_end N k) (second_end N k)) 64 in
      let both : (e : ℕ) → T (has_edge N e && two_in u (first_end N e) (second_end N e))
      ↔ (T (has_edge N e) × T (two_in u (first_end N e) (second_end N e))) =
      λ e. T_and (has_edge N e) (two_in u (first_end N e) (second_end N e)) in
      ⊆-antisym t (edges_within N u)
      (λ v m. elim ((members v).0 m) [
        | inl i ↦ absurd (none v i)
        | inr j ↦ rw j.1.1.1 ((test j.0).1 (member-lt 64 (present N) j.0 small j.1.0, (both j.0).1 (j.1.0, j.1.1.0)))
      ])
      (λ v m. let p = (both v).0 ((test v).0 m).1 in (members v).1 (inr (v, (p.0, (p.1, refl)))))

-- ---- past every node

-- The other nodes past the source.
abbrev pub others_of : Network → ℕ
others_of N = past N N.source ∖ 2 ^ N.source

-- The nodes are those past the source, and past each of the others but those that are left.
pub record Past (N : Network) (left nodes : ℕ) : Type 0 where
  pub within : left ⊆ others_of N
  pub holds : (v : ℕ) → (v ∈ nodes) ↔ ((v ∈ past N N.source) × ((c : ℕ) → c ∈ others_of N → (c ∈ left → ⊥) → v ∈ past N c))

-- What is past every node below n.
in-past_all : (N : Network) (n v : ℕ) → (v ∈ past_all N n) ↔ ((v < N.nodes) × ((c : ℕ) → c < n → v ∈ past N c))
unfolding past_all
in-past_all N zero v = (λ m. ((in_ones N.nodes v).0 m, λ c h. absurd (omega arith)), λ p. (in_ones N.nodes v).1 p.0)
in-past_all N (suc n) v =
    let both = in_and (past_all N n) (past N n) v in
    let before = in-past_all N n v in (
      λ m.
          let p = both.0 m in
          let q = before.0 p.0 in
          (q.0, λ c h. go c h q.1 p.1 (ℕ_discrete c n)),
      λ p. both.1 (before.1 (p.0, λ c h. p.1 c (omega arith)), p.1 n (omega arith)),
    )
  where
    go : (c : ℕ) → c < suc n → ((c : ℕ) → c < n → v ∈ past N c) → v ∈ past N n → Dec (c ≡ n) → v ∈ past N c
    go c h all last (yes e) = rw e last
    go c h all last (no d) = all c (omega arith)

module _ (N : Network) (S : Sound N) where
  -- What is past the source are nodes.
  past-lt : (v : ℕ) → v ∈ past N N.source → v < N.nodes
  past-lt v m =
      let first : past N N.source ≡ bit_and (past N N.source) (past_all N 0) = past-all-first N S in
      ((in-past_all N 0 v).0 ((in_and (past N N.source) (past_all N 0) v).0 (rw first at m)).1).0

  -- The others are nodes.
  pub others-lt : (c : ℕ) → c ∈ others_of N → c < N.nodes
  others-lt c m = past-lt c ((in-drop (past N N.source) N.source c).0 m).0

  -- At first all of them are left.
  pub past-first : (left nodes : ℕ) → left ≡ others_of N → nodes ≡ past N N.source → Past N left nodes
  past-first left nodes f e = record { within = rw f (⊆-refl (others_of N)); holds = λ v. rw (f, e) (λ m. (m, λ c i n. absurd (n i)), λ p. p.0) }

  -- With what is past one more of them, one less is left.
  pub past_next : (left c left' nodes nodes' : ℕ) → Less left c left' → nodes' ≡ bit_and nodes (past N c) → Past N left nodes → Past N left' nodes'
  past_next left c left' nodes nodes' less e p = record {
    within = λ v m. p.within v ((less.rest v).0 m).0;
    holds = λ v. rw e (
      λ m.
          let q = (in_and nodes (past N c) v).0 m in
          let r = (p.holds v).0 q.0 in
          (r.0, λ d i n. go v d i n r.1 q.1 (ℕ_discrete d c)),
      λ q. (in_and nodes (past N c) v).1 (
        (p.holds v).1 (q.0, λ d i n. q.1 d i (λ m. n ((less.rest d).0 m).0)),
        q.1 c (p.within c less.member) (λ m. ((less.rest c).0 m).1 refl),
      ),
    );
  }
    where
      go : (v d : ℕ) → d ∈ others_of N → (d ∈ left' → ⊥) → ((d : ℕ) → d ∈ others_of N → (d ∈ left → ⊥) → v ∈ past N d) → v ∈ past N c
          → Dec (d ≡ c) → v ∈ past N d
      go v d i n before last (yes q) = rw q last
      go v d i n before last (no q) = before d i (λ m. n ((less.rest d).1 (m, q)))

  -- Where none is left, they are the nodes past every node.
  pub past-last : (left nodes : ℕ) → ((j : ℕ) → j ∈ left → ⊥) → Past N left nodes → nodes ≡ past_all N N.nodes
  past-last left nodes none p = same_set (λ v. (
    λ m.
        let q = (p.holds v).0 m in
        (in-past_all N N.nodes v).1 (past-lt v q.0, λ c h. go v c q.0 (λ i. q.1 c i (none c)) (∈-dec c (others_of N))),
    λ m.
        let q = (in-past_all N N.nodes v).0 m in
        (p.holds v).1 (q.1 N.source S.source-lt, λ c i n. q.1 c (others-lt c i)),
  ))
    where
      go : (v c : ℕ) → v ∈ past N N.source → (c ∈ others_of N → v ∈ past N c) → Dec (c ∈ others_of N) → v ∈ past N c
      go v c m each (yes i) = each i
      go v c m each (no n) = past-others N S c n v m

-- ---- past a node

module _ (N : Network) (S : Sound N) (c : ℕ) (h : c < N.nodes) (others : List ℕ) (all source terminals start reached r : ℕ)
    (is-others : Adjacency (only N (edges_within N ((2 ^ N.nodes - 1) ∖ 2 ^ c))) others)
    (is_all : (j : ℕ) → has all j ≡ ltb j N.nodes && ltb j node_width)
    (is-source : (j : ℕ) → has source j ≡ eqb j N.source && ltb N.source node_width)
    (is-terminals : (j : ℕ) → has terminals j ≡ has source j || (eqb j N.sink && ltb N.sink node_width))
    (is-start : (j : ℕ) → has start j ≡ has terminals j && not (eqb j c))
    (is-reached : Reached others all start reached)
    (is-r : (j : ℕ) → has r j ≡ has reached j || (eqb j c && ltb c node_width)) where
  -- The spread starts at the terminals that are not c.
  past-start : start ≡ insert (2 ^ N.source) N.sink ∖ 2 ^ c
  past-start =
      without-minus terminals c start is-start
      ∙ ap (λ x. x ∖ 2 ^ c)
      (with-member node_width source N.sink terminals (omega (arith, S.sink-lt, S.small)) is-terminals
      ∙ ap (λ x. insert x N.sink) (single-power node_width N.source source (omega (arith, S.source-lt, S.small)) is-source))

  -- These are nodes.
  start-nodes : (v : ℕ) → v ∈ start → v < N.nodes
  start-nodes v m = go ((in_insert (2 ^ N.source) N.sink v).0 ((in-drop (insert (2 ^ N.source) N.sink) c v).0 (rw past-start at m)).0)
    where
      go : (v ∈ 2 ^ N.source) ⊎ (v ≡ N.sink) → v < N.nodes
      go (inl i) = rw ((in-single N.source v).0 i) S.source-lt
      go (inr e) = rw e S.sink-lt

  -- With c, what is reached is the set of the nodes past c.
  pub past-made : r ≡ past N c
  unfolding past
  past-made =
      let within = (2 ^ N.nodes - 1) ∖ 2 ^ c in
      let fits = reached-all N S (edges_within N within) (λ e m. ((in-edges_within N S.bounded within e).0 m).0) others is-others
      all start reached is_all start-nodes is-reached in
      with-member node_width reached c r (omega (arith, S.small)) is-r ∙ ap (λ x. insert x c) (rw (← past-start) fits)
