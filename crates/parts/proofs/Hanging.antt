-- What still hangs on the sink when a node v is taken out of the rest: the parts of the other nodes that v's neighbours are in are looked
-- through, and those without the sink are lost.
-- Assumes a table in which each node is adjacent to those that are adjacent to it, and, where a network is spoken of, its bounds.
--
--   Remains adjacent others v sink left near     what is left of the other nodes when some parts of them without the sink are lost, and
--                            the neighbours of v in it
--   HangsOn adjacent rest others sink     whatever is closed inside the rest and has the sink has the other nodes
use mathlib.Core.Path.{◌≡◌, refl}
use mathlib.Core.Bool.{false}
use mathlib.Core.List.{List}
use mathlib.Core.Logic.Dec
use mathlib.Core.Logic.{◌⊎◌, inl, inr, ◌↔◌}
use Prim.Native.Nat.{ℕ, ◌^◌, ◌<◌}
use native.Mathlib.Decide.{ℕ_discrete}
use denote.Floats.{is_true}
use lib.Bits.{bit_and}
use lib.ListN.{get_or}
use Rattle.bitset.specs.Members.{has, ◌∈◌, ◌⊆◌, ◌∖◌}
use Rattle.bitset.proofs.Subsets.{⊆-refl, ⊆-antisym, subset-lt, same_test}
use Rattle.bitset.proofs.Sets.{∈-dec, same_set, not-zero, in_and, in-minus, in-single, in-drop, drop-none, empty-or-member}
use Rattle.network.specs.declared.Network.{Network}
use Rattle.graph.specs.Paths.{Joins}
use Rattle.graph.specs.Reach.{Bounded}
use Rattle.graph.specs.Relevant.{reach_in}
use Rattle.branches.proofs.ReachIn.{reach_in-induct, reach_in-⊆}
use Rattle.spread.specs.Spread.{ClosedInside, Reached}
use Rattle.adjacency.specs.Adjacency.{Adjacency, Mutual}
use Rattle.parts.specs.Parts.{PartOf, Hangs}

-- What is left of the other nodes when some parts of them without the sink are lost, and the neighbours of v in it.
pub record Remains (adjacent : List ℕ) (others v sink left near : ℕ) : Type 0 where
  pub inside : left ⊆ others
  pub beside : (w : ℕ) → (w ∈ near) ↔ ((w ∈ get_or adjacent v 0) × (w ∈ left))
  pub kept : sink ∈ others → sink ∈ left
  pub closed : Mutual adjacent → ClosedInside adjacent others left

-- Whatever is closed inside the rest and has the sink has the other nodes.
abbrev pub HangsOn : List ℕ → ℕ → ℕ → ℕ → Type 0
HangsOn adjacent rest others sink = (t : ℕ) → ClosedInside adjacent rest t → sink ∈ t → others ⊆ t

module _ (adjacent : List ℕ) (others v sink : ℕ) where
  -- At first all are left.
  pub remains-first : (near : ℕ) → ((w : ℕ) → (w ∈ near) ↔ ((w ∈ get_or adjacent v 0) × (w ∈ others))) → Remains adjacent others v sink others near
  remains-first near beside = record { inside = ⊆-refl others; beside = beside; kept = λ m. m; closed = λ back w a k. k }

  -- A part around one of the neighbours, and those of them that it lacks.
  module _ (left near part near' : ℕ) (r : Remains adjacent others v sink left near) (p : PartOf adjacent left near part)
      (in_near : (w : ℕ) → (w ∈ near') ↔ ((w ∈ near) × (w ∈ part → ⊥))) where
    -- If it lacks one, it is closed.
    part-closed : (near' ≡ 0 → ⊥) → ClosedInside adjacent left part
    part-closed lacks = elim p.whole [
      | inl all ↦ absurd (lacks (same_set (λ w. (λ m. let q = (in_near w).0 m in absurd (q.1 (all w q.0)), λ m. absurd (not-zero w m)))))
      | inr closed ↦ closed
    ]

    -- Without the sink it is lost.
    pub remains-next : (near' ≡ 0 → ⊥) → (sink ∈ part → ⊥) → (left' : ℕ) → ((w : ℕ) → (w ∈ left') ↔ ((w ∈ left) × (w ∈ part → ⊥)))
        → Remains adjacent others v sink left' near'
    remains-next lacks lost left' in_left = record {
      inside = λ w m. r.inside w ((in_left w).0 m).0;
      beside = λ w. (
        λ m. let q = (in_near w).0 m in let b = (r.beside w).0 q.0 in (b.0, (in_left w).1 (b.1, q.1)),
        λ b. let q = (in_left w).0 b.1 in (in_near w).1 ((r.beside w).1 (b.0, q.0), q.1),
      );
      kept = λ m. (in_left sink).1 (r.kept m, lost);
      closed = λ back w (x, (m, i)) k.
          let q = (in_left x).0 m in
          (in_left w).1 (r.closed back w (x, (q.0, i)) k, λ n. q.1 (part-closed lacks x (w, (n, back x w i)) q.0));
    }

    -- Fewer neighbours are left.
    pub near-less : (near' ≡ 0 → ⊥) → near' < near
    near-less lacks = go (empty-or-member near')
      where
        go : (near' ≡ 0) ⊎ ((k : ℕ) × (k ∈ near')) → near' < near
        go (inl none) = absurd (lacks none)
        go (inr (k, m)) =
            let (h, (i, j)) = p.met k ((in_near k).0 m).0 in
            subset-lt near' near h (λ w n. ((in_near w).0 n).0) (is_true (has near h) i)
            (same_test (has near' h) false (λ n. ((in_near h).0 n).1 j) absurd)

    module _ (back : Mutual adjacent) where
      -- What is closed among the other nodes and has a node of the part has all of it.
      part-inside : (s k : ℕ) → ClosedInside adjacent others s → k ∈ part → k ∈ s → part ⊆ s
      part-inside s k closed m i = p.together back s (λ w a j. closed w a (r.inside w j)) (k, (m, i))

      -- With the sink it is what the sink reaches.
      pub part-reached : (near' ≡ 0 → ⊥) → sink ∈ part → Reached adjacent others (2 ^ sink) part
      part-reached lacks there = record {
        started = λ w m. rw ((in-single sink w).0 m) there;
        closed = λ w (x, (m, i)) k. part-closed lacks w (x, (m, i)) (r.closed back w (x, (p.inside x m, i)) k);
        least = λ s start closed. part-inside s sink closed there (start sink ((in-single sink sink).1 refl));
      }

      module _ (rest : ℕ) (split : (w : ℕ) → (w ∈ others) ↔ ((w ∈ rest) × (w ≡ v → ⊥))) (holds : HangsOn adjacent rest others sink)
          (s : ℕ) (closed : ClosedInside adjacent others s) (there : sink ∈ s) (kept : sink ∈ left) where
        -- A set that is closed among the other nodes, with the sink and all neighbours of v that are left, has all that is left: with v and
        -- what is lost it is closed inside the rest.
        with-near : near ⊆ s → left ⊆ s
        with-near all w m =
            let t : ℕ = rest ∖ (left ∖ s) in
            let in-s : (x : ℕ) → x ∈ t → x ∈ left → x ∈ s =
            λ x i l. (Dec.not-not (∈-dec x s)).0 (λ n. ((in-minus rest (left ∖ s) x).0 i).1 ((in-minus left s x).1 (l, n))) in
            let go : (y x : ℕ) → x ∈ t → y ∈ get_or adjacent x 0 → y ∈ left → Dec (x ≡ v) → y ∈ s =
            λ y x i a l d. elim d [
              | yes e ↦ all y ((r.beside y).1 (rw e at a, l))
              | no n ↦
                  let other = (split x).1 (((in-minus rest (left ∖ s) x).0 i).0, n) in
                  closed y (x, (in-s x i (r.closed back x (y, (l, back x y a)) other), a)) (r.inside y l)
            ] in
            let around : ClosedInside adjacent rest t =
            λ y (x, (i, a)) k. (in-minus rest (left ∖ s) y).1 (
              k,
              λ n. let q = (in-minus left s y).0 n in q.1 (go y x i a q.0 (ℕ_discrete x v)),
            ) in
            let first : sink ∈ t = (in-minus rest (left ∖ s) sink).1 (((split sink).0 (r.inside sink kept)).0, λ n. ((in-minus left s sink).0 n).1 there) in
            in-s w (holds t around first w (r.inside w m)) m

        -- So has one with no such neighbour: what is left of it is closed inside the rest.
        without-near : ((k : ℕ) → k ∈ near → k ∈ s → ⊥) → left ⊆ s
        without-near none w m =
            let t : ℕ = bit_and s left in
            let go : (y x : ℕ) → x ∈ s → x ∈ left → y ∈ get_or adjacent x 0 → y ∈ rest → Dec (y ≡ v) → y ∈ t =
            λ y x i l a k d. elim d [
              | yes e ↦ absurd (none x ((r.beside x).1 (rw e at (back x y a), l)) i)
              | no n ↦
                  let other = (split y).1 (k, n) in
                  (in_and s left y).1 (closed y (x, (i, a)) other, r.closed back y (x, (l, a)) other)
            ] in
            let around : ClosedInside adjacent rest t =
            λ y (x, (i, a)) k. let q = (in_and s left x).0 i in go y x q.0 q.1 a k (ℕ_discrete y v) in
            ((in_and s left w).0 (holds t around ((in_and s left sink).1 (there, kept)) w (r.inside w m))).0

      -- If it lacks none, all that is left is what the sink reaches.
      pub left-reached : (rest : ℕ) → ((w : ℕ) → (w ∈ others) ↔ ((w ∈ rest) × (w ≡ v → ⊥))) → HangsOn adjacent rest others sink → sink ∈ others
          → near' ≡ 0 → Reached adjacent others (2 ^ sink) left
      left-reached rest split holds there none = record {
        started = λ w m. rw ((in-single sink w).0 m) (r.kept there);
        closed = r.closed back;
        least = λ s start closed. least s closed (start sink ((in-single sink sink).1 refl)) (empty-or-member (bit_and near s));
      }
        where
          all : near ⊆ part
          all w m = (Dec.not-not (∈-dec w part)).0 (λ n. not-zero w (rw none at ((in_near w).1 (m, n))))

          least : (s : ℕ) → ClosedInside adjacent others s → sink ∈ s → (bit_and near s ≡ 0) ⊎ ((k : ℕ) × (k ∈ bit_and near s)) → left ⊆ s
          least s closed i (inl apart) =
              without-near rest split holds s closed i (r.kept there) (λ k m n. not-zero k (rw apart at ((in_and near s k).1 (m, n))))
          least s closed i (inr (k, m)) =
              let q = (in_and near s k).0 m in
              with-near rest split holds s closed i (r.kept there) (λ w n. part-inside s k closed (all k q.0) q.1 w (all w n))

-- ---- over the edges of a network

module _ (M : Network) (B : Bounded M) (rest v sink : ℕ) (hangs : Hangs M rest v sink) where
  -- Whatever is closed inside the rest and has the sink has every node but v.
  pub hangs-on : (adjacent : List ℕ) → Adjacency M adjacent → sink ∈ rest → (others : ℕ)
      → ((w : ℕ) → (w ∈ others) ↔ ((w ∈ rest) × (w ≡ v → ⊥))) → HangsOn adjacent rest others sink
  hangs-on adjacent table start others split t closed there w m =
      let d = (split w).0 m in
      reach_in-induct M B rest sink start (λ x. x ∈ t) there (λ e x y j i k. over e x y j i k (ℕ_discrete x y)) w (hangs w d.0 d.1)
    where
      over : (e x y : ℕ) → Joins M e x y → y ∈ rest → x ∈ t → Dec (x ≡ y) → y ∈ t
      over e x y j i k (yes q) = rw q at k
      over e x y j i k (no n) = closed y (x, (k, (table x y).1 (n, (e, j)))) i

  -- Where v is not in the rest, what the sink reaches without v is all of it.
  pub hangs-all : (v ∈ rest → ⊥) → sink ∈ (rest ∖ 2 ^ v) → rest ≡ reach_in M (rest ∖ 2 ^ v) sink
  hangs-all off there =
      rw (drop-none rest v off)
      (⊆-antisym rest (reach_in M rest sink) (λ w m. hangs w m (λ e. off (rw e at m)))
      (reach_in-⊆ M B rest sink ((in-drop rest v sink).0 there).0))
