-- The rows of a branch are exactly its source sides, each once and beside its boundary; an open branch has at least one.
-- Assumes a sound network.
--
--   IsRow N b r          the row r is one of the branch b: its side is a source side of b, and its cut is the boundary of that
--   RowsExactly N b l    the list l has exactly the rows of the branch b
--   Listed N S b l       what holds of the list of the rows of an open branch: it has exactly these, no cut twice, and at least one
use mathlib.Core.Path.{◌≡◌, refl, sym, ap, ◌∙◌}
use mathlib.Core.Bool.{Bool, true, false}
use mathlib.Core.List.Memᴰ
use mathlib.Core.List.{List, [], ◌∷◌, ◌++◌, map-append, Memᴰ}
use mathlib.Core.Logic.Iff
use mathlib.Core.Logic.{inl, inr, ◌↔◌}
use Prim.Native.Nat.{ℕ, ◌+◌, ◌≤◌, ◌<◌}
use native.Mathlib.Nat.{le_refl, lt_of_lt_of_le}
use native.Mathlib.Omega.{arith}
use lib.Bits.{bit_and}
use lib.Dec.{T}
use lib.ListN.{length, length-append}
use Rattle.sequences.specs.Distinct.{Distinct}
use Rattle.bitset.specs.Members.{has, ◌⊆◌, ◌∈◌}
use Rattle.bitset.proofs.Subsets.{subset-and}
use Rattle.sequences.proofs.Tests.{T-eqb}
use Rattle.bitset.proofs.Sets.{∈-dec, in_insert}
use Rattle.network.specs.declared.Network.{Network}
use Rattle.graph.specs.Cuts.{only}
use Rattle.graph.specs.Relevant.{boundary_of}
use Rattle.sequences.proofs.Distinct.{distinct_append}
use Rattle.node_set.specs.Width.{node_width}
use Rattle.graph.proofs.Sound.{Sound}
use Rattle.graph.proofs.Relevant.{in-relevant_nodes, relevant-lt}
use Rattle.graph.proofs.Correspondence.{boundary-injective}
use Rattle.branches.specs.declared.Branch.{Branch}
use Rattle.branches.specs.Enumeration.{relevant_network, candidate, joined, left_out, is_open, Row, cuts_of, row_of, rows_of, rows_if, join_rows, leave_out_rows}
use Rattle.branches.proofs.Branches.{Grown, Open, joined-grown, left_out-grown, rest-kept}
use Rattle.branches.proofs.Halves.{OfBranch, within-split, within-apart, within-reached, within-leaf}
use Rattle.branches.proofs.Recursion.{candidate-in, candidate-none, rows-leaf, rows_split, branch-induct}

-- The row r is one of the branch b: its side is a source side of b, and its cut is the boundary of that.
abbrev pub IsRow : Network → Branch → Row → Type 0
IsRow N b r = OfBranch N b r.1 × (r.0 ≡ boundary_of N r.1)

-- The list l has exactly the rows of the branch b.
abbrev pub RowsExactly : Network → Branch → List Row → Type 0
RowsExactly N b l = (r : Row) → Memᴰ r l ↔ IsRow N b r

-- The test whether a branch is open.
pub open-test : (b : Branch) → T (is_open b) ↔ (b.out.0 ⊆ b.rest.0)
open-test b = Iff.trans (T-eqb (bit_and b.out.0 b.rest.0) b.out.0) (Iff.symm (subset-and b.out.0 b.rest.0))

-- With v left out, an open branch stays open exactly if the sink reaches v.
left_out-test : (b : Branch) → b.out.0 ⊆ b.rest.0 → (v : ℕ) → (v ∈ b.rest.0) ↔ ((left_out b v).out.0 ⊆ (left_out b v).rest.0)
unfolding left_out
left_out-test b reached v = (
  λ i k m. elim ((in_insert b.out.0 v k).0 m) [ inl l ↦ reached k l | inr e ↦ rw e i ],
  λ l. l v ((in_insert b.out.0 v v).1 (inr refl)),
)

module _ (N : Network) (S : Sound N) where
  -- ---- the halves of an open branch

  module _ (b : Branch) (o : Open N b) (h : candidate b < node_width) where
    -- With the candidate joined, the parts of the branch are what they are to be.
    join-grown : Grown N (joined (relevant_network N) b (candidate b))
    join-grown = joined-grown N S b o.grown (candidate b) (candidate-in b h).0 (candidate-in b h).1

    -- With it left out too.
    leave-grown : Grown N (left_out b (candidate b))
    leave-grown = left_out-grown N S b o.grown (candidate b) (candidate-in b h).1

    -- The half in which it joins is open if the test says so.
    join-open : T (is_open (joined (relevant_network N) b (candidate b))) → Open N (joined (relevant_network N) b (candidate b))
    join-open t = record { grown = join-grown; reached = (open-test (joined (relevant_network N) b (candidate b))).0 t }

    -- The half in which it is left out is open if the sink reaches it.
    leave-open : candidate b ∈ b.rest.0 → Open N (left_out b (candidate b))
    leave-open i = record { grown = leave-grown; reached = (left_out-test b o.reached (candidate b)).0 i }

  -- ---- which rows

  -- A branch without a candidate has its side alone as a source side.
  leaf-exactly : (b : Branch) → Open N b → node_width ≤ candidate b → RowsExactly N b (row_of b ∷ [])
  leaf-exactly b o h r =
      let none : (v : ℕ) → v ∈ b.around.0 → v ∈ b.undecided.0 → ⊥ =
      λ v m n. candidate-none b h v
      (lt_of_lt_of_le (relevant-lt N S v ((in-relevant_nodes N S v).0 ((o.grown.undecided v).0 n).0)) S.small) m n in
      let leaf = within-leaf N S b o none r.1 in (
        λ m.
            let e = Memᴰ.eq_of_singleton m in
            let side : r.1 ≡ b.side.0 = ap (λ (q : Row). q.1) e in
            (leaf.1 side, ap (λ (q : Row). q.0) e ∙ o.grown.cut ∙ ap (boundary_of N) (sym side)),
        λ w.
            let side : r.1 ≡ b.side.0 = leaf.0 w.0 in
            let cut : r.0 ≡ b.cut.0 = w.1 ∙ ap (boundary_of N) side ∙ sym o.grown.cut in
            Memᴰ.head (λ i. (cut i, side i)),
      )

  -- A half has its rows also where it is not entered, if it is entered wherever it has a source side.
  half-exactly : (t : Bool) (b : Branch) → (T t → RowsExactly N b (rows_of (relevant_network N) b)) → ((s : ℕ) → OfBranch N b s → T t)
      → RowsExactly N b (rows_if t (relevant_network N) b)
  half-exactly true b whole needed r = whole tt r
  half-exactly false b whole needed r = (λ m. absurd (Memᴰ.not-nil m), λ w. absurd (needed r.1 w.0))

  -- The rows of both halves are those of the branch.
  both-exactly : (b : Branch) (v : ℕ) (j l : List Row) → RowsExactly N (joined (relevant_network N) b v) j → RowsExactly N (left_out b v) l
      → RowsExactly N b (j ++ l)
  both-exactly b v j l in-j in-l r =
      let split = within-split N (relevant_network N) b v r.1 in (
        λ m. elim (Memᴰ.append_cases j m) [
          | inl i ↦ let w = (in-j r).0 i in (split.1 (inl w.0), w.1)
          | inr i ↦ let w = (in-l r).0 i in (split.1 (inr w.0), w.1)
        ],
        λ w. elim (split.0 w.0) [
          | inl k ↦ Memᴰ.append_left l ((in-j r).1 (k, w.1))
          | inr k ↦ Memᴰ.append_right j ((in-l r).1 (k, w.1))
        ],
      )

  -- No cut stands in both halves.
  halves-apart : (b : Branch) (v : ℕ) (j l : List Row) → RowsExactly N (joined (relevant_network N) b v) j → RowsExactly N (left_out b v) l
      → (c : ℕ) → Memᴰ c (cuts_of j) → Memᴰ c (cuts_of l) → ⊥
  halves-apart b v j l in-j in-l c m n =
      let (r, i, e) = Memᴰ.of_map (λ (r : Row). r.0) j m in
      let (q, k, f) = Memᴰ.of_map (λ (r : Row). r.0) l n in
      let x = (in-j r).0 i in
      let y = (in-l q).0 k in
      let same : r.1 ≡ q.1 =
      boundary-injective N S r.1 q.1 x.0.side y.0.side (sym x.1 ∙ e ∙ sym f ∙ y.1) in
      within-apart N (relevant_network N) b v q.1 (rw same at x.0) y.0

  -- No cut stands twice in a half, also where it is not entered.
  half-once : (t : Bool) (b : Branch) → (T t → Distinct (cuts_of (rows_of (relevant_network N) b))) → Distinct (cuts_of (rows_if t (relevant_network N) b))
  unfolding Distinct
  half-once true b whole = whole tt
  half-once false b whole = tt

  -- ---- at least one row

  -- A half that is entered has as many rows as its branch.
  half-some : (t : Bool) (b : Branch) → T t → 0 < length (rows_of (relevant_network N) b) → 0 < length (rows_if t (relevant_network N) b)
  half-some true b t some = some
  half-some false b t some = absurd t

  -- Where the sink does not reach the candidate, the half in which it joins is open.
  join-test : (b : Branch) → Open N b → candidate b < node_width → (candidate b ∈ b.rest.0 → ⊥) → T (is_open (joined (relevant_network N) b (candidate b)))
  unfolding joined only
  join-test b o h off =
      let v : ℕ = candidate b in
      let other : N.sink ≡ v → ⊥ = λ e. ((o.grown.undecided v).0 (candidate-in b h).1).3 (sym e) in
      (open-test (joined (relevant_network N) b v)).1 (λ k m. rw (rest-kept N S b o.grown v other off) (o.reached k m))

  -- ---- all of it

  -- What holds of the list of the rows of an open branch: it has exactly these, no cut twice, and at least one.
  pub record Listed (b : Branch) (l : List Row) : Type 0 where
    pub exactly : RowsExactly N b l
    pub once : Distinct (cuts_of l)
    pub some : 0 < length l

  -- A branch without a candidate.
  leaf-listed : (b : Branch) → node_width ≤ candidate b → Open N b → Listed b (rows_of (relevant_network N) b)
  unfolding Distinct
  leaf-listed b h o =
      rw (rows-leaf (relevant_network N) b h) (record { exactly = leaf-exactly b o h; once = (Memᴰ.not-nil, tt); some = le_refl 1 })

  -- A branch with a candidate.
  split-listed : (b : Branch) → candidate b < node_width
      → (Open N (joined (relevant_network N) b (candidate b))
      → Listed (joined (relevant_network N) b (candidate b)) (rows_of (relevant_network N) (joined (relevant_network N) b (candidate b))))
      → (Open N (left_out b (candidate b)) → Listed (left_out b (candidate b)) (rows_of (relevant_network N) (left_out b (candidate b))))
      → Open N b → Listed b (rows_of (relevant_network N) b)
  split-listed b h join leave o = rw (rows_split M b h) (record {
    exactly = both-exactly b v (join_rows M b v) (leave_out_rows M b v) in-join in-leave;
    once = rw (map-append (λ (r : Row). r.0) (join_rows M b v) (leave_out_rows M b v)) (
        (distinct_append (cuts_of (join_rows M b v)) (cuts_of (leave_out_rows M b v))).1 (
          half-once (is_open (joined M b v)) (joined M b v) (λ t. (join (join-open b o h t)).once),
          half-once (has b.rest.0 v) (left_out b v) (λ t. (leave (leave-open b o h t)).once),
          halves-apart b v (join_rows M b v) (leave_out_rows M b v) in-join in-leave,
        ));
    some = rw (length-append (join_rows M b v) (leave_out_rows M b v)) (some (∈-dec v b.rest.0));
  })
    where
      M : Network
      M = relevant_network N

      v : ℕ
      v = candidate b

      in-join : RowsExactly N (joined M b v) (join_rows M b v)
      in-join =
          half-exactly (is_open (joined M b v)) (joined M b v) (λ t. (join (join-open b o h t)).exactly)
          (λ s w. (open-test (joined M b v)).1 (within-reached N S (joined M b v) (join-grown b o h) s w))

      in-leave : RowsExactly N (left_out b v) (leave_out_rows M b v)
      in-leave =
          half-exactly (has b.rest.0 v) (left_out b v) (λ t. (leave (leave-open b o h t)).exactly)
          (λ s w. (left_out-test b o.reached v).1 (within-reached N S (left_out b v) (leave-grown b o h) s w))

      some : Dec (v ∈ b.rest.0) → 0 < length (join_rows M b v) + length (leave_out_rows M b v)
      some (yes i) = omega (arith, half-some (has b.rest.0 v) (left_out b v) i (leave (leave-open b o h i)).some)
      some (no off) =
          let t = join-test b o h off in
          omega (arith, half-some (is_open (joined M b v)) (joined M b v) t (join (join-open b o h t)).some)

  -- The rows of every open branch are listed.
  pub rows-listed : (b : Branch) → Open N b → Listed b (rows_of (relevant_network N) b)
  rows-listed = branch-induct (relevant_network N) (λ b. Open N b → Listed b (rows_of (relevant_network N) b)) leaf-listed split-listed
