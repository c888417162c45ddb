-- The two halves of a branch as the code goes through them: what each step keeps, and what each way through puts.
-- Assumes, where walks are spoken of, a network that keeps the bounds of edges and ends.
use mathlib.Core.Path.{◌≡◌, refl, sym, ap, ◌∙◌}
use mathlib.Core.Bool.{Bool, true, false, ◌&&◌, true≢false}
use mathlib.Core.List.{List, [], ◌∷◌}
use mathlib.Core.Logic.{◌⊎◌, inl, inr}
use Prim.Native.Nat.{ℕ, ◌^◌, ◌≤◌, ◌<◌}
use native.Mathlib.Decide.{ℕ_discrete}
use native.Mathlib.Omega.{arith}
use borrow.Author.Tests.{leb-true, leb-false}
use lib.Bits.{bit_or}
use lib.Dec.{leb}
use lib.ListN.{get_or}
use Rattle.bitset.specs.Members.{has, insert, ◌∖◌, size, ◌∈◌}
use Rattle.bitset.proofs.Subsets.{⊆-refl}
use Rattle.bitset.proofs.Sets.{in_insert, in-single, in-drop, same_set, in-or, size-drop}
use Rattle.node_set.specs.Width.{node_width}
use Rattle.network.specs.declared.Network.{Network}
use Rattle.graph.specs.Paths.{Joins}
use Rattle.graph.specs.Reach.{round, Bounded}
use Rattle.graph.specs.Relevant.{reach_in, edges_at}
use Rattle.graph.proofs.Reach.{in-round}
use Rattle.graph.proofs.EdgeSets.{in-edges_at}
use Rattle.branches.specs.declared.Branch.{Branch}
use Rattle.branches.specs.Enumeration.{candidate, joined, left_out, is_open, Row, row_of, rows_if, join_rows, leave_out_rows}
use Rattle.branches.proofs.ReachIn.{reach_in-start, reach_in-⊆, reach_in-same}
use Rattle.branches.proofs.Recursion.{candidate-in, rows-leaf, rows_split}
use Rattle.adjacency.specs.Adjacency.{Adjacency}
use Rattle.enumeration.specs.declared.rows.Rows.{Rows}
use Rattle.enumeration.specs.declared.Tables.{Tables}
use Rattle.enumeration.specs.Tables.{Incidence, TablesOf}
use Rattle.parts.specs.Parts.{Hangs}
use Rattle.enumeration.specs.Rows.{Fed, Whole, Same, RowsPut, JoinedBranch}
use Rattle.enumeration.proofs.Putting.{put-none, put_both}

-- ---- a node joins

module _ (M : Network) (B : Bounded M) where
  -- The node v and the nodes beside it are the round of v.
  pub beside-round : (near : List ℕ) → Adjacency M near → (v s : ℕ) → insert (bit_or s (get_or near v 0)) v ≡ bit_or s (round M (2 ^ v))
  beside-round near table v s = same_set (λ k.
      let over = in-round M B.edges (2 ^ v) k in (
        λ m. (in-or s (round M (2 ^ v)) k).1 (elim ((in_insert (bit_or s (get_or near v 0)) v k).0 m) [
          | inl i ↦ elim ((in-or s (get_or near v 0) k).0 i) [
            | inl l ↦ inl l
            | inr l ↦ let j = (table v k).0 l in inr (over.1 (inr (j.1.0, (v, ((in-single v v).1 refl, j.1.1)))))
          ]
          | inr e ↦ inr (over.1 (inl ((in-single v k).1 e)))
        ]),
        λ m. (in_insert (bit_or s (get_or near v 0)) v k).1 (elim ((in-or s (round M (2 ^ v)) k).0 m) [
          | inl l ↦ inl ((in-or s (get_or near v 0) k).1 (inl l))
          | inr l ↦ elim (over.0 l) [
            | inl i ↦ inr ((in-single v k).0 i)
            | inr j ↦ beside k j.0 (rw ((in-single v j.1.0).0 j.1.1.0) at j.1.1.1) (ℕ_discrete v k)
          ]
        ]),
      ))
    where
      -- What an edge joins to v is v or adjacent to v.
      beside : (k e : ℕ) → Joins M e v k → Dec (v ≡ k) → (k ∈ bit_or s (get_or near v 0)) ⊎ (k ≡ v)
      beside k e j (yes q) = inr (sym q)
      beside k e j (no n) = inl ((in-or s (get_or near v 0) k).1 (inr ((table v k).1 (n, (e, j)))))

  -- The table has the edges at v.
  pub at-edges : (at : List ℕ) → Incidence M at → (v : ℕ) → get_or at v 0 ≡ edges_at M v
  at-edges at table v = same_set (λ e.
      let both = in-edges_at M B v e in (
        λ m. both.1 ((table v e).0 m),
        λ m. (table v e).1 (both.0 m),
      ))

  module _ (b : Branch) (v : ℕ) (free : v ∈ b.undecided.0) (fed : Fed M b) where
    -- Without v the sink is still in the rest.
    pub sink-left : M.sink ∈ (b.rest.0 ∖ 2 ^ v)
    sink-left = (in-drop b.rest.0 v M.sink).1 (fed.sink, λ e. fed.decided (rw e free))

    -- With v joined the sink is in the rest and is not undecided.
    pub joined-fed : Fed M (joined M b v)
    unfolding joined
    joined-fed = record {
      sink = reach_in-start M B (b.rest.0 ∖ 2 ^ v) M.sink sink-left;
      decided = λ m. fed.decided ((in-drop b.undecided.0 v M.sink).0 m).0;
    }

    -- With v joined the rest is what the sink reaches inside it.
    pub joined-whole : Whole M (joined M b v)
    unfolding joined
    joined-whole =
        let u : ℕ = b.rest.0 ∖ 2 ^ v in
        reach_in-same M B (reach_in M u M.sink) u M.sink (reach_in-start M B u M.sink sink-left)
        (reach_in-⊆ M B u M.sink sink-left) (⊆-refl (reach_in M u M.sink))

-- Where the sink is in the rest, a branch that was made with v joined is the one.
pub made-joined : (t : Tables) (b d : Branch) (v : ℕ) → v ∈ b.undecided.0 → JoinedBranch t b v d
    → (M : Network) → TablesOf M t → Fed M b → Hangs M b.rest.0 v M.sink → d ≡ joined M b v
made-joined t b d v free made M tables fed hangs = made M tables (sink-left M tables.bounded b v free fed) hangs

-- Where the rest is what the sink reaches inside it, all of it hangs on the sink.
pub whole-hangs : (M : Network) (b : Branch) (v : ℕ) → Whole M b → Hangs M b.rest.0 v M.sink
whole-hangs M b v whole w m other = rw whole m

-- ---- a node is left out

-- With v left out the sink is in the rest as before.
pub left_out-fed : (M : Network) (b : Branch) (v : ℕ) → Fed M b → Fed M (left_out b v)
unfolding left_out
left_out-fed M b v fed = record { sink = fed.sink; decided = λ m. fed.decided ((in-drop b.undecided.0 v M.sink).0 m).0 }

-- The rest is the same.
pub left_out-whole : (M : Network) (b : Branch) (v : ℕ) → Whole M b → Whole M (left_out b v)
unfolding left_out
left_out-whole M b v whole = whole

-- The undecided nodes are those without v.
pub left_out-undecided : (b d : Branch) (v : ℕ) → d ≡ left_out b v → d.undecided.0 ≡ b.undecided.0 ∖ 2 ^ v
unfolding left_out
left_out-undecided b d v e = ap (λ (x : Branch). x.undecided.0) e

-- ---- what is left undecided

-- With v decided fewer nodes are undecided.
pub undecided-fewer : (s t v : ℕ) → v < node_width → v ∈ s → t ≡ s ∖ 2 ^ v → size node_width t < size node_width s
undecided-fewer s t v h m e = rw e (omega (arith, size-drop node_width s v h m))

-- A candidate is undecided.
pub candidate-free : (b : Branch) (w : ℕ) → w ≡ candidate b → w < node_width → w ∈ b.undecided.0
candidate-free b w low h = rw low (candidate-in b (rw low at h)).1

-- ---- the ways through a half

-- Where a row is wanted and the other test holds,
pub wanted-and : (n limit : ℕ) (h r : Bool) → r ≡ leb n limit && h → r ≡ true → (n ≤ limit) × (h ≡ true)
wanted-and n limit h r e t = go (leb n limit) refl (sym e ∙ t)
  where
    go : (s : Bool) → leb n limit ≡ s → s && h ≡ true → (n ≤ limit) × (h ≡ true)
    go true f k = (leb-true n limit f, k)
    go false f k = absurd (true≢false (sym k))

-- and where not both do.
pub unwanted-or : (n limit : ℕ) (h r : Bool) → r ≡ leb n limit && h → r ≡ false → (limit < n) ⊎ (h ≡ false)
unwanted-or n limit h r e t = go (leb n limit) refl (sym e ∙ t)
  where
    go : (s : Bool) → leb n limit ≡ s → s && h ≡ false → (limit < n) ⊎ (h ≡ false)
    go true f k = inr k
    go false f k = inl (leb-false n limit f)

-- The rows in which v joins, by the branch d that was made and its test t.
pub join-half : (M : Network) (b : Branch) (v : ℕ) (d : Branch) → d ≡ joined M b v → (t : Bool) → t ≡ is_open d → join_rows M b v ≡ rows_if t M d
join-half M b v d e t f = ap (λ (x : Branch). rows_if (is_open x) M x) (sym e) ∙ ap (λ (x : Bool). rows_if x M d) (sym f)

-- Those in which v is left out.
pub leave-out-half : (M : Network) (b : Branch) (v : ℕ) (d : Branch) → d ≡ left_out b v → (t : Bool) → t ≡ has b.rest.0 v
    → leave_out_rows M b v ≡ rows_if t M d
leave-out-half M b v d e t f = ap (rows_if (has b.rest.0 v) M) (sym e) ∙ ap (λ (x : Bool). rows_if x M d) (sym f)

-- The rows l of a half, which enters the branch d if the test t holds.
module _ (M : Network) (l : List Row) (t : Bool) (d : Branch) (half : l ≡ rows_if t M d) (r : Rows) where
  -- It is not entered.
  pub shut-put : t ≡ false → RowsPut l r r
  shut-put e = rw (half, e) (put-none r)

  module _ (e : t ≡ true) where
    -- Without a candidate it has one row.
    pub leaf-put : node_width ≤ candidate d → (r' : Rows) → RowsPut (row_of d ∷ []) r r' → RowsPut l r r'
    leaf-put h r' p = rw (half, e, rows-leaf M d h) p

    -- With one it has the rows in which the candidate joins and those in which it is left out.
    pub split-put : (w : ℕ) → w ≡ candidate d → w < node_width → (r' r'' : Rows) → Same r r' → RowsPut (join_rows M d w) r r'
        → RowsPut (leave_out_rows M d w) r' r'' → RowsPut l r r''
    split-put w low h r' r'' same p q =
        rw (half, e, rows_split M d (rw low at h), ← low) (put_both r (join_rows M d w) (leave_out_rows M d w) r' r'' same p q)
