-- The recursion of the enumeration: what a branch gives by its candidate, an induction along it, and a bound on the number of rows.
-- Assumes nothing.
use mathlib.Core.Path.{◌≡◌, refl}
use mathlib.Core.Bool.{Bool, true, false}
use mathlib.Core.List.{[], ◌∷◌, ◌++◌}
use Prim.Native.Nat.{ℕ, zero, suc, ◌^◌, ◌≤◌, ◌<◌, zero-le}
use native.Mathlib.Nat.{le_refl, lt_of_lt_of_le, pow-suc}
use native.Mathlib.Decide.{dec_lt}
use native.Mathlib.Omega.{arith}
use borrow.Author.Tests.{le-ltb, lt-ltb}
use denote.Floats.{passes}
use lib.Bits.{bit_and}
use lib.ListN.{length, length-append}
use lib.Pow.{pow_pos}
use Rattle.bitset.specs.Members.{has, ◌∖◌, size, ◌∈◌}
use Rattle.bitset.proofs.Size.{lowest-trailing}
use Rattle.bitset.proofs.Sets.{in_and, size-drop}
use Rattle.node_set.specs.Width.{node_width}
use Rattle.network.specs.declared.Network.{Network}
use Rattle.branches.specs.declared.Branch.{Branch}
use Rattle.branches.specs.Enumeration.{candidate, joined, left_out, is_open, row_of, branch_rows, rows_of, rows_if, join_rows, leave_out_rows}

-- ---- the recursion

-- A candidate is an undecided node of the around.
pub candidate-in : (b : Branch) → candidate b < node_width → (candidate b ∈ b.around.0) × (candidate b ∈ b.undecided.0)
candidate-in b h =
    let s : ℕ = bit_and b.around.0 b.undecided.0 in
    (in_and b.around.0 b.undecided.0 (candidate b)).0 (passes (has s (candidate b)) ((lowest-trailing node_width s).member h))

-- Where there is no candidate, no undecided node of the around has a number below the width.
pub candidate-none : (b : Branch) → node_width ≤ candidate b → (v : ℕ) → v < node_width → v ∈ b.around.0 → v ∈ b.undecided.0 → ⊥
candidate-none b h v l m n =
    let s : ℕ = bit_and b.around.0 b.undecided.0 in
    rw ((lowest-trailing node_width s).none_below v (lt_of_lt_of_le l h)) at ((in_and b.around.0 b.undecided.0 v).1 (m, n))

-- To decide a candidate leaves one node fewer undecided.
pub undecided-falls : (b : Branch) → candidate b < node_width → size node_width b.undecided.0 ≡ suc (size node_width (b.undecided.0 ∖ 2 ^ candidate b))
undecided-falls b h = size-drop node_width b.undecided.0 (candidate b) h (candidate-in b h).1

module _ (M : Network) where
  -- A branch without a candidate gives one row.
  pub rows-leaf : (b : Branch) → node_width ≤ candidate b → rows_of M b ≡ row_of b ∷ []
  unfolding rows_of branch_rows
  rows-leaf b h = go (size node_width b.undecided.0)
    where
      go : (n : ℕ) → branch_rows M n b ≡ row_of b ∷ []
      go zero = refl
      go (suc n) = rw (le-ltb (candidate b) node_width h, branch_rows)

  -- A branch with a candidate gives the rows in which it joins and those in which it is left out.
  pub rows_split : (b : Branch) → candidate b < node_width → rows_of M b ≡ join_rows M b (candidate b) ++ leave_out_rows M b (candidate b)
  unfolding rows_of branch_rows joined left_out
  rows_split b h = rw (undecided-falls b h, rows_of, branch_rows, lt-ltb (candidate b) node_width h)

  -- What holds of every branch without a candidate, and of a branch with one if of both its halves, holds of every branch.
  pub branch-induct : (P : Branch → Type 0) → ((b : Branch) → node_width ≤ candidate b → P b)
      → ((b : Branch) → candidate b < node_width → P (joined M b (candidate b)) → P (left_out b (candidate b)) → P b)
      → (b : Branch) → P b
  unfolding joined left_out
  branch-induct P leaf split b = go (size node_width b.undecided.0) b (le_refl (size node_width b.undecided.0))
    where
      go : (n : ℕ) (b : Branch) → size node_width b.undecided.0 ≤ n → P b
      go zero b h = by-none (dec_lt (candidate b) node_width)
        where
          by-none : Dec (candidate b < node_width) → P b
          by-none (yes l) = absurd (omega (arith, undecided-falls b l))
          by-none (no l) = leaf b (omega arith)
      go (suc n) b h = by-halves (dec_lt (candidate b) node_width) (λ l. go n (joined M b (candidate b)) (omega (arith, undecided-falls b l))) (λ l. go n (left_out b (candidate b)) (omega (arith, undecided-falls b l)))
        where
          by-halves : Dec (candidate b < node_width) → (candidate b < node_width → P (joined M b (candidate b))) → (candidate b < node_width → P (left_out b (candidate b))) → P b
          by-halves (yes l) j k = split b l (j l) (k l)
          by-halves (no l) j k = leaf b (omega arith)

  -- ---- how many rows

  -- A half that is entered or not has no more rows than the branch that may be entered.
  half_length : (t : Bool) (b : Branch) → length (rows_if t M b) ≤ length (rows_of M b)
  half_length true b = le_refl (length (rows_of M b))
  half_length false b = zero-le

  -- A branch has at most 2 ^ n rows, n the number of its undecided nodes.
  pub rows_bound : (b : Branch) → length (rows_of M b) ≤ 2 ^ size node_width b.undecided.0
  unfolding joined left_out
  rows_bound = branch-induct (λ b. length (rows_of M b) ≤ 2 ^ size node_width b.undecided.0)
      (λ b h. rw (rows-leaf b h) (pow_pos (size node_width b.undecided.0)))
      (λ b h j l.
      let v : ℕ = candidate b in
      let n : ℕ = size node_width (b.undecided.0 ∖ 2 ^ v) in
      rw (rows_split b h, length-append (join_rows M b v) (leave_out_rows M b v), undecided-falls b h)
      (omega (arith, pow-suc 2 n, j, l, half_length (is_open (joined M b v)) (joined M b v), half_length (has b.rest.0 v) (left_out b v))))
