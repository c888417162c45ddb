-- The enumeration of source sides (the paper's near sides), as it is computed: a node beside the side joins it, or is left out for good.
-- Computed: explained by in_rows, cuts-once (branches/proofs/Complete).
--
-- A `Branch` (src/lib.rt) is a side in the making:
--       side             what has joined: a connected set with the source
--       out              what is left out for good
--       undecided        the relevant nodes that are neither, sink aside
--       rest             what the sink reaches among the relevant nodes outside the side
--       around           the side and the nodes beside it
--       cut              the boundary of the side
--
--   relevant_network N   N with the relevant edges alone; the M of the definitions below
--   blank N              the branch in which nothing is decided yet
--   candidate b          the lowest undecided node beside the side, the width if there is none
--   joined M b v         the branch b with v joined
--   left_out b v         the branch b with v left out
--   start N              the first branch: the source alone has joined, nothing is left out
--   is_open b            the sink still reaches all that is left out: otherwise the branch has no row
--   Row                  a cut and the source side beside it
--   cuts_of l            the cuts of a list of rows
--   sides_of l           the sides of a list of rows
--   row_of b             the row of a branch without a candidate
--   branch_rows M n b    the rows of the branch b, with at most n candidates one after the other
--   rows_of M b          the rows of the branch b
--   rows_if t M b        the rows of the branch b if the test t holds, and else none: the branch is not entered
--   join_rows M b v      those in which v joins
--   leave_out_rows M b v  those in which v is left out
--   rows N               the rows of the first branch: all mincuts of N, each beside its source side
use Rattle.std.specs.Prelude.{Bool, true, false, List, [], ◌∷◌, ◌++◌, map, ℕ, zero, suc, ◌^◌, eqb, ltb}
use Rattle.std.specs.Int.Bits.{bit_and, bit_or, bit_xor}
use Rattle.std.specs.Int.Count.{count_trailing_zeros}
use Rattle.bitset.specs.Members.{has, insert, ◌∖◌, size}
use Rattle.node_set.specs.Width.{node_width}
use Rattle.network.specs.declared.Network.{Network}
use Rattle.graph.specs.Cuts.{only}
use Rattle.graph.specs.Reach.{round}
use Rattle.graph.specs.Relevant.{edges_at, reach_in, relevant_nodes, relevant_edges}
use Rattle.branches.specs.declared.Branch.{Branch}

abbrev pub relevant_network : Network → Network
relevant_network N = only N (relevant_edges N)

-- ---- the branches

-- Before the source joins: all relevant nodes but the sink are undecided.
unfoldable pub blank : Network → Branch
blank N = record {
  side = record { 0 = 0 };
  out = record { 0 = 0 };
  undecided = record { 0 = relevant_nodes N ∖ 2 ^ N.sink };
  rest = record { 0 = relevant_nodes N };
  around = record { 0 = 0 };
  cut = record { 0 = 0 };
}

abbrev pub candidate : Branch → ℕ
candidate b = count_trailing_zeros node_width (bit_and b.around.0 b.undecided.0)

-- What the sink reaches without v it reaches in what it reached before.
unfoldable pub joined : Network → Branch → ℕ → Branch
joined M b v = record {
  side = record { 0 = insert b.side.0 v };
  out = b.out;
  undecided = record { 0 = b.undecided.0 ∖ 2 ^ v };
  rest = record { 0 = reach_in M (b.rest.0 ∖ 2 ^ v) M.sink };
  around = record { 0 = bit_or b.around.0 (round M (2 ^ v)) };
  cut = record { 0 = bit_xor b.cut.0 (edges_at M v) };
}

unfoldable pub left_out : Branch → ℕ → Branch
left_out b v = record {
  side = b.side;
  out = record { 0 = insert b.out.0 v };
  undecided = record { 0 = b.undecided.0 ∖ 2 ^ v };
  rest = b.rest;
  around = b.around;
  cut = b.cut;
}

abbrev pub start : Network → Branch
start N = joined (relevant_network N) (blank N) N.source

abbrev pub is_open : Branch → Bool
is_open b = eqb (bit_and b.out.0 b.rest.0) b.out.0

-- ---- the rows

abbrev pub Row : Type 0
Row = ℕ × ℕ

abbrev pub cuts_of : List Row → List ℕ
cuts_of = map (λ (r : Row). r.0)

abbrev pub sides_of : List Row → List ℕ
sides_of = map (λ (r : Row). r.1)

abbrev pub row_of : Branch → Row
row_of b = (b.cut.0, b.side.0)

unfoldable pub branch_rows : Network → ℕ → Branch → List Row
branch_rows M zero b = row_of b ∷ []
branch_rows M (suc n) b =
    let v = candidate b in
    elim (ltb v node_width) [
      | true ↦
          elim (is_open (joined M b v)) [ true ↦ branch_rows M n (joined M b v) | false ↦ [] ]
          ++ elim (has b.rest.0 v) [ true ↦ branch_rows M n (left_out b v) | false ↦ [] ]
      | false ↦ row_of b ∷ []
    ]

unfoldable pub rows_of : Network → Branch → List Row
rows_of M b = branch_rows M (size node_width b.undecided.0) b

abbrev pub rows_if : Bool → Network → Branch → List Row
rows_if t M b = elim t [ true ↦ rows_of M b | false ↦ [] ]

abbrev pub join_rows : Network → Branch → ℕ → List Row
join_rows M b v = rows_if (is_open (joined M b v)) M (joined M b v)

-- With v left out an open branch stays open exactly if the sink reaches v.
abbrev pub leave_out_rows : Network → Branch → ℕ → List Row
leave_out_rows M b v = rows_if (has b.rest.0 v) M (left_out b v)

abbrev pub rows : Network → List Row
rows N = rows_of (relevant_network N) (start N)
