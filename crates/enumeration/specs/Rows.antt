-- The rows of the enumeration in two lent areas, one of cuts and one of source sides.
-- Working.
--
--   Fed M b          the sink is in the rest of the branch b, and it is not undecided
--   Whole M b        the rest of the branch b is what the sink reaches inside it
--   Put l n limit cuts sides cuts' sides' r
--                    the areas cuts and sides have become cuts' and sides': they hold the rows of l from place n on, as far as they reach,
--                    and r is the place after these rows, at most one past the limit
--
-- A `Rows` (src/rows.rt) is two areas, the count of the rows found, and the limit:
--   Same r r'        r' has the areas and the limit of r
--   RowsPut l r r'   the rows of l are put behind those of r, and r' has them all
--
-- What the steps of the enumeration give, of every network whose tables and sink they were given:
--   JoinedBranch t b v d     the branch d is b with v joined
--   JoinPut t b v r r'       the rows in which v joins are put
--   LeaveOutPut t b v r r'   the rows in which v is left out are put
use Rattle.std.specs.Prelude.{List, ◌≡◌, ℕ, ◌+◌, ◌^◌, min, length}
use Rattle.std.proofs.lemmas.List.Edits.{sets}
use Rattle.bitset.specs.Members.{◌∈◌, ◌∖◌}
use Rattle.network.specs.declared.Network.{Network}
use Rattle.graph.specs.Relevant.{reach_in}
use Rattle.parts.specs.Parts.{Hangs}
use Rattle.branches.specs.declared.Branch.{Branch}
use Rattle.branches.specs.Enumeration.{Row, cuts_of, sides_of, joined, join_rows, leave_out_rows}
use Rattle.enumeration.specs.declared.rows.Rows.{Rows}
use Rattle.enumeration.specs.declared.Tables.{Tables}
use Rattle.enumeration.specs.Tables.{TablesOf}

pub record Fed (M : Network) (b : Branch) : Type 0 where
  pub sink : M.sink ∈ b.rest.0
  pub decided : M.sink ∈ b.undecided.0 → ⊥

abbrev pub Whole : Network → Branch → Type 0
Whole M b = reach_in M b.rest.0 M.sink ≡ b.rest.0

pub record Put (l : List Row) (n limit : ℕ) (cuts sides cuts' sides' : List ℕ) (r : ℕ) : Type 0 where
  pub count : r ≡ min (n + length l) (limit + 1)
  pub put-cuts : cuts' ≡ sets cuts n (cuts_of l)
  pub put_sides : sides' ≡ sets sides n (sides_of l)

-- ---- the rows found

pub record Same (r r' : Rows) : Type 0 where
  pub cuts : r'.cuts.ghost_name ≡ r.cuts.ghost_name
  pub sides : r'.sides.ghost_name ≡ r.sides.ghost_name
  pub limit : r'.limit ≡ r.limit

abbrev pub RowsPut : List Row → Rows → Rows → Type 0
RowsPut l r r' = Put l r.count r.limit r.cuts.now r.sides.now r'.cuts.now r'.sides.now r'.count

-- ---- the steps

module _ (t : Tables) (b : Branch) (v : ℕ) where
  -- The branch d is b with v joined.
  abbrev pub JoinedBranch : Branch → Type 0
  JoinedBranch d = (M : Network) → TablesOf M t → M.sink ∈ (b.rest.0 ∖ 2 ^ v) → Hangs M b.rest.0 v M.sink → d ≡ joined M b v

  -- The rows in which v joins are put.
  abbrev pub JoinPut : Rows → Rows → Type 0
  JoinPut r r' = (M : Network) → TablesOf M t → Fed M b → Hangs M b.rest.0 v M.sink → RowsPut (join_rows M b v) r r'

  -- The rows in which v is left out are put.
  abbrev pub LeaveOutPut : Rows → Rows → Type 0
  LeaveOutPut r r' = (M : Network) → TablesOf M t → Fed M b → Whole M b → RowsPut (leave_out_rows M b v) r r'
