-- Plans that were trimmed already, and the call that lists them: what it lists is the ordinary list, and which plans it takes.
-- To believe.
--
--   SameListing N cuts sides     the call answers as the list call does, and leaves the same rows
--   TrimmedListed        where it lists, and on a trimmed plan whatever was lent, it does what the list call does; when two lists are equal;
--                        which plans are trimmed
use Rattle.std.specs.Prelude.{List, ◌↔◌, ◌≡◌, ℕ, ◌-◌, ◌^◌}
use Rattle.network.specs.declared.Network.{Network}
use Rattle.network.specs.Record.{Stored, fault_of, present}
use Rattle.network.specs.Ends.{Loop}
use Rattle.graph.specs.Paths.{Minpath, SameMinpaths}
use Rattle.graph.specs.Cuts.{Trimmed}
use Rattle.graph.specs.Lists.{SameList}
use Rattle.connectivity.specs.Answers.{relevant_of}
use Rattle.listing.specs.List.{listed_by, cut_rows_after, Listing}
use Rattle.listing.specs.Trimmed.{trimmed_listed_by, trimmed_cut_rows, trimmed_side_rows}

abbrev pub SameListing : Network → List ℕ → List ℕ → Type 0
SameListing N cuts sides =
    let l = trimmed_listed_by N cuts sides in
    Listing N cuts sides l.refusal l.count (trimmed_cut_rows N cuts sides) (trimmed_side_rows N cuts sides)

pub record TrimmedListed : Type 0 where
  -- Where it lists, the rows are those of the list call.
  pub rows : (N : Network) (cuts sides : List ℕ) → (trimmed_listed_by N cuts sides).refusal ≡ 0 → SameListing N cuts sides
  -- A trimmed plan ends as by the list call, refused or not.
  pub trimmed : (N : Network) → Stored N → Trimmed N → (cuts sides : List ℕ) → SameListing N cuts sides
  -- So two lists, both by this call or one of them, are equal exactly if the two plans have the same routes (demand 3).
  pub lists : (N M : Network) → Stored N → Stored M → (cuts sides cuts' sides' : List ℕ)
      → (trimmed_listed_by N cuts sides).refusal ≡ 0 → (trimmed_listed_by M cuts' sides').refusal ≡ 0
      → SameList (trimmed_listed_by N cuts sides).count (trimmed_cut_rows N cuts sides) (trimmed_listed_by M cuts' sides').count (trimmed_cut_rows M cuts' sides')
      ↔ SameMinpaths N M
  pub either-lists : (N M : Network) → Stored N → Stored M → (cuts sides cuts' sides' : List ℕ)
      → (trimmed_listed_by N cuts sides).refusal ≡ 0 → (listed_by M cuts' sides').refusal ≡ 0
      → SameList (trimmed_listed_by N cuts sides).count (trimmed_cut_rows N cuts sides) (listed_by M cuts' sides').count (cut_rows_after M cuts' sides')
      ↔ SameMinpaths N M
  -- A plan is trimmed exactly if its useful part is all of it.
  pub part : (N : Network) → Stored N → fault_of N ≡ 0
      → Trimmed N ↔ (((relevant_of N).nodes.0 ≡ 2 ^ N.nodes - 1) × ((relevant_of N).edges.0 ≡ present N))
  -- A plan with a loop is refused with 26.
  pub loop : (N : Network) → Stored N → fault_of N ≡ 0 → (k v : ℕ) → Loop N k v → (cuts sides : List ℕ) → (trimmed_listed_by N cuts sides).refusal ≡ 26
  -- Two points without a cable are trimmed, and nothing else without a route is.
  pub two-points : (N : Network) → Stored N → fault_of N ≡ 0 → N.nodes ≡ 2 → present N ≡ 0 → Trimmed N
  pub no-route : (N : Network) → Stored N → fault_of N ≡ 0 → ((r : ℕ) → Minpath N r → ⊥) → Trimmed N → (N.nodes ≡ 2) × (present N ≡ 0)
