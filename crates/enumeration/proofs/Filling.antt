-- The table of the edges at each node as it is filled, edge by edge: it is right for the network with the edges that are gone through.
-- Assumes that the ends of the edge have a place in the table.
use mathlib.Core.Path.{◌≡◌, refl}
use mathlib.Core.List.{List}
use mathlib.Core.Logic.{inl, inr}
use Prim.Native.Nat.{ℕ, ◌<◌}
use lib.ListN.{length, get_or}
use Rattle.bitset.specs.Members.{insert}
use Rattle.bitset.proofs.Members.{has-zero}
use Rattle.network.specs.declared.Network.{Network}
use Rattle.network.specs.Record.{first_end, second_end}
use Rattle.graph.specs.Paths.{Joins}
use Rattle.graph.specs.Cuts.{only}
use Rattle.adjacency.specs.Adjacency.{with_member}
use Rattle.adjacency.proofs.Filling.{in-with-both, joins-insert}
use Rattle.enumeration.specs.Tables.{Incidence}

module _ (N : Network) where
  -- No edge is gone through, and the table is empty.
  pub incidence-first : (t : List ℕ) → ((v : ℕ) → get_or t v 0 ≡ 0) → Incidence (only N 0) t
  unfolding Joins only
  incidence-first t empty v e = rw (empty v) (λ m. absurd (rw (has-zero e) at m), λ j. absurd (rw (has-zero e) at j.1.0))

  -- One edge k more is gone through: it is at each of its ends.
  pub incidence-next : (s k : ℕ) (t : List ℕ) → first_end N k < length t → second_end N k < length t → Incidence (only N s) t
      → Incidence (only N (insert s k)) (with_member (with_member t (first_end N k) k) (second_end N k) k)
  incidence-next s k t first second old v e =
      let both = in-with-both t (first_end N k) (second_end N k) k k first second v e in (
        λ m. elim (both.0 m) [
          | inl i ↦ let j = (old v e).0 i in (j.0, (joins-insert N s k e v j.0).1 (inl j.1))
          | inr q ↦ elim q [
            | inl p ↦ (second_end N k, (joins-insert N s k e v (second_end N k)).1 (inr (p.1, inl (p.0, refl))))
            | inr p ↦ (first_end N k, (joins-insert N s k e v (first_end N k)).1 (inr (p.1, inr (p.0, refl))))
          ]
        ],
        λ j. both.1 (elim ((joins-insert N s k e v j.0).0 j.1) [
          | inl i ↦ inl ((old v e).1 (j.0, i))
          | inr q ↦ inr (elim q.1 [ inl p ↦ inl (p.0, q.0) | inr p ↦ inr (p.0, q.0) ])
        ]),
      )
