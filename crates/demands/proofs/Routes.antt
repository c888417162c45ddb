-- A list of routes is no list of cuts: on two cables in a row no program that lists the routes in place of the minimal cuts keeps demand 2.
-- Assumes nothing.
use mathlib.Core.Path.{◌≡◌, refl}
use mathlib.Core.List.Memᴰ
use mathlib.Core.List.{List, [], ◌∷◌, Memᴰ}
use mathlib.Core.Logic.{inl, inr, ◌↔◌}
use Prim.Native.Nat.{ℕ, zero, suc, ◌<◌}
use native.Mathlib.Omega.{arith}
use lib.ListN.{get_or}
use Rattle.sequences.specs.Distinct.{Distinct}
use Rattle.bitset.specs.Members.{has, insert, ◌∖◌, members_from}
use Rattle.network.specs.Record.{◌when◌, ◌then◌, size_fault, outside_fault, bare, with_edge}
use Rattle.format.specs.Format.{number_fault, size_refusal, terminals_refusal, edge_refusal, end_refusal, size_step, terminals_step, edge_step, length_step, length_size, if_taken, edges, decode_up_to}
use Rattle.graph.specs.Paths.{Joins, Leads, edges_of, Minpath}
use Rattle.graph.specs.Cuts.{Mincut}
use Rattle.graph.specs.Lists.{CompleteList}
use Rattle.demands.specs.Halls.{in_a_row, halls, network_of}
use Rattle.demands.proofs.Halls.{halls-established}

-- An element that differs from the first stands after it, if at all.
later : {x y : ℕ} {l : List ℕ} → (x ≡ y → ⊥) → (Memᴰ x l → ⊥) → Memᴰ x (y ∷ l) → ⊥
later differs absent m = elim (Memᴰ.cases_cons m) [ inl e ↦ differs e | inr n ↦ absent n ]

-- The two cables are a route.
route : Minpath (network_of in_a_row) 3
unfolding Distinct has insert ◌∖◌ members_from ◌when◌ ◌then◌ size_fault outside_fault bare with_edge number_fault size_refusal terminals_refusal edge_refusal end_refusal size_step terminals_step edge_step length_step length_size if_taken edges decode_up_to Joins Leads edges_of in_a_row
route = record {
  steps = record { edge = 0; to = 1 } ∷ record { edge = 1; to = 2 } ∷ [];
  leads = ((tt, inl (refl, refl)), ((tt, inl (refl, refl)), refl));
  simple = (
    later (λ e. omega arith) (later (λ e. omega arith) Memᴰ.not-nil),
    (later (λ e. omega arith) Memᴰ.not-nil, (Memᴰ.not-nil, tt)),
  );
  members = refl;
}

-- The hall is in the table.
listed : Memᴰ in_a_row halls
unfolding halls
listed = Memᴰ.tail (Memᴰ.tail (Memᴰ.tail (Memᴰ.tail (Memᴰ.tail (Memᴰ.tail (Memᴰ.head refl))))))

-- They are no minimal cut: the table has 1 and 2.
no-mincut : Mincut (network_of in_a_row) 3 → ⊥
unfolding in_a_row
no-mincut m =
    let (i, l, e) = ((halls-established in_a_row listed).complete.members 3).1 m in go i l e
  where
    go : (i : ℕ) → i < 2 → ◌≡◌ {A = ℕ} (get_or (1 ∷ 2 ∷ []) i 0) 3 → ⊥
    go zero l e = omega arith
    go (suc zero) l e = omega arith
    go (suc (suc i)) l e = omega arith

-- So no complete list of this hall holds exactly the routes.
pub lists-no-routes : (n : ℕ) (cuts sides : List ℕ) → CompleteList (network_of in_a_row) n cuts sides
    → ((c : ℕ) → ((i : ℕ) × (i < n) × (get_or cuts i 0 ≡ c)) ↔ Minpath (network_of in_a_row) c) → ⊥
lists-no-routes n cuts sides whole routes = no-mincut ((whole.members 3).0 ((routes 3).1 route))
