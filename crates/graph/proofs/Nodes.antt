-- The nodes that walks meet: of part of a walk, of a walk back, and what holds at each of them.
-- Assumes nothing.
use mathlib.Core.Path.{refl, sym}
use mathlib.Core.List.Memᴰ
use mathlib.Core.List.{List, [], ◌∷◌, Memᴰ}
use mathlib.Core.Logic.{inl, inr}
use Prim.Native.Nat.{ℕ}
use Rattle.sequences.specs.Distinct.{Distinct}
use Rattle.bitset.specs.Members.{◌∈◌}
use Rattle.network.specs.declared.Network.{Network}
use Rattle.graph.specs.Paths.{Joins, Hop, Leads, nodes_from, Simple, edges_of}
use Rattle.graph.proofs.Walks.{reached-within, edges-cons, simple-append, back, nodes-back}

-- Steps from u that are all among others from u meet no further node.
pub nodes-within : (u : ℕ) (p q : List Hop) → ((s : Hop) → Memᴰ s p → Memᴰ s q)
    → (v : ℕ) → Memᴰ v (nodes_from u p) → Memᴰ v (nodes_from u q)
nodes-within u p q h v m =
    elim (Memᴰ.cases_cons m) [ inl e ↦ Memᴰ.head e | inr m' ↦ Memᴰ.tail (reached-within p q h v m') ]

module _ (N : Network) where
  -- A simple path walked back is simple.
  pub simple-back : (p : List Hop) (u v : ℕ) → Leads N u p v → Simple u p → Simple v (back u p)
  unfolding Leads Distinct back
  simple-back [] u v h d = (Memᴰ.not-nil, tt)
  simple-back (s ∷ p) u v h d =
      (simple-append v (back s.to p) (record { edge = s.edge; to = u } ∷ [])).1 (
        simple-back p s.to v h.1 d.1,
        (Memᴰ.not-nil, tt),
        λ y m n. d.0 (Memᴰ.cast (sym (Memᴰ.eq_of_singleton n)) ((nodes-back N p s.to v y h.1).0 m)),
      )

  -- What holds at the start of a walk, and is carried over each of its edges, holds at each of its nodes.
  pub carried : (P : ℕ → Type 0) (p : List Hop) (u v : ℕ) → Leads N u p v
      → ((e : ℕ) → e ∈ edges_of p → (x y : ℕ) → Joins N e x y → P x → P y)
      → P u → (x : ℕ) → Memᴰ x (nodes_from u p) → P x
  unfolding Leads
  carried P [] u v h over start x m = rw (Memᴰ.eq_of_singleton m) start
  carried P (t ∷ p) u v h over start x m =
      elim (Memᴰ.cases_cons m) [
        | inl e ↦ rw e start
        | inr n ↦
            carried P p t.to v h.1 (λ e i. over e ((edges-cons t p e).1 (inl i)))
            (over t.edge ((edges-cons t p t.edge).1 (inr refl)) u t.to h.0 start) x n
      ]
