-- Loops, edges with both ends at one node: no simple path takes one, so that they lie on no minpath and in no mincut.
-- Assumes nothing.
use mathlib.Core.Path.{◌≡◌, refl, sym, ◌∙◌}
use mathlib.Core.List.Memᴰ
use mathlib.Core.List.{List, [], ◌∷◌}
use mathlib.Core.Logic.{inl, inr, ⊎_elim}
use Prim.Native.Nat.{ℕ, ◌^◌}
use Rattle.sequences.specs.Distinct.{Distinct}
use Rattle.bitset.specs.Members.{◌∈◌, ◌∖◌}
use Rattle.bitset.proofs.Sets.{in-drop, minus-⊆}
use Rattle.network.specs.declared.Network.{Network}
use Rattle.graph.specs.Paths.{Joins, Hop, Leads, Simple, edges_of, Minpath}
use Rattle.graph.specs.Cuts.{Cut, Mincut, RelevantEdge}
use Rattle.graph.proofs.Walks.{edges-nil, edges-cons, joins-sym, joins-ends}
use Rattle.graph.proofs.Cuts.{cut-transversal}

module _ (N : Network) where
  -- A loop is on no simple path.
  pub no_loop : (p : List Hop) (u v e x : ℕ) → Leads N u p v → Simple u p → e ∈ edges_of p → Joins N e x x → ⊥
  unfolding Leads Distinct
  no_loop [] u v e x h simple m j = edges-nil e m
  no_loop (s ∷ p) u v e x h simple m j =
      elim ((edges-cons s p e).0 m) [
        | inl i ↦ no_loop p s.to v e x h.1 simple.1 i j
        | inr q ↦
            let k : Joins N e u s.to = rw q h.0 in
            let a : s.to ≡ x = ⊎_elim (λ c. c) (λ c. c) (joins-ends N e x x s.to u j (joins-sym N e u s.to k)) in
            let b : u ≡ x = ⊎_elim (λ c. c) (λ c. c) (joins-ends N e x x u s.to j k) in
            simple.0 (Memᴰ.head (b ∙ sym a))
      ]

  module _ (e x : ℕ) (j : Joins N e x x) where
    -- A loop is on no minpath.
    pub loop-minpath : (r : ℕ) → Minpath N r → e ∈ r → ⊥
    loop-minpath r m i = no_loop m.steps N.source N.sink e x m.leads m.simple (rw m.members i) j

    -- So it is not relevant.
    pub loop-relevant : RelevantEdge N e → ⊥
    loop-relevant (r, (m, i)) = loop-minpath r m i

    -- A loop is in no mincut: without it a cut is still one, since it meets each minpath in another edge.
    pub loop-mincut : (c : ℕ) → Mincut N c → e ∈ c → ⊥
    loop-mincut c m i =
        let cut = (cut-transversal N c).0 m.cut in
        let rest : Cut N (c ∖ 2 ^ e) = (cut-transversal N (c ∖ 2 ^ e)).1 (
          λ k q. cut.0 k (minus-⊆ c (2 ^ e) k q),
          λ r p.
              let k = cut.1 r p in
              (k.0, (k.1.0, (in-drop c e k.0).1 (k.1.1, λ q. loop-minpath r p (rw q at k.1.0)))),
        ) in
        ((in-drop c e e).0 (rw (m.least (c ∖ 2 ^ e) (minus-⊆ c (2 ^ e)) rest) i)).1 refl
