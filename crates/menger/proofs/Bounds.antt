-- Minpaths of which no two share an edge: that they are never more than a cut has edges, and that none stands in a list of them twice.
-- Assumes, of cuts, that the edges have numbers below 64 and ends below the node count.
use mathlib.Core.Path.{◌≡◌, refl, sym, ◌∙◌}
use mathlib.Core.Bool.{false}
use mathlib.Core.List.Memᴰ
use mathlib.Core.List.Pairwise
use mathlib.Core.List.{List, [], ◌∷◌, Pairwise, rel_of_Pairwise-cons, Pairwise-singleton, Memᴰ}
use mathlib.Core.Logic.{◌⊎◌, inl, inr, ◌↔◌, ◌≢◌}
use Prim.Native.Nat.{ℕ, ◌≤◌}
use native.Mathlib.Nat.{lt_of_le_of_lt, le_antisymm}
use native.Mathlib.Omega.{arith}
use denote.Floats.{is_true}
use lib.ListN.{length}
use Rattle.sequences.specs.Distinct.{Distinct}
use Rattle.bitset.specs.Members.{has, ◌∈◌, ◌⊆◌, size}
use Rattle.bitset.specs.Families.{Disjoint}
use Rattle.bitset.proofs.Subsets.{same_test, subset-le}
use Rattle.bitset.proofs.Size.{size-lt}
use Rattle.bitset.proofs.Sets.{whole-or-missing}
use Rattle.bitset.proofs.Families.{disjoint-at-most}
use Rattle.network.specs.declared.Network.{Network}
use Rattle.network.specs.Record.{present}
use Rattle.graph.specs.Paths.{Hop, Leads, edges_of, Minpath}
use Rattle.graph.specs.Cuts.{Cut, Mincut}
use Rattle.graph.specs.Reach.{Bounded}
use Rattle.graph.proofs.Walks.{edges-cons}
use Rattle.graph.proofs.Cuts.{cut-transversal}
use Rattle.graph.proofs.EdgeSets.{edge-lt}
use Rattle.menger.specs.Separate.{Apart, Most}

-- Every cut has an edge of each of some minpaths, and these are different ones if no two share an edge.
pub apart-cut : (N : Network) → Bounded N → (l : List ℕ) → Apart N l → (c : ℕ) → Cut N c → length l ≤ size 64 c
apart-cut N B l apart c cut =
    disjoint-at-most 64 c (lt_of_le_of_lt (subset-le c (present N) cut.present) B.edges) l apart.disjoint
    (λ r m. ((cut-transversal N c).0 cut).1 r (apart.minpaths r m))

-- So as many minpaths as a cut has edges are the most.
pub apart-most : (N : Network) → Bounded N → (l : List ℕ) → Apart N l → (c : ℕ) → Cut N c → length l ≡ size 64 c → Most N (length l)
apart-most N B l apart c cut same =
    record { ways = l; apart = apart; count = refl; most = λ k other. rw same (apart-cut N B k other c cut) }

-- A cut is a mincut if none has fewer edges.
pub fewest-mincut : (N : Network) → Bounded N → (c : ℕ) → Cut N c → ((d : ℕ) → Cut N d → size 64 c ≤ size 64 d) → Mincut N c
fewest-mincut N B c cut fewest = record { cut = cut; least = λ d within other. go d within (fewest d other) (whole-or-missing d c within) }
  where
    go : (d : ℕ) → d ⊆ c → size 64 c ≤ size 64 d → (d ≡ c) ⊎ ((e : ℕ) × (e ∈ c) × (e ∈ d → ⊥)) → d ≡ c
    go d within h (inl same) = same
    go d within h (inr (e, m, n)) =
        let below = edge-lt N B e (cut.present e m) in
        absurd (omega (arith, h, size-lt 64 d c e within below (is_true (has c e) m) (same_test (has d e) false n absurd)))

-- There is one largest number.
pub most-unique : (N : Network) (k j : ℕ) → Most N k → Most N j → k ≡ j
most-unique N k j a b = le_antisymm (rw a.count at (b.most a.ways a.apart)) (rw b.count at (a.most b.ways b.apart))

-- Without a minpath the most are none, and with one they are not.
pub most-none : (N : Network) (k : ℕ) → Most N k → ((r : ℕ) → Minpath N r → ⊥) ↔ (k ≡ 0)
most-none N k m = (
  λ none. sym m.count ∙ empty none m.ways m.apart.minpaths,
  λ e r path.
      let one : Apart N (r ∷ []) = record { minpaths = λ s i. rw (Memᴰ.eq_of_singleton i) path; disjoint = Pairwise-singleton Disjoint r } in
      omega (arith, e, m.most (r ∷ []) one),
)
  where
    empty : ((r : ℕ) → Minpath N r → ⊥) → (l : List ℕ) → ((r : ℕ) → Memᴰ r l → Minpath N r) → length l ≡ 0
    empty none [] paths = refl
    empty none (r ∷ l) paths = absurd (none r (paths r (Memᴰ.head refl)))

-- A minpath between two different nodes has an edge.
minpath-edge : (N : Network) → N.source ≢ N.sink → (r : ℕ) → Minpath N r → (e : ℕ) × (e ∈ r)
unfolding Leads
minpath-edge N differ r m = rw (← m.members) (go m.steps m.leads)
  where
    go : (p : List Hop) → Leads N N.source p N.sink → (e : ℕ) × (e ∈ edges_of p)
    go [] h = absurd (differ h)
    go (s ∷ p) h = (s.edge, (edges-cons s p s.edge).1 (inr refl))

-- So none stands in such a list twice.
pub apart_distinct : (N : Network) → N.source ≢ N.sink → (l : List ℕ) → Apart N l → Distinct l
unfolding Distinct
apart_distinct N differ l apart = go l apart.minpaths apart.disjoint
  where
    go : (k : List ℕ) → ((r : ℕ) → Memᴰ r k → Minpath N r) → Pairwise Disjoint k → Distinct k
    go [] paths disjoint = tt
    go (r ∷ k) paths disjoint = (
      λ m. let (e, i) = minpath-edge N differ r (paths r (Memᴰ.head refl)) in rel_of_Pairwise-cons disjoint ∣ m ∣₁ (e, (i, i)),
      go k (λ s m. paths s (Memᴰ.tail m)) (Pairwise.of_cons disjoint),
    )
