-- The pair of points that an edge joins has its ends as members, and is of a loop the set of its one point; and two edges join the same
-- pair exactly if their ends are the same, in one order or the other.
-- Assumes nothing.
use mathlib.Core.Path.{◌≡◌, refl, sym, ◌∙◌}
use mathlib.Core.Logic.{◌⊎◌, inl, inr, ⊎_map, ⊎_swap, ◌↔◌}
use Prim.Native.Nat.{ℕ, ◌^◌}
use Rattle.bitset.specs.Members.{insert, ◌∈◌}
use Rattle.bitset.proofs.Sets.{in_insert, in-single, same_set}
use Rattle.network.specs.declared.Network.{Network}
use Rattle.network.specs.Record.{first_end, second_end}
use Rattle.network.specs.Ends.{ends_of, Loop}

-- ---- pairs of numbers

-- The members of a pair are its two numbers.
in_pair : (a b v : ℕ) → (v ∈ insert (2 ^ a) b) ↔ ((v ≡ a) ⊎ (v ≡ b))
unfolding ⊎_map
in_pair a b v =
    let two = in_insert (2 ^ a) b v in
    let one = in-single a v in
    (λ m. ⊎_map one.0 (λ e. e) (two.0 m), λ c. two.1 (⊎_map one.1 (λ e. e) c))

-- Two pairs are the same exactly if their numbers are, in one order or the other.
same-pair : (a b c d : ℕ) → (insert (2 ^ a) b ≡ insert (2 ^ c) d) ↔ (((a ≡ c) × (b ≡ d)) ⊎ ((a ≡ d) × (b ≡ c)))
same-pair a b c d = (λ e. numbers (there e a (inl refl)) (there e b (inr refl)) (back e c (inl refl)) (back e d (inr refl)), pair)
  where
    there : insert (2 ^ a) b ≡ insert (2 ^ c) d → (v : ℕ) → (v ≡ a) ⊎ (v ≡ b) → (v ≡ c) ⊎ (v ≡ d)
    there e v m = (in_pair c d v).0 (rw e at ((in_pair a b v).1 m))

    back : insert (2 ^ a) b ≡ insert (2 ^ c) d → (v : ℕ) → (v ≡ c) ⊎ (v ≡ d) → (v ≡ a) ⊎ (v ≡ b)
    back e v m = (in_pair a b v).0 (rw (← e) at ((in_pair c d v).1 m))

    numbers : (a ≡ c) ⊎ (a ≡ d) → (b ≡ c) ⊎ (b ≡ d) → (c ≡ a) ⊎ (c ≡ b) → (d ≡ a) ⊎ (d ≡ b) → ((a ≡ c) × (b ≡ d)) ⊎ ((a ≡ d) × (b ≡ c))
    numbers (inl p) (inr q) r s = inl (p, q)
    numbers (inr p) (inl q) r s = inr (p, q)
    numbers (inl p) (inl q) r (inl s) = inl (p, q ∙ sym p ∙ sym s)
    numbers (inl p) (inl q) r (inr s) = inl (p, sym s)
    numbers (inr p) (inr q) (inl r) s = inr (p, q ∙ sym p ∙ sym r)
    numbers (inr p) (inr q) (inr r) s = inr (p, sym r)

    pair : ((a ≡ c) × (b ≡ d)) ⊎ ((a ≡ d) × (b ≡ c)) → insert (2 ^ a) b ≡ insert (2 ^ c) d
    pair (inl (p, q)) = rw (p, q)
    pair (inr (p, q)) =
        rw (p, q) (same_set (λ v. (λ m. (in_pair c d v).1 (⊎_swap ((in_pair d c v).0 m)), λ m. (in_pair d c v).1 (⊎_swap ((in_pair c d v).0 m)))))

-- ---- the pair that an edge joins

-- Its members are the ends.
pub in-ends_of : (N : Network) (k v : ℕ) → (v ∈ ends_of N k) ↔ ((v ≡ first_end N k) ⊎ (v ≡ second_end N k))
in-ends_of N k = in_pair (first_end N k) (second_end N k)

-- Two edges join the same pair exactly if their ends are the same, in one order or the other.
pub same_ends : (N : Network) (j k : ℕ)
    → (ends_of N j ≡ ends_of N k)
    ↔ (((first_end N j ≡ first_end N k) × (second_end N j ≡ second_end N k)) ⊎ ((first_end N j ≡ second_end N k) × (second_end N j ≡ first_end N k)))
same_ends N j k = same-pair (first_end N j) (second_end N j) (first_end N k) (second_end N k)

-- Of a loop it is the set of its one point.
pub loop-ends : (N : Network) (k v : ℕ) → Loop N k v → ends_of N k ≡ 2 ^ v
loop-ends N k v (m, first, second) = same_set (λ x. (
  λ i. (in-single v x).1 (elim ((in-ends_of N k x).0 i) [ inl e ↦ e ∙ first | inr e ↦ e ∙ second ]),
  λ i. (in-ends_of N k x).1 (inl (rw first ((in-single v x).0 i))),
))
