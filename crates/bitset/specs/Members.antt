-- Sets of small numbers, each kept in one number: member k weighs 2 ^ k.
-- To believe.
--
--   has s k          whether k is a member of s; a Bool, so that it computes
--   k ∈ s            k is a member of s
--   s ⊆ t            every member of s is a member of t
--   insert s k       s with the member k  [computed: in_insert (bitset/proofs/Sets)]
--   add_if b s k     s with the member k where b holds, else s  [computed: in-add_if (bitset/proofs/Sets)]
--   s ∖ t            the members of s that are not in t  [computed: in-minus (bitset/proofs/Sets)]
--   size w s         how many members s has below w
--   Lowest w s r     r is the lowest member of s below w, and is w if there is none  [working]
--   members_from s k n   the members of s among the n numbers from k on, rising
--                    [computed: in_members, members-rising (bitset/proofs/MemberList)]
--   members w s      the members of s below w, rising  [computed: in_members, members-rising (bitset/proofs/MemberList)]
--   subsets w s      the subsets of the members of s below w, as numbers, rising
--                    [computed: mem-subsets, subsets-rising (bitset/proofs/Subsets)]
--
-- A set of points and a set of cables are both such numbers; the code keeps the two kinds apart by their types, `NodeSet` and `EdgeSet`,
-- and everything below is said once for every width.
use Rattle.std.specs.Prelude.{◌≡◌, Bool, true, false, List, [], ◌∷◌, ◌++◌, map, ℕ, zero, suc, ◌+◌, ◌-◌, ◌/◌, ◌%◌, ◌^◌, ◌≤◌, ◌<◌, T, eqb, ltb}
use Rattle.std.specs.Int.Bits.{bit_and}

infix 40 ◌∈◌
infix 40 ◌⊆◌
infixl 65 ◌∖◌
-- The binary digit of s of weight 2 ^ k is 1.
unfoldable pub has : ℕ → ℕ → Bool
has s k = eqb (s / 2 ^ k % 2) 1

abbrev pub ◌∈◌ : ℕ → ℕ → Type 0
k ∈ s = T (has s k)

abbrev pub ◌⊆◌ : ℕ → ℕ → Type 0
s ⊆ t = (k : ℕ) → k ∈ s → k ∈ t

unfoldable pub insert : ℕ → ℕ → ℕ
insert s k = elim (has s k) [ true ↦ s | false ↦ s + 2 ^ k ]

unfoldable pub add_if : Bool → ℕ → ℕ → ℕ
add_if b s k = elim b [ true ↦ insert s k | false ↦ s ]

-- The common members are taken off the number.
unfoldable pub ◌∖◌ : ℕ → ℕ → ℕ
s ∖ t = s - bit_and s t

unfoldable pub size : ℕ → ℕ → ℕ
size zero s = 0
size (suc w) s = elim (has s w) [ true ↦ suc (size w s) | false ↦ size w s ]

pub record Lowest (w s r : ℕ) : Type 0 where
  pub within : r ≤ w
  pub none_below : (k : ℕ) → k < r → has s k ≡ false
  pub member : r < w → has s r ≡ true

-- The members of s among the n numbers from k on, rising. It stops where s has no more.
unfoldable pub members_from : ℕ → ℕ → ℕ → List ℕ
members_from s k zero = []
members_from s k (suc n) =
    elim (ltb s (2 ^ k)) [
      | true ↦ []
      | false ↦ elim (has s k) [ true ↦ k ∷ members_from s (suc k) n | false ↦ members_from s (suc k) n ]
    ]

abbrev pub members : ℕ → ℕ → List ℕ
members w s = members_from s 0 w

-- Those without w come first: they are below 2 ^ w, and the others are not.
unfoldable pub subsets : ℕ → ℕ → List ℕ
subsets zero s = 0 ∷ []
subsets (suc w) s =
    elim (has s w) [
      | true ↦ let below = subsets w s in below ++ map (λ t. t + 2 ^ w) below
      | false ↦ subsets w s
    ]
