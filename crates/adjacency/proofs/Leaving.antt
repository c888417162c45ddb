-- A node is left out of a table: its row goes, and it goes from the rows of the nodes adjacent to it.
-- Assumes a table in which each node is adjacent to those that are adjacent to it.
--
--   Parted adjacent others c left    the table `others` is the table `adjacent` without c, but for the rows of the nodes that are left
use mathlib.Core.Path.{◌≡◌, refl}
use mathlib.Core.Bool.{not, ◌&&◌}
use mathlib.Core.List.{List, [], ◌∷◌}
use mathlib.Core.Logic.{◌↔◌}
use Prim.Native.Nat.{ℕ, zero, suc}
use native.Mathlib.Decide.{ℕ_discrete}
use lib.Dec.{eqb}
use lib.ListN.{get_or, set}
use lib.Seq.{get_or-set_other}
use Rattle.bitset.specs.Members.{has, ◌∈◌, ◌⊆◌}
use Rattle.bitset.proofs.Subsets.{zero-⊆}
use Rattle.bitset.proofs.Sets.{same_set, not-zero}
use Rattle.bitset.proofs.Results.{in_without}
use Rattle.bitset.proofs.Scans.{Less}
use Rattle.adjacency.specs.Adjacency.{Mutual}

-- The table `others` is the table `adjacent` without c, but for the rows of the nodes that are left.
abbrev pub Parted : List ℕ → List ℕ → ℕ → ℕ → Type 0
Parted adjacent others c left =
    (v w : ℕ) → (w ∈ get_or others v 0) ↔ ((w ∈ get_or adjacent v 0) × (v ≡ c → ⊥) × (w ≡ c → v ∈ left))

-- A row that loses members is what was put there, wherever the table ends.
shrunk : (t : List ℕ) (k row : ℕ) → row ⊆ get_or t k 0 → get_or (set t k row) k 0 ≡ row
shrunk [] k row less = same_set (λ j. (λ m. absurd (not-zero j m), λ m. absurd (not-zero j (less j m))))
shrunk (x ∷ t) zero row less = refl
shrunk (x ∷ t) (suc k) row less = shrunk t k row less

module _ (adjacent : List ℕ) (c : ℕ) where
  -- At first the row of c is gone, and the other nodes adjacent to c are left.
  pub parted-first : Mutual adjacent → (left : ℕ) → ((j : ℕ) → has left j ≡ has (get_or adjacent c 0) j && not (eqb j c))
      → Parted adjacent (set adjacent c 0) c left
  parted-first back left drops v w = go (ℕ_discrete v c)
    where
      go : Dec (v ≡ c) → (w ∈ get_or (set adjacent c 0) v 0) ↔ ((w ∈ get_or adjacent v 0) × (v ≡ c → ⊥) × (w ≡ c → v ∈ left))
      go (yes e) = rw (e, shrunk adjacent c 0 (zero-⊆ (get_or adjacent c 0))) (λ m. absurd (not-zero w m), λ p. absurd (p.1 refl))
      go (no n) = rw (get_or-set_other adjacent c v 0 0 n) (
        λ m. (m, n, λ e. (in_without (get_or adjacent c 0) c left drops v).1 (rw e at (back v w m), n)),
        λ p. p.0,
      )

  -- One node less is left: c goes from its row.
  pub parted-next : (others : List ℕ) (left k left' row : ℕ) → Less left k left'
      → ((j : ℕ) → has row j ≡ has (get_or others k 0) j && not (eqb j c))
      → Parted adjacent others c left → Parted adjacent (set others k row) c left'
  parted-next others left k left' row less drops parted v w = go (ℕ_discrete v k)
    where
      drop : (j : ℕ) → (j ∈ row) ↔ ((j ∈ get_or others k 0) × (j ≡ c → ⊥))
      drop = in_without (get_or others k 0) c row drops

      go : Dec (v ≡ k) → (w ∈ get_or (set others k row) v 0) ↔ ((w ∈ get_or adjacent v 0) × (v ≡ c → ⊥) × (w ≡ c → v ∈ left'))
      go (yes e) = rw (e, shrunk others k row (λ j m. ((drop j).0 m).0)) (
        λ m. let p = (drop w).0 m in let q = (parted k w).0 p.0 in (q.0, q.1, λ d. absurd (p.1 d)),
        λ q.
            let off : w ≡ c → ⊥ = λ d. ((less.rest k).0 (q.2 d)).1 refl in
            (drop w).1 ((parted k w).1 (q.0, q.1, λ d. absurd (off d)), off),
      )
      go (no n) = rw (get_or-set_other others k v row 0 n) (
        λ m. let q = (parted v w).0 m in (q.0, q.1, λ d. (less.rest v).1 (q.2 d, n)),
        λ q. (parted v w).1 (q.0, q.1, λ d. ((less.rest v).0 (q.2 d)).0),
      )

  -- Where none is left, the table is without c.
  pub parted-last : (others : List ℕ) (left : ℕ) → ((j : ℕ) → j ∈ left → ⊥) → Parted adjacent others c left
      → (v w : ℕ) → (w ∈ get_or others v 0) ↔ ((w ∈ get_or adjacent v 0) × (v ≡ c → ⊥) × (w ≡ c → ⊥))
  parted-last others left none parted v w = (
    λ m. let q = (parted v w).0 m in (q.0, q.1, λ d. none v (q.2 d)),
    λ q. (parted v w).1 (q.0, q.1, λ d. absurd (q.2 d)),
  )
