-- Families of sets: least sets, transversals and blockers.
-- To believe.
--
--   Meets s t            the sets s and t have a common member
--   Disjoint s t         they have none
--   Holds F h            some set of the family F lies inside h
--   Least P t            t has P, and no proper subset of it has
--   Transversal F t      t meets every set of F
--   Blocker F            the family of the least transversals of F
--   Clutter F            no set of F holds another  [working]
use Rattle.std.specs.Prelude.{◌≡◌, ℕ}
use Rattle.bitset.specs.Members.{◌⊆◌, ◌∈◌}

abbrev pub Meets : ℕ → ℕ → Type 0
Meets s t = (k : ℕ) × ((k ∈ s) × (k ∈ t))

abbrev pub Disjoint : ℕ → ℕ → Type 0
Disjoint s t = Meets s t → ⊥

abbrev pub Holds : (ℕ → Type 0) → ℕ → Type 0
Holds F h = (r : ℕ) × (F r × (r ⊆ h))

pub record Least (P : ℕ → Type 0) (t : ℕ) : Type 0 where
  pub has : P t
  pub least : (d : ℕ) → d ⊆ t → P d → d ≡ t

abbrev pub Transversal : (ℕ → Type 0) → ℕ → Type 0
Transversal F t = (r : ℕ) → F r → Meets r t

abbrev pub Blocker : (ℕ → Type 0) → ℕ → Type 0
Blocker F = Least (Transversal F)

abbrev pub Clutter : (ℕ → Type 0) → Type 0
Clutter F = (r r' : ℕ) → F r → F r' → r ⊆ r' → r ≡ r'
