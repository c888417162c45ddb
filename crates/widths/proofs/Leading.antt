-- Which edges of a row lead, as the code finds them, and so its width.
-- Assumes nothing.
use mathlib.Core.List.{List}
use mathlib.Core.Logic.{◌↔◌}
use mathlib.Core.Path.{◌≡◌}
use Prim.Native.Nat.{ℕ}
use lib.ListN.{get_or}
use Rattle.bitset.specs.Families.{Meets}
use Rattle.bitset.specs.Members.{◌∈◌, ◌⊆◌, size}
use Rattle.network.specs.declared.Network.{Network}
use Rattle.network.specs.Record.{present}
use Rattle.twins.specs.Twins.{Leading, LowerTwins, Alone}
use Rattle.widths.specs.Widths.{width_of}
use Rattle.widths.proofs.Pairs.{leads-width}

module _ (N : Network) (lower : List ℕ) (alone : ℕ) (twins : LowerTwins N lower) (single : Alone N lower alone) where
  -- A member of a row of edges present leads exactly if it is alone in the network or the row has no lower twin of it.
  leads-found : (c l : ℕ) → c ⊆ present N
      → ((k : ℕ) → (k ∈ l) ↔ ((k ∈ c) × ((k ∈ alone → ⊥) → Meets (get_or lower k 0) c → ⊥))) → (k : ℕ) → (k ∈ l) ↔ Leading N c k
  leads-found c l within found k = (
    λ m. let (i, off) = (found k).0 m in (
      i,
      λ j lt q same.
          let twin = (twins k (within k i) j).1 (lt, within j q, same) in
          off (λ a. ((single k).0 a).1 (j, (twin, within j q))) (j, (twin, q)),
    ),
    λ (i, leads). (found k).1 (i, λ n (j, (twin, q)). let (lt, p, same) = (twins k (within k i) j).0 twin in leads j lt q same),
  )

  -- In a row of edges that are alone all lead.
  leads-alone : (c : ℕ) → c ⊆ alone → (k : ℕ) → (k ∈ c) ↔ Leading N c k
  leads-alone c within = leads-found c c (λ k m. ((single k).0 (within k m)).0) (λ k. (λ m. (m, λ n. absurd (n (within k m))), λ p. p.0))

  -- So each way the code finds them their number is the width.
  pub found-width : (c l : ℕ) → c ⊆ present N
      → ((k : ℕ) → (k ∈ l) ↔ ((k ∈ c) × ((k ∈ alone → ⊥) → Meets (get_or lower k 0) c → ⊥))) → size 64 l ≡ width_of N c
  found-width c l within found = leads-width N c l (leads-found c l within found)

  pub alone-width : (c : ℕ) → c ⊆ alone → size 64 c ≡ width_of N c
  alone-width c within = leads-width N c c (leads-alone c within)
