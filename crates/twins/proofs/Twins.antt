-- The table of lower twins, and the edges that are alone in it, as the code finds them.
-- Assumes nothing.
--
--   RowTwins edges pairs k t     the set t holds those of the edges below k that have the entry of k in the table of pairs
use mathlib.Core.Bool.{false, ◌&&◌}
use mathlib.Core.List.{List}
use mathlib.Core.Logic.{◌↔◌}
use mathlib.Core.Path.{◌≡◌, sym, ◌∙◌}
use Prim.Native.Nat.{ℕ, ◌<◌, ◌^◌}
use native.Mathlib.Omega.{arith}
use lib.Dec.{ltb, ltb→lt, lt→ltb}
use lib.ListN.{length, get_or, set}
use lib.Seq.{get_or-set_same, get_or-set_other}
use Rattle.sequences.proofs.Tests.{T_and}
use Rattle.bitset.specs.Families.{Meets}
use Rattle.bitset.specs.Members.{has, ◌∈◌}
use Rattle.bitset.proofs.Scans.{Less, Done, done_next}
use Rattle.bitset.proofs.Sets.{member-lt}
use Rattle.network.specs.declared.Network.{Network}
use Rattle.network.specs.Record.{present}
use Rattle.network.specs.Ends.{ends_of}
use Rattle.twins.specs.Twins.{LowerTwins, Alone}

-- ---- the table

-- The edges below k that have the same entry in the table of pairs.
abbrev pub RowTwins : ℕ → List ℕ → ℕ → ℕ → Type 0
RowTwins edges pairs k t = (j : ℕ) → (j ∈ t) ↔ ((j < k) × (j ∈ edges) × (get_or pairs j 0 ≡ get_or pairs k 0))

module _ (edges : ℕ) (pairs : List ℕ) where
  -- They are found among the edges below k.
  pub row-twins : (k below among t : ℕ) → k < 64 → ((j : ℕ) → has below j ≡ ltb j k && ltb j 64) → ((j : ℕ) → (j ∈ among) ↔ ((j ∈ edges) × (j ∈ below)))
      → ((j : ℕ) → (j ∈ t) ↔ ((j ∈ among) × (get_or pairs j 0 ≡ get_or pairs k 0))) → RowTwins edges pairs k t
  row-twins k below among t h under inside joins j = (
    λ m. let (i, same) = (joins j).0 m in let (p, b) = (inside j).0 i in (ltb→lt j k ((T_and (ltb j k) (ltb j 64)).0 (rw (under j) at b)).0, p, same),
    λ (l, p, same). (joins j).1 ((inside j).1 (p, rw (under j) ((T_and (ltb j k) (ltb j 64)).1 (lt→ltb j k l, lt→ltb j 64 (omega arith)))), same),
  )

  -- The rows of the edges gone through are filled; so is one more once its row is put in.
  pub rows_next : (lower : List ℕ) (left k next t : ℕ) → k < length lower → Less left k next → RowTwins edges pairs k t
      → Done (λ e. RowTwins edges pairs e (get_or lower e 0)) edges left → Done (λ e. RowTwins edges pairs e (get_or (set lower k t) e 0)) edges next
  rows_next lower left k next t h l row d =
      done_next (λ e. RowTwins edges pairs e (get_or (set lower k t) e 0)) edges left k next l (rw (get_or-set_same lower k t 0 h) row)
      (record {
        within = d.within;
        done = λ e m n. rw (get_or-set_other lower k e t 0 (λ q. n (rw q l.member))) (d.done e m n);
      })

module _ (N : Network) where
  -- Where the entries are the pairs that the edges join, the rows hold the lower twins.
  pub rows_all : (pairs lower : List ℕ) (left : ℕ) → present N < 2 ^ 64 → ((k : ℕ) → k < 64 → get_or pairs k 0 ≡ ends_of N k)
      → ((j : ℕ) → j ∈ left → ⊥) → Done (λ e. RowTwins (present N) pairs e (get_or lower e 0)) (present N) left → LowerTwins N lower
  rows_all pairs lower left small filled none d k m j = (
    λ i. let (l, p, same) = row.0 i in (l, p, sym (filled j (below j p)) ∙ same ∙ filled k (below k m)),
    λ (l, p, same). row.1 (l, p, filled j (below j p) ∙ same ∙ sym (filled k (below k m))),
  )
    where
      below : (e : ℕ) → e ∈ present N → e < 64
      below e = member-lt 64 (present N) e small

      row : (j ∈ get_or lower k 0) ↔ ((j < k) × (j ∈ present N) × (get_or pairs j 0 ≡ get_or pairs k 0))
      row = d.done k m (none k) j

  -- Where no edge is left aside, those of the edges present are alone that have no lower twin.
  pub alone-found : (lower : List ℕ) (none alone : ℕ) → ((k : ℕ) → has none k ≡ false)
      → ((k : ℕ) → (k ∈ alone) ↔ ((k ∈ present N) × ((k ∈ none → ⊥) → Meets (get_or lower k 0) (present N) → ⊥)))
      → Alone N lower alone
  alone-found lower none alone empty found k = (
    λ m. let (i, off) = (found k).0 m in (i, off (λ n. rw (empty k) at n)),
    λ (i, off). (found k).1 (i, λ n. off),
  )
