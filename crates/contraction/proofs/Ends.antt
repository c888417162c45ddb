-- The ends of edges that move one after the other, over plain values.
-- Assumes nothing.
--
--   Moving edges s t ends now left     before the lowest edge of `left`: the ends of the edges before it have moved
use mathlib.Core.Path.{◌≡◌, refl, ◌∙◌}
use mathlib.Core.List.{List}
use Prim.Native.Nat.{ℕ, ◌<◌}
use native.Mathlib.Decide.{ℕ_discrete}
use lib.ListN.{length, get_or, set, length-set}
use lib.Seq.{get_or-set_same, get_or-set_other}
use Rattle.bitset.specs.Members.{◌∈◌, ◌⊆◌}
use Rattle.bitset.proofs.Scans.{Less}
use Rattle.bitset.proofs.Subsets.{⊆-refl}
use Rattle.contraction.specs.Contracted.{MovedEnd, Moved}

pub record Moving (edges s t : ℕ) (ends now : List ℕ) (left : ℕ) : Type 0 where
  pub size : length now ≡ length ends
  pub within : left ⊆ edges
  pub moved : (k : ℕ) → k ∈ edges → (k ∈ left → ⊥) → MovedEnd s t (get_or ends k 0) (get_or now k 0)
  pub kept : (k : ℕ) → (k ∈ edges → k ∈ left) → get_or now k 0 ≡ get_or ends k 0

module _ (edges s t : ℕ) (ends : List ℕ) where
  -- Before the first all are what they were.
  pub moving-first : Moving edges s t ends ends edges
  moving-first = record { size = refl; within = ⊆-refl edges; moved = λ k m n. absurd (n m); kept = λ k _. refl }

  -- After the last all have moved.
  pub moving-last : {now : List ℕ} {left : ℕ} → Moving edges s t ends now left → ((k : ℕ) → k ∈ left → ⊥) → Moved edges s t ends now
  moving-last m none = record { size = m.size; moved = λ k i. m.moved k i (none k); kept = λ k n. m.kept k (λ i. absurd (n i)) }

  module _ {now : List ℕ} {left k next : ℕ} (m : Moving edges s t ends now left) (less : Less left k next) where
    -- The next has its end at none of the nodes: it stays.
    pub moving-stays : (get_or now k 0 ∈ s → ⊥) → Moving edges s t ends now next
    moving-stays out = record {
      size = m.size;
      within = λ j i. m.within j ((less.rest j).0 i).0;
      moved = λ j i gone. elim (ℕ_discrete j k) [
        | yes e ↦ rw e (record { moved = λ at. absurd (out (rw (← was) at at)); kept = λ _. was })
        | no n ↦ m.moved j i (λ l. gone ((less.rest j).1 (l, n)))
      ];
      kept = λ j f. m.kept j (λ i. ((less.rest j).0 (f i)).0);
    }
      where
        was : get_or now k 0 ≡ get_or ends k 0
        was = m.kept k (λ _. less.member)

    -- It has: it is moved.
    pub moving-goes : k < length now → get_or now k 0 ∈ s → Moving edges s t ends (set now k t) next
    moving-goes inside at = record {
      size = length-set now k t ∙ m.size;
      within = λ j i. m.within j ((less.rest j).0 i).0;
      moved = λ j i gone. elim (ℕ_discrete j k) [
        | yes e ↦ rw e (record { moved = λ _. here; kept = λ out. absurd (out (rw was at at)) })
        | no n ↦ rw (other j n) (m.moved j i (λ l. gone ((less.rest j).1 (l, n))))
      ];
      kept = λ j f. elim (ℕ_discrete j k) [
        | yes e ↦ absurd (((less.rest k).0 (rw e at (f (rw e (m.within k less.member))))).1 refl)
        | no n ↦ other j n ∙ m.kept j (λ i. ((less.rest j).0 (f i)).0)
      ];
    }
      where
        was : get_or now k 0 ≡ get_or ends k 0
        was = m.kept k (λ _. less.member)

        here : get_or (set now k t) k 0 ≡ t
        here = get_or-set_same now k t 0 inside

        other : (j : ℕ) → (j ≡ k → ⊥) → get_or (set now k t) j 0 ≡ get_or now j 0
        other j n = get_or-set_other now k j t 0 n
