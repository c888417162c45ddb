-- What the list call's answer means by the definitions of graph theory: the complete list, and "too many cuts".
-- Assumes what the code's types say of the record.
use mathlib.Core.Path.{◌≡◌, sym, ap, ◌∙◌}
use mathlib.Core.List.{List}
use mathlib.Core.Logic.{◌↔◌}
use Prim.Native.Nat.{ℕ, ◌<◌}
use lib.ListN.{length, get_or, length-map}
use Rattle.sequences.proofs.Words.{get_or-onto}
use Rattle.sequences.specs.Words.{onto}
use Rattle.sequences.specs.Rising.{RisingRows}
use Rattle.sequences.proofs.Places.{get_or-map}
use Rattle.sequences.proofs.Rising.{rising-rows, rows-onto}
use Rattle.sequences.proofs.Distinct.{rising-distinct, more-iff}
use Rattle.network.specs.declared.Network.{Network}
use Rattle.network.specs.Record.{Stored, fault_of}
use Rattle.graph.specs.Reach.{Bounded}
use Rattle.graph.specs.Cuts.{Mincut}
use Rattle.graph.specs.Lists.{CompleteList, Outnumber}
use Rattle.graph.specs.Relevant.{source_side_of}
use Rattle.graph.proofs.Sound.{Sound, accepted-sound}
use Rattle.graph.proofs.Correspondence.{in-source_side_of}
use Rattle.listing.specs.List.{Listed, mincuts, source_sides, list_refusal, listed_by, ListMeans}
use Rattle.listing.proofs.Mincuts.{mincuts-lists}
use Rattle.listing.proofs.Refusals.{refusal-outnumbered}
use Rattle.listing.proofs.Call.{Answered, answer-refusal, complete-call}

-- ---- the complete list

-- The computed list has the mincuts in its rows, and so it is wherever it is written onto rows.
mincuts-rows : (N : Network) → Bounded N → RisingRows (Mincut N) (length (mincuts N)) (mincuts N)
mincuts-rows N B = let lists = mincuts-lists N B in rising-rows (Mincut N) (mincuts N) lists.rising lists.members

-- It is complete, each mincut beside its source side.
pub mincuts-complete : (N : Network) → Sound N → CompleteList N (length (mincuts N)) (mincuts N) (source_sides N)
mincuts-complete N S =
    let l : List ℕ = mincuts N in
    let rows = mincuts-rows N S.bounded in record {
      rising = rows.rising;
      members = rows.members;
      beside = λ i v h. rw (get_or-map (source_side_of N) l i h) (in-source_side_of N S (get_or l i 0) v);
    }

-- Written onto any rows, a complete list stays one.
complete-onto : (N : Network) (l k cuts sides : List ℕ) → length k ≡ length l → CompleteList N (length l) l k
    → CompleteList N (length l) (onto l cuts) (onto k sides)
complete-onto N l k cuts sides paired whole =
    let rows = rows-onto (Mincut N) l cuts (record { rising = whole.rising; members = whole.members }) in record {
      rising = rows.rising;
      members = rows.members;
      beside = λ i v h. rw (get_or-onto k sides i (rw paired h), get_or-onto l cuts i h) (whole.beside i v h);
    }

-- ---- too many cuts

-- The mincuts outnumber n exactly if the computed list is longer.
pub outnumber-iff : (N : Network) → Bounded N → (n : ℕ) → (n < length (mincuts N)) ↔ Outnumber N n
outnumber-iff N B =
    let lists = mincuts-lists N B in
    more-iff (Mincut N) (mincuts N) (rising-distinct (mincuts N) lists.rising) lists.members

-- ---- the call

module _ (N : Network) (stored : Stored N) (cuts sides : List ℕ) where
  -- A call that gave the refusal 0 left the complete list.
  pub call-complete : {r : Listed} {cuts' sides' : List ℕ} → Answered N cuts sides r cuts' sides' → r.refusal ≡ 0
      → CompleteList N r.count cuts' sides'
  call-complete a none =
      let (sound, left) = complete-call N stored cuts sides (sym (ap (λ (x : Listed). x.refusal) a.0) ∙ none) in
      rw (a.0, a.1, a.2, ← left.0, ← left.1, ← left.2)
      (complete-onto N (mincuts N) (source_sides N) cuts sides (length-map (mincuts N) (source_side_of N)) (mincuts-complete N sound))

  -- It gave 12 exactly if no earlier fault stands and the mincuts outnumber the rows.
  pub call-outnumbered : {r : Listed} → r ≡ listed_by N cuts sides
      → (r.refusal ≡ 12) ↔ ((fault_of N ≡ 0) × (length cuts ≡ length sides) × Outnumber N (length cuts))
  call-outnumbered a =
      let by : list_refusal N cuts sides ≡ _ = sym (ap (λ (x : Listed). x.refusal) a ∙ answer-refusal N cuts sides) in
      let more : fault_of N ≡ 0 → (length cuts < length (mincuts N)) ↔ Outnumber N (length cuts) = λ ok.
      outnumber-iff N (accepted-sound N stored ok).bounded (length cuts) in (
        λ e. let p = (refusal-outnumbered N cuts sides).0 (by ∙ e) in (p.0, p.1, (more p.0).0 p.2),
        λ p. sym by ∙ (refusal-outnumbered N cuts sides).1 (p.0, p.1, (more p.0).1 p.2),
      )

  -- Beside the answer stands what it means.
  pub answered-means : {r : Listed} {cuts' sides' : List ℕ} → Answered N cuts sides r cuts' sides'
      → Answered N cuts sides r cuts' sides' × ListMeans N cuts sides r.refusal r.count cuts' sides'
  answered-means a = (a, record { stored = stored; complete = call-complete a; outnumbered = call-outnumbered a.0 })
