-- What the answers of the calls for several rooms mean by the definitions of graph theory.
-- Assumes what the code's types say of the record.
use mathlib.Core.Path.{◌≡◌, refl, sym, ap, ◌∙◌}
use mathlib.Core.List.{List, [], ◌∷◌, ◌++◌, append_assoc, append-nil, Memᴰ}
use mathlib.Core.Logic.Iff
use mathlib.Core.Logic.{◌↔◌}
use Prim.Native.Nat.{ℕ, ◌≤◌, ◌<◌, zero-le}
use native.Mathlib.Omega.{arith}
use lib.ListN.{length, length-append}
use Rattle.sequences.specs.Distinct.{More}
use Rattle.sequences.specs.Rising.{Rising, arranged}
use Rattle.sequences.proofs.Distinct.{rising-distinct, more-iff, distinct-length}
use Rattle.sequences.proofs.Rising.{arranged-rising, in-arranged, rising-rows, rows-onto}
use Rattle.bitset.specs.Families.{Least}
use Rattle.bitset.proofs.Families.{least-same}
use Rattle.network.specs.declared.Network.{Network}
use Rattle.network.specs.Record.{Stored, fault_of}
use Rattle.clutters.specs.Clutters.{unions}
use Rattle.clutters.proofs.Clutters.{tidy-few, unions-count}
use Rattle.listing.specs.List.{Listed, mincuts}
use Rattle.rooms.specs.declared.Extent.{Extent}
use Rattle.rooms.specs.declared.Extent.TheVariants.{Any, All}
use Rattle.rooms.specs.Silences.{to, Silences, Package}
use Rattle.rooms.specs.Rooms.{added, sets_from, sets_for, step_need, room_need, needs_from, rooms_refusal, rooms_listed_by, RoomsListing, RoomsMean}
use Rattle.rooms.proofs.Sets.{sets-least, silences-same}
use Rattle.rooms.proofs.Steps.{sets-next}
use Rattle.rooms.proofs.Refusals.{no-package-iff, short-iff, outnumbered-iff, complete-iff}
use Rattle.rooms.proofs.Calls.{RoomsAnswered, completed}

-- A step leaves no more sets than it needs rows.
added-few : (e : Extent) (l m : List ℕ) → length (added e l m) ≤ step_need e (length l) (length m)
unfolding added step_need
added-few Any l m = omega (arith, tidy-few (l ++ m), length-append l m)
added-few All l m = omega (arith, tidy-few (unions l m), unions-count l m)

-- So the rooms have no more sets than work rows, if these are enough for every step.
sets-few : (e : Extent) (N : Network) (lent s : ℕ) (before ts : List ℕ) → length (sets_for e N (s ∷ before)) ≤ lent
    → ((n : ℕ) → Memᴰ n (needs_from e N (s ∷ before) ts) → n ≤ lent) → length (sets_for e N (s ∷ before ++ ts)) ≤ lent
unfolding needs_from room_need
sets-few e N lent s before [] few enough = rw (append-nil before) few
sets-few e N lent s before (t ∷ ts) few enough =
    let step = added-few e (sets_for e N (s ∷ before)) (mincuts (to N t)) in
    let need = enough _ (Memᴰ.head refl) in
    let next : length (sets_for e N (s ∷ before ++ t ∷ [])) ≤ lent = rw (sets-next e N s before t) (omega arith) in
    rw (append_assoc before (t ∷ []) ts) at (sets-few e N lent s (before ++ t ∷ []) ts next (λ n m. enough n (Memᴰ.tail m)))

pub sets-within : (e : Extent) (N : Network) (lent : ℕ) (ts : List ℕ) → ((n : ℕ) → Memᴰ n (needs_from e N [] ts) → n ≤ lent) → length (sets_for e N ts) ≤ lent
unfolding needs_from room_need sets_for sets_from
sets-within e N lent [] enough = zero-le
sets-within e N lent (t ∷ ts) enough =
    sets-few e N lent t [] ts (enough (length (mincuts (to N t))) (Memᴰ.head refl)) (λ n m. enough n (Memᴰ.tail m))

-- Number by number the answer is the call's.
pub answered-listing : {e : Extent} {N : Network} {ts cuts work : List ℕ} {a : Listed} {cuts' work' : List ℕ} → RoomsAnswered e N ts cuts work a cuts' work'
    → RoomsListing e N ts cuts work a.refusal a.count cuts' work'
answered-listing a = record {
  refusal = ap (λ (l : Listed). l.refusal) a.0;
  count = ap (λ (l : Listed). l.count) a.0;
  cut-rows = a.1;
  work-rows = a.2;
}

module _ (e : Extent) (N : Network) (stored : Stored N) (ts : List ℕ) where
  -- The rooms of a package in rising order are still some points of the network, none of them the server.
  package-points : Package N ts → (0 < length (arranged ts)) × ((t : ℕ) → Memᴰ t (arranged ts) → (t < N.nodes) × (t ≡ N.source → ⊥))
  package-points p =
      let same = distinct-length (arranged ts) ts (rising-distinct (arranged ts) (arranged-rising ts)) p.distinct (in-arranged ts) in
      (omega (arith, same, p.some), λ t m. let i = (in-arranged ts t).0 m in (p.points t i, p.rooms t i))

  -- The sets worked out for them are exactly the least sets that silence the rooms.
  pub sets-right : fault_of N ≡ 0 → Package N ts
      → Rising (sets_for e N (arranged ts)) × ((c : ℕ) → Memᴰ c (sets_for e N (arranged ts)) ↔ Least (Silences e N ts) c)
  sets-right ok p =
      let (some, points) = package-points p in
      let (rising, members) = sets-least e N stored ok (arranged ts) some points in
      (rising, λ c. Iff.trans (members c) (least-same (Silences e N (arranged ts)) (Silences e N ts) (silences-same e N (arranged ts) ts (in-arranged ts)) c))

  -- So their number is that of the list worked out.
  pub sets_more : fault_of N ≡ 0 → Package N ts → (n : ℕ) → (n < length (sets_for e N (arranged ts))) ↔ More (Least (Silences e N ts)) n
  sets_more ok p =
      let (rising, members) = sets-right ok p in
      more-iff (Least (Silences e N ts)) (sets_for e N (arranged ts)) (rising-distinct (sets_for e N (arranged ts)) rising) members

  module _ (cuts work : List ℕ) where
    -- The answer's refusal is the call's.
    pub answer-refusal : (rooms_listed_by e N ts cuts work).refusal ≡ rooms_refusal e N ts cuts work
    unfolding rooms_listed_by
    answer-refusal = refl

    -- Beside the answer stands what it means.
    pub rooms-mean : {a : Listed} {cuts' work' : List ℕ} → RoomsAnswered e N ts cuts work a cuts' work'
        → RoomsAnswered e N ts cuts work a cuts' work' × RoomsMean e N ts cuts work a.refusal a.count cuts'
    rooms-mean {a} {cuts'} {work'} answered =
        let by : a.refusal ≡ rooms_refusal e N ts cuts work = ap (λ (l : Listed). l.refusal) answered.0 ∙ answer-refusal in (
          answered,
          record {
            stored = stored;
            complete = λ none.
                let is : rooms_refusal e N ts cuts work ≡ 0 = sym by ∙ none in
                let (ok, p, s, h) = (complete-iff e N ts cuts work).0 is in
                let (answer, rows) = completed e N ts cuts work is in
                let (rising, members) = sets-right ok p in
                let l : List ℕ = sets_for e N (arranged ts) in
                let whole = rows-onto (Least (Silences e N ts)) l cuts (rising-rows (Least (Silences e N ts)) l rising members) in
                let count : a.count ≡ length l = ap (λ (x : Listed). x.count) (answered.0 ∙ sym answer) in
                rw (count, answered.1 ∙ sym rows) whole;
            no-package = rw by (no-package-iff e N ts cuts work);
            short = rw by (short-iff e N ts cuts work);
            outnumbered = rw by (
              λ is. let (ok, p, s, h) = (outnumbered-iff e N ts cuts work).0 is in (ok, p, s, (sets_more ok p (length cuts)).0 h),
              λ (ok, p, s, h). (outnumbered-iff e N ts cuts work).1 (ok, p, s, (sets_more ok p (length cuts)).1 h),
            );
          },
        )
