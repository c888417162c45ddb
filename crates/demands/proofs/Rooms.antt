-- How the calls for several rooms end, what rows they leave, and what these are for one room, for a room without a route and in another order.
-- Assumes what the code's types say of the records.
use mathlib.Core.Path.{◌≡◌, refl, sym, ap, ◌∙◌}
use mathlib.Core.List.Memᴰ
use mathlib.Core.List.{List, [], ◌∷◌, Memᴰ}
use mathlib.Core.Logic.Iff
use mathlib.Core.Logic.{inl, inr, ◌↔◌}
use Prim.Native.Nat.{ℕ, ◌≤◌, ◌<◌}
use native.Mathlib.Decide.{dec_lt}
use native.Mathlib.Omega.{arith}
use denote.Floats.{is_true}
use lib.ListN.{length, get_or}
use Rattle.sequences.specs.Rising.{RisingRows, placed, arranged}
use Rattle.sequences.specs.Words.{onto}
use Rattle.sequences.proofs.Places.{mem-at}
use Rattle.sequences.proofs.Rising.{rows-unique, arranged-unique, arranged-rising, in-arranged}
use Rattle.sequences.proofs.Words.{get_or-onto, drop-onto, length-onto}
use Rattle.bitset.specs.Families.{Least}
use Rattle.bitset.proofs.Families.{least-same}
use Rattle.bitset.proofs.Subsets.{⊆-antisym, zero-⊆}
use Rattle.network.specs.declared.Network.{Network}
use Rattle.network.specs.Record.{Stored, fault_of}
use Rattle.network.proofs.Rules.{fault-rules}
use Rattle.format.specs.Format.{decode_of}
use Rattle.graph.specs.Paths.{Joins, Minpath}
use Rattle.graph.specs.Cuts.{Cut}
use Rattle.graph.specs.Lists.{SameList}
use Rattle.graph.proofs.Cuts.{silenced-mono, mincut-none}
use Rattle.listing.specs.List.{Listed}
use Rattle.listing.specs.List.{mincuts, listed_by, cut_rows_after}
use Rattle.listing.proofs.Call.{complete-call}
use Rattle.rooms.specs.declared.Extent.{Extent}
use Rattle.rooms.specs.declared.Extent.TheVariants.{Any, All}
use Rattle.rooms.specs.Silences.{to, SilencesAny, SilencesAll, Silences, Package}
use Rattle.rooms.specs.Rooms.{packaged, package_fault, sets_from, sets_for, rooms_refusal, rooms_listed_by, rooms_rows_after, work_after}
use Rattle.rooms.proofs.Packages.{packaged-iff}
use Rattle.rooms.proofs.Refusals.{Case, faulty, no-package, short, outnumbered, complete, call-case, package-faulty, package-19, outnumbered-iff, complete-iff}
use Rattle.rooms.proofs.Calls.{RoomsAnswered, completed, answered-first, answered-short, answered-outnumbered, answered-complete}
use Rattle.rooms.proofs.Meaning.{sets-within, answer-refusal, rooms-mean, sets_more}
use Rattle.rooms.proofs.Sets.{to-stored, to-accepted}
use Rattle.rooms.proofs.Agree.{rooms-agree}
use Rattle.demands.specs.Endings.{RoomsEnds}
use Rattle.demands.specs.Rooms.{SeveralRooms}
use Rattle.demands.proofs.DemandTwo.{read-stored}

-- ---- how the calls end

module _ (e : Extent) (N : Network) (stored : Stored N) (ts cuts work : List ℕ) where
  -- What ends so is what the call answers and leaves.
  rooms-ended : {a : Listed} {cuts' work' : List ℕ} → RoomsAnswered e N ts cuts work a cuts' work' → RoomsEnds e N ts cuts work a cuts' work'
      → RoomsEnds e N ts cuts work (rooms_listed_by e N ts cuts work) (rooms_rows_after e N ts cuts work) (work_after N ts work)
  rooms-ended a e = rw (← a.0, ← a.1, ← a.2) e

  pub rooms-end : RoomsEnds e N ts cuts work (rooms_listed_by e N ts cuts work) (rooms_rows_after e N ts cuts work) (work_after N ts work)
  rooms-end = go (call-case e N ts cuts work)
    where
      sets : List ℕ
      sets = sets_for e N (arranged ts)

      go : Case e N ts cuts work → RoomsEnds e N ts cuts work (rooms_listed_by e N ts cuts work) (rooms_rows_after e N ts cuts work) (work_after N ts work)
      go (faulty f) =
          rooms-ended (answered-first e N ts cuts work (fault_of N) (sym (package-faulty e N ts cuts work f)) f) (RoomsEnds.faulty (omega (arith, f)))
      go (no-package ok f) =
          rooms-ended (answered-first e N ts cuts work 19 (sym (package-19 e N ts cuts work ok f)) (λ z. omega arith))
          (RoomsEnds.no-package ((fault-rules N).0 ok) f)
      go (short ok p (k, (m, h))) = rooms-ended (answered-short e N ts cuts work ok p (k, (m, h))) (RoomsEnds.short ((fault-rules N).0 ok) p k m h)
      go (outnumbered ok p s h) =
          rooms-ended (answered-outnumbered e N ts cuts work ok p s h)
          (RoomsEnds.outnumbered ((fault-rules N).0 ok) p s ((sets_more e N stored ts ok p (length cuts)).0 h))
      go (complete ok p s h) =
          let answered = answered-complete e N ts cuts work ok p s h in
          rooms-ended answered
          (RoomsEnds.complete _ _ ((fault-rules N).0 ok) p s (λ more. absurd (omega (arith, (sets_more e N stored ts ok p (length cuts)).1 more)))
          ((rooms-mean e N stored ts cuts work answered).1.complete refl)
          (record { size = length-onto sets cuts h; later = drop-onto sets cuts (length sets) refl }))

-- ---- the rows

rows : (e : Extent) (N : Network) → Stored N → (ts cuts work : List ℕ) → (rooms_listed_by e N ts cuts work).refusal ≡ 0
    → RisingRows (Least (Silences e N ts)) (rooms_listed_by e N ts cuts work).count (rooms_rows_after e N ts cuts work)
rows e N stored ts cuts work none = (rooms-mean e N stored ts cuts work (refl, refl, refl)).1.complete none

-- ---- one room alone

-- With its own room for its room the plan is itself.
own-list : (e : Extent) (N : Network) → sets_for e N (arranged (N.sink ∷ [])) ≡ mincuts N
unfolding to arranged placed sets_for sets_from
own-list e N = refl

own : (e : Extent) (N : Network) → Stored N → (cuts work cuts' sides' : List ℕ)
    → (rooms_listed_by e N (N.sink ∷ []) cuts work).refusal ≡ 0 → (listed_by N cuts' sides').refusal ≡ 0
    → SameList (rooms_listed_by e N (N.sink ∷ []) cuts work).count (rooms_rows_after e N (N.sink ∷ []) cuts work)
    (listed_by N cuts' sides').count (cut_rows_after N cuts' sides')
own e N stored cuts work cuts' sides' none none' =
    let ts : List ℕ = N.sink ∷ [] in
    let (answer, left) = completed e N ts cuts work (sym (answer-refusal e N stored ts cuts work) ∙ none) in
    let (answer', left', _) = (complete-call N stored cuts' sides' none').1 in
    let l : List ℕ = mincuts N in
    let count : (rooms_listed_by e N ts cuts work).count ≡ length l = sym (ap (λ (x : Listed). x.count) answer) ∙ ap length (own-list e N) in
    let count' : (listed_by N cuts' sides').count ≡ length l = sym (ap (λ (x : Listed). x.count) answer') in
    let on : rooms_rows_after e N ts cuts work ≡ onto l cuts = sym left ∙ ap (λ k. onto k cuts) (own-list e N) in
    record {
      counts = count ∙ sym count';
      rows = λ i h.
          let inside : i < length l = rw count at h in
          ap (λ k. get_or k i 0) on ∙ get_or-onto l cuts i inside ∙ sym (ap (λ k. get_or k i 0) (sym left') ∙ get_or-onto l cuts' i inside);
    }

-- ---- a room without a route

-- The empty set silences it.
silent-cut : (N : Network) (t : ℕ) → ((r : ℕ) → Minpath (to N t) r → ⊥) → Cut (to N t) 0
silent-cut N t none = ((mincut-none (to N t) none 0).1 refl).cut

silent-any : (N : Network) → Stored N → (ts cuts work : List ℕ) → (rooms_listed_by Any N ts cuts work).refusal ≡ 0
    → (t : ℕ) → Memᴰ t ts → ((r : ℕ) → Minpath (to N t) r → ⊥)
    → ((rooms_listed_by Any N ts cuts work).count ≡ 1) × (get_or (rooms_rows_after Any N ts cuts work) 0 0 ≡ 0)
silent-any N stored ts cuts work none t m silent =
    let empty : SilencesAny N ts 0 = (t, (m, silent-cut N t silent)) in
    let least : Least (SilencesAny N ts) 0 = record { has = empty; least = λ d h _. ⊆-antisym d 0 h (zero-⊆ d) } in
    go (rows Any N stored ts cuts work none) least (λ c l. sym (l.least 0 (zero-⊆ c) empty))
  where
    n : ℕ
    n = (rooms_listed_by Any N ts cuts work).count

    cut : ℕ → ℕ
    cut i = get_or (rooms_rows_after Any N ts cuts work) i 0

    go : RisingRows (Least (SilencesAny N ts)) n (rooms_rows_after Any N ts cuts work) → Least (SilencesAny N ts) 0
        → ((c : ℕ) → Least (SilencesAny N ts) c → c ≡ 0) → (n ≡ 1) × (cut 0 ≡ 0)
    go r least only =
        let (i, h, _) = (r.members 0).1 least in
        let zero_row : (j : ℕ) → j < n → cut j ≡ 0 = λ j l. only (cut j) ((r.members (cut j)).0 (j, l, refl)) in
        let one : n ≤ 1 = elim (dec_lt 1 n) [
          | yes more ↦ absurd (omega (arith, r.rising 0 1 (omega arith) more, zero_row 0 (omega arith), zero_row 1 more))
          | no few ↦ omega arith
        ] in
        (omega arith, zero_row 0 (omega arith))

-- So does every set that silences another one.
silent-cuts : (N : Network) (t s c : ℕ) → ((r : ℕ) → Minpath (to N t) r → ⊥) → Cut (to N s) c → Cut (to N t) c
unfolding to
silent-cuts N t s c none k = record { present = k.present; severs = silenced-mono (to N t) 0 c (zero-⊆ c) (silent-cut N t none).severs }

-- So beside another room it does not matter.
all_but : (N : Network) (ts : List ℕ) → 0 < length ts → (t : ℕ) → ((r : ℕ) → Minpath (to N t) r → ⊥) → (c : ℕ)
    → SilencesAll N (t ∷ ts) c ↔ SilencesAll N ts c
all_but N ts some t silent c = (
  λ f r m. f r (Memᴰ.tail m),
  λ f r m. elim (Memᴰ.cases_cons m) [
    | inl e ↦ rw e (silent-cuts N t (get_or ts 0 0) c silent (f (get_or ts 0 0) (mem-at ts 0 0 some)))
    | inr i ↦ f r i
  ],
)

silent-all : (N : Network) → Stored N → (t : ℕ) → ((r : ℕ) → Minpath (to N t) r → ⊥) → (ts cuts work cuts' work' : List ℕ)
    → (rooms_listed_by All N (t ∷ ts) cuts work).refusal ≡ 0 → (rooms_listed_by All N ts cuts' work').refusal ≡ 0
    → SameList (rooms_listed_by All N (t ∷ ts) cuts work).count (rooms_rows_after All N (t ∷ ts) cuts work)
    (rooms_listed_by All N ts cuts' work').count (rooms_rows_after All N ts cuts' work')
silent-all N stored t silent ts cuts work cuts' work' none none' =
    let (_, p, _, _) = (complete-iff All N ts cuts' work').0 (sym (answer-refusal All N stored ts cuts' work') ∙ none') in
    let a = rows All N stored (t ∷ ts) cuts work none in
    let b = rows All N stored ts cuts' work' none' in
    let (counts, same) = rows-unique (λ i. get_or (rooms_rows_after All N (t ∷ ts) cuts work) i 0) (λ i. get_or (rooms_rows_after All N ts cuts' work') i 0) _ _
    a.rising b.rising (λ c. Iff.trans (a.members c)
    (Iff.trans (least-same (SilencesAll N (t ∷ ts)) (SilencesAll N ts) (all_but N ts p.some t silent) c) (Iff.symm (b.members c)))) in
    record { counts = counts; rows = same }

-- ---- the plan's own room

any-own : (e : Extent) (N : Network) → Stored N → fault_of N ≡ 0 → (s : ℕ) → s < N.nodes → (s ≡ N.source → ⊥) → (ts cuts work : List ℕ)
    → (rooms_listed_by e (to N s) ts cuts work ≡ rooms_listed_by e N ts cuts work)
    × (rooms_rows_after e (to N s) ts cuts work ≡ rooms_rows_after e N ts cuts work)
    × (work_after (to N s) ts work ≡ work_after N ts work)
unfolding to Joins
any-own e N stored ok s point other =
    rooms-agree (to N s) N (to-stored N s stored) stored (to-accepted N s ok point other) ok refl refl (λ k u v ne. Iff.rfl) e

-- ---- enough rows

enough-rows : (e : Extent) (N : Network) (ts cuts work : List ℕ) → length work ≤ length cuts → (rooms_listed_by e N ts cuts work).refusal ≡ 12 → ⊥
unfolding rooms_listed_by
enough-rows e N ts cuts work h is =
    let (_, _, s, more) = (outnumbered-iff e N ts cuts work).0 is in
    omega (arith, sets-within e N (length work) (arranged ts) s)

-- ---- another order

-- The refusal of two packages is that of the record.
package-same : (N : Network) (ts us : List ℕ) → Package N ts → Package N us → package_fault N ts ≡ package_fault N us
unfolding package_fault
package-same N ts us p q = rw (is_true (packaged N ts) ((packaged-iff N ts).1 p), is_true (packaged N us) ((packaged-iff N us).1 q))

order : (e : Extent) (N : Network) (ts us : List ℕ) → Package N ts → Package N us → ((t : ℕ) → Memᴰ t ts ↔ Memᴰ t us)
    → (cuts work : List ℕ)
    → (rooms_listed_by e N ts cuts work ≡ rooms_listed_by e N us cuts work)
    × (rooms_rows_after e N ts cuts work ≡ rooms_rows_after e N us cuts work)
    × (work_after N ts work ≡ work_after N us work)
unfolding rooms_listed_by rooms_rows_after work_after rooms_refusal
order e N ts us p q same cuts work =
    let rising : arranged ts ≡ arranged us = arranged-unique ts (arranged us) (arranged-rising us) (λ t. Iff.trans (in-arranged us t) (Iff.symm (same t))) in
    let fault = package-same N ts us p q in
    (rw (rising, fault), rw (rising, fault), rw fault)

pub several-rooms : SeveralRooms
several-rooms = record {
  any = rows Any;
  all = rows All;
  any-bytes = λ s e. rows Any (decode_of s).network (read-stored s e);
  all-bytes = λ s e. rows All (decode_of s).network (read-stored s e);
  own = own;
  any-own = any-own;
  silent-any = silent-any;
  silent-all = silent-all;
  enough-rows = enough-rows;
  order = order;
}
