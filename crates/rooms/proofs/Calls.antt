-- What the calls for several rooms have to answer and to leave, from what their steps do.
-- Assumes nothing.
--
--   RoomsAnswered e N ts cuts work a cuts' work'     the answer and the rows left are those of the call
use mathlib.Core.Path.{◌≡◌, refl, sym, ap, ◌∙◌}
use mathlib.Core.Bool.{not}
use mathlib.Core.List.{List, Memᴰ}
use mathlib.Core.Logic.Iff
use Prim.Native.Nat.{ℕ, ◌^◌, ◌≤◌, ◌<◌}
use native.Mathlib.Omega.{arith}
use borrow.Author.Tests.{not-false}
use denote.Floats.{passes}
use lib.ListN.{length, replicate, take, length-take}
use Rattle.std.specs.Prelude.{Option, Result, Ok, Err}
use Rattle.std.specs.Result.{IsErrAnd}
use Rattle.sequences.specs.Rising.{arranged}
use Rattle.sequences.specs.Words.{onto}
use Rattle.sequences.proofs.Rising.{arranged-unique}
use Rattle.bitset.specs.Members.{members}
use Rattle.bitset.proofs.MemberList.{in_members, members-rising}
use Rattle.bitset.proofs.Sets.{member-lt}
use Rattle.node_set.specs.Width.{node_width}
use Rattle.network.specs.declared.Network.{Network}
use Rattle.network.specs.Record.{◌when◌, fault_of}
use Rattle.network.specs.declared.refusal.Refusal.{Refusal}
use Rattle.network.specs.Refusals.{number_of}
use Rattle.network.proofs.Refusals.{number-some, then-none, when-none, refused-some, refused_none}
use Rattle.listing.specs.List.{Listed, listed}
use Rattle.rooms.specs.declared.asked.Asked.{Asked}
use Rattle.rooms.specs.declared.Extent.{Extent}
use Rattle.rooms.specs.Silences.{Package}
use Rattle.rooms.specs.Rooms.{packaged, package_fault, sets_for, needs, rooms_refusal, rooms_listed_by, rooms_rows_after, work_after}
use Rattle.rooms.specs.Steps.{Packaged, counted, Taken, Delivered}
use Rattle.rooms.proofs.Packages.{packaged-iff}
use Rattle.rooms.proofs.Refusals.{Case, faulty, no-package, short, outnumbered, complete, call-case, package-faulty, package-none, package-19, refusal-first, refusal-short, refusal-outnumbered, refusal-complete}

abbrev pub RoomsAnswered : Extent → Network → List ℕ → List ℕ → List ℕ → Listed → List ℕ → List ℕ → Type 0
RoomsAnswered e N ts cuts work a cuts' work' =
    (a ≡ rooms_listed_by e N ts cuts work) × (cuts' ≡ rooms_rows_after e N ts cuts work) × (work' ≡ work_after N ts work)

-- Rooms that are not refused are a package of an accepted network.
pub asked-package : (N : Network) (ts : List ℕ) → package_fault N ts ≡ 0 → (fault_of N ≡ 0) × Package N ts
unfolding package_fault
asked-package N ts none =
    let (ok, fit) = then-none (fault_of N) (19 when not (packaged N ts)) none in
    (ok, (packaged-iff N ts).0 (passes (packaged N ts) (not-false (packaged N ts) (when-none 19 (not (packaged N ts)) (omega arith) fit))))

module _ (e : Extent) (N : Network) (ts cuts work : List ℕ) where
  -- The answer and the rows for cuts under a refusal.
  refused : (r : ℕ) → rooms_refusal e N ts cuts work ≡ r → (r ≡ 0 → ⊥)
      → (◌≡◌ {A = Listed} (record { refusal = r; count = 0 }) (rooms_listed_by e N ts cuts work)) × (cuts ≡ rooms_rows_after e N ts cuts work)
  unfolding rooms_listed_by rooms_rows_after
  refused r is some =
      let l : List ℕ = sets_for e N (arranged ts) in
      rw (is, refused-some r (length l) 0 some, refused-some r (onto l cuts) cuts some) (refl, refl)

  -- Where nothing is refused, the sets are written onto the rows.
  pub completed : rooms_refusal e N ts cuts work ≡ 0
      → (◌≡◌ {A = Listed} (record { refusal = 0; count = length (sets_for e N (arranged ts)) }) (rooms_listed_by e N ts cuts work))
      × (onto (sets_for e N (arranged ts)) cuts ≡ rooms_rows_after e N ts cuts work)
  unfolding rooms_listed_by rooms_rows_after
  completed is = rw is (refl, refl)

  -- The work rows are as they were where record or rooms are refused, and else all 0.
  work-kept : (package_fault N ts ≡ 0 → ⊥) → work ≡ work_after N ts work
  unfolding work_after
  work-kept some = sym (refused-some (package_fault N ts) (replicate (length work) 0) work some)

  work-cleared : package_fault N ts ≡ 0 → replicate (length work) 0 ≡ work_after N ts work
  unfolding work_after
  work-cleared none = sym (refused_none (replicate (length work) 0) work none)

  -- ---- the answer in each case

  -- What refuses record or rooms leaves all rows as they were.
  pub answered-first : (r : ℕ) → r ≡ package_fault N ts → (r ≡ 0 → ⊥) → RoomsAnswered e N ts cuts work (record { refusal = r; count = 0 }) cuts work
  answered-first r is some =
      let first : package_fault N ts ≡ 0 → ⊥ = λ z. some (is ∙ z) in
      let (answer, rows) = refused r (refusal-first e N ts cuts work first ∙ sym is) some in
      (answer, rows, work-kept first)

  -- A refusal of theirs that is passed on is the call's.
  pub answered-passed : (a : Result ℕ Refusal) (r : Refusal) → IsErrAnd a (λ e. e ≡ r) → number_of r ≡ package_fault N ts
      → RoomsAnswered e N ts cuts work (listed a) cuts work
  answered-passed (Ok n) r h is = absurd h
  answered-passed (Err q) r h is = answered-first (number_of q) (ap number_of h ∙ is) (number-some q)

  module _ (ok : fault_of N ≡ 0) (k : Package N ts) where
    -- The rest sets the work rows to 0.
    pub answered-short : (n : ℕ) × (Memᴰ n (needs e N ts) × (length work < n))
        → RoomsAnswered e N ts cuts work (record { refusal = 20; count = 0 }) cuts (replicate (length work) 0)
    answered-short s =
        let (answer, rows) = refused 20 (refusal-short e N ts cuts work ok k s) (λ z. omega arith) in
        (answer, rows, work-cleared (package-none e N ts cuts work ok k))

    module _ (s : (n : ℕ) → Memᴰ n (needs e N ts) → n ≤ length work) where
      pub answered-outnumbered : length cuts < length (sets_for e N (arranged ts))
          → RoomsAnswered e N ts cuts work (record { refusal = 12; count = 0 }) cuts (replicate (length work) 0)
      answered-outnumbered h =
          let (answer, rows) = refused 12 (refusal-outnumbered e N ts cuts work ok k s h) (λ z. omega arith) in
          (answer, rows, work-cleared (package-none e N ts cuts work ok k))

      pub answered-complete : length (sets_for e N (arranged ts)) ≤ length cuts
          → RoomsAnswered e N ts cuts work (record { refusal = 0; count = length (sets_for e N (arranged ts)) }) (onto (sets_for e N (arranged ts)) cuts)
          (replicate (length work) 0)
      answered-complete h =
          let (answer, rows) = completed (refusal-complete e N ts cuts work ok k s h) in
          (answer, rows, work-cleared (package-none e N ts cuts work ok k))

  -- ---- the steps of the call

  -- The sets for the rooms asked for are taken, delivered, and the work rows set to 0.
  delivered-taken : package_fault N ts ≡ 0 → {taken : List ℕ} {n : ℕ} → Taken e N (arranged ts) (length work) taken n
      → {l : Listed} {cuts' : List ℕ} → Delivered n taken cuts cuts' l
      → {work' : List ℕ} → work' ≡ replicate (length taken) 0 → RoomsAnswered e N ts cuts work l cuts' work'
  delivered-taken none {taken} {n} t {l} {cuts'} d {work'} cleared =
      go (call-case e N ts cuts work) (cleared ∙ ap (λ k. replicate k 0) t.size)
    where
      in-front : ((n : ℕ) → Memᴰ n (needs e N ts) → n ≤ length work)
          → (n ≡ length (sets_for e N (arranged ts))) × (n ≤ length taken) × (take n taken ≡ sets_for e N (arranged ts))
      in-front s =
          let (is, front) = t.enough s in
          (is, omega (arith, ap length front, length-take n taken), front)

      -- What was delivered and left is what it is to be.
      agrees : {b : Listed} {rows work'' : List ℕ} → RoomsAnswered e N ts cuts work b rows work'' → (l ≡ b) × (cuts' ≡ rows) → work' ≡ work''
          → RoomsAnswered e N ts cuts work l cuts' work'
      agrees answered (same, rows) zeros = (same ∙ answered.0, rows ∙ answered.1, zeros ∙ answered.2)

      go : Case e N ts cuts work → work' ≡ replicate (length work) 0 → RoomsAnswered e N ts cuts work l cuts' work'
      go (faulty f) zeros = absurd (f (sym (package-faulty e N ts cuts work f) ∙ none))
      go (no-package ok f) zeros = absurd (omega (arith, package-19 e N ts cuts work ok f, none))
      go (short ok q (k, (m, h))) zeros =
          agrees (answered-short ok q (k, (m, h))) (d.short (omega (arith, t.short k m h, t.size))) zeros
      go (outnumbered ok q s h) zeros =
          let (is, few, front) = in-front s in
          agrees (answered-outnumbered ok q s h) (d.outnumbered few (omega arith)) zeros
      go (complete ok q s h) zeros =
          let (is, few, front) = in-front s in
          let left = d.complete few (omega arith) in
          agrees (answered-complete ok q s h) (left.0 ∙ ap (λ k. record { refusal = 0; count = k }) is, left.1 ∙ ap (λ k. onto k cuts) front) zeros

  module _ {a : Asked} (p : Packaged N ts (Ok a)) (small : a.rooms.0 < 2 ^ 64) where
    -- The rooms, lowest first, are those asked for in rising order.
    in_order : members node_width a.rooms.0 ≡ arranged ts
    in_order =
        sym (arranged-unique ts (members node_width a.rooms.0) (members-rising node_width a.rooms.0) (λ v.
        Iff.trans (in_members node_width a.rooms.0 v) (
          λ (m, h). (p.rooms v).0 m,
          λ m. let i = (p.rooms v).1 m in (i, member-lt node_width a.rooms.0 v small i),
        )))

    pub answered-taken : {taken : List ℕ} (n : Option ℕ)
        → Taken e a.accepted.network (members node_width a.rooms.0) (length work) taken (counted (length work) n)
        → {l : Listed} {cuts' : List ℕ} → Delivered (counted (length taken) n) taken cuts cuts' l
        → {work' : List ℕ} → work' ≡ replicate (length taken) 0 → RoomsAnswered e N ts cuts work l cuts' work'
    answered-taken n t d cleared =
        delivered-taken (sym p.refusal) (rw (in_order, p.network) at t) (rw t.size at d) cleared
