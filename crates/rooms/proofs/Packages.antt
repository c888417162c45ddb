-- The test of the rooms that a call is asked for is right.
-- Assumes nothing.
--
--   Fitting N s ts       the rooms ts are points of N, none twice, none of the set s, and none the server
--   Packing N ts seen i  before room i: those before it are in the set `seen`, and the others decide what the test says of all
use mathlib.Core.Path.{◌≡◌, refl, sym, ap, ◌∙◌}
use mathlib.Core.Bool.{Bool, true, false, not, ◌&&◌}
use mathlib.Core.List.Memᴰ
use mathlib.Core.List.{List, [], ◌∷◌, Memᴰ, ◌++◌}
use mathlib.Core.Logic.{inl, inr, ◌↔◌}
use Prim.Native.Nat.{ℕ, suc, ◌+◌, ◌≤◌, ◌<◌}
use native.Mathlib.Numerals.{add-one}
use native.Mathlib.Omega.{arith}
use denote.Floats.{passes}
use borrow.Author.Tests.{lt-ltb, le-ltb, lt-leb, le-leb}
use lib.Dec.{T, eqb, leb, ltb, ltb→lt, lt→ltb, leb→le, le→leb}
use lib.ListN.{length, get_or, take, drop, drop_of_length-le}
use lib.Seq.{take-suc, take_all, drop-cons}
use Rattle.std.specs.Prelude.{Result, Ok, Err}
use Rattle.std.specs.Result.{IsErrAnd}
use Rattle.sequences.specs.Distinct.{Distinct}
use Rattle.sequences.proofs.Places.{mem-at}
use Rattle.sequences.proofs.Tests.{T_and, T_not, T-then, T-eqb}
use Rattle.bitset.specs.Members.{◌∈◌, has, insert}
use Rattle.bitset.proofs.Sets.{in_insert, not-zero}
use Rattle.network.specs.declared.Network.{Network}
use Rattle.network.specs.declared.refusal.Refusal.{Refusal}
use Rattle.network.specs.declared.refusal.Refusal.TheVariants.{BadRooms}
use Rattle.network.specs.Refusals.{number_of}
use Rattle.network.specs.Record.{◌when◌, fault_of}
use Rattle.network.proofs.Refusals.{number-pos, some_then, none_then, some-when, none-when}
use Rattle.rooms.specs.declared.asked.Asked.{Asked}
use Rattle.rooms.specs.Silences.{Package}
use Rattle.rooms.specs.Points.{Rooms}
use Rattle.rooms.specs.Rooms.{fitting, packaged, package_fault}
use Rattle.rooms.specs.Steps.{Packaged}

pub record Fitting (N : Network) (s : ℕ) (ts : List ℕ) : Type 0 where
  pub distinct : Distinct ts
  pub points : (t : ℕ) → Memᴰ t ts → t < N.nodes
  pub rooms : (t : ℕ) → Memᴰ t ts → t ≡ N.source → ⊥
  pub fresh : (t : ℕ) → Memᴰ t ts → t ∈ s → ⊥

module _ (N : Network) where
  -- The test of one room.
  pub room-iff : (s t : ℕ) → T (ltb t N.nodes && not (eqb t N.source) && not (has s t))
      ↔ ((t < N.nodes) × (t ≡ N.source → ⊥) × (t ∈ s → ⊥))
  room-iff s t =
      let both = T_and (ltb t N.nodes && not (eqb t N.source)) (not (has s t)) in
      let first = T_and (ltb t N.nodes) (not (eqb t N.source)) in (
        λ b.
            let (p, q) = both.0 b in
            let (l, e) = first.0 p in
            (ltb→lt t N.nodes l, λ same. (T_not (eqb t N.source)).0 e ((T-eqb t N.source).1 same), (T_not (has s t)).0 q),
        λ (l, e, f). both.1 (first.1 (lt→ltb t N.nodes l, (T_not (eqb t N.source)).1 (λ b. e ((T-eqb t N.source).0 b))), (T_not (has s t)).1 f),
      )

  -- The test of all of them.
  fitting-iff : (s : ℕ) (ts : List ℕ) → T (fitting N s ts) ↔ Fitting N s ts
  unfolding fitting Distinct
  fitting-iff s [] = (
    λ b. record {
      distinct = tt;
      points = λ t m. absurd (Memᴰ.not-nil m);
      rooms = λ t m. absurd (Memᴰ.not-nil m);
      fresh = λ t m. absurd (Memᴰ.not-nil m);
    },
    λ f. tt,
  )
  fitting-iff s (x ∷ ts) =
      let both = T-then (ltb x N.nodes && not (eqb x N.source) && not (has s x)) (fitting N (insert s x) ts) in
      let rest = fitting-iff (insert s x) ts in (
        λ b.
            let (p, q) = both.0 b in
            let (l, e, f) = (room-iff s x).0 p in
            let r = rest.0 q in
            record {
              distinct = (λ m. r.fresh x m ((in_insert s x x).1 (inr refl)), r.distinct);
              points = λ t m. elim (Memᴰ.cases_cons m) [ inl same ↦ rw same l | inr i ↦ r.points t i ];
              rooms = λ t m. elim (Memᴰ.cases_cons m) [ inl same ↦ rw same e | inr i ↦ r.rooms t i ];
              fresh = λ t m. elim (Memᴰ.cases_cons m) [ inl same ↦ rw same f | inr i ↦ λ k. r.fresh t i ((in_insert s x t).1 (inl k)) ];
            },
        λ r.
            both.1 (
              (room-iff s x).1 (r.points x (Memᴰ.head refl), r.rooms x (Memᴰ.head refl), r.fresh x (Memᴰ.head refl)),
              rest.1 (record {
                distinct = r.distinct.1;
                points = λ t m. r.points t (Memᴰ.tail m);
                rooms = λ t m. r.rooms t (Memᴰ.tail m);
                fresh = λ t m k. elim ((in_insert s x t).0 k) [
                  | inl i ↦ r.fresh t (Memᴰ.tail m) i
                  | inr e ↦ r.distinct.0 (rw e at m)
                ];
              }),
            ),
      )

  -- The test of a package is right.
  pub packaged-iff : (ts : List ℕ) → T (packaged N ts) ↔ Package N ts
  unfolding packaged
  packaged-iff ts =
      let both = T_and (ltb 0 (length ts) && leb (length ts) 8) (fitting N 0 ts) in
      let first = T_and (ltb 0 (length ts)) (leb (length ts) 8) in (
        λ b.
            let (p, q) = both.0 b in
            let (some, few) = first.0 p in
            let f = (fitting-iff 0 ts).0 q in
            record {
              some = ltb→lt 0 (length ts) some;
              few = leb→le (length ts) 8 few;
              distinct = f.distinct;
              points = f.points;
              rooms = f.rooms;
            },
        λ k.
            both.1 (
              first.1 (lt→ltb 0 (length ts) k.some, le→leb (length ts) 8 k.few),
              (fitting-iff 0 ts).1 (record { distinct = k.distinct; points = k.points; rooms = k.rooms; fresh = λ t m i. not-zero t i }),
            ),
      )

-- ---- the rooms one after the other

pub record Packing (N : Network) (ts : List ℕ) (seen i : ℕ) : Type 0 where
  pub rest : fitting N 0 ts ≡ fitting N seen (drop i ts)
  pub members : (v : ℕ) → (v ∈ seen) ↔ Memᴰ v (take i ts)

module _ (N : Network) (ts : List ℕ) where
  -- The test of room i, with those before it.
  abbrev fits_next : ℕ → ℕ → Bool
  fits_next seen i = ltb (get_or ts i 0) N.nodes && not (eqb (get_or ts i 0) N.source) && not (has seen (get_or ts i 0))

  -- At first none is seen.
  pub first-packing : Packing N ts 0 0
  first-packing = record {
    rest = refl;
    members = λ v. (λ m. absurd (not-zero v m), λ m. absurd (Memᴰ.not-nil m));
  }

  module _ {seen i : ℕ} (t : Packing N ts seen i) (h : i < length ts) where
    -- The test goes on with room i.
    packing-step : fitting N 0 ts ≡ elim (fits_next seen i) [ true ↦ fitting N (insert seen (get_or ts i 0)) (drop (suc i) ts) | false ↦ false ]
    unfolding fitting
    packing-step = t.rest ∙ ap (fitting N seen) (drop-cons ts i 0 h)

    -- One that does not fit decides.
    pub packing-unfit : {b : Bool} → b ≡ fits_next seen i → b ≡ false → fitting N 0 ts ≡ false
    packing-unfit e f =
        packing-step
        ∙ ap (λ b. elim b [ true ↦ fitting N (insert seen (get_or ts i 0)) (drop (suc i) ts) | false ↦ false ]) (sym e ∙ f)

    -- One that fits is seen.
    pub next-packing : {b : Bool} → b ≡ fits_next seen i → b ≡ true → {seen' : ℕ} → seen' ≡ insert seen (get_or ts i 0) → Packing N ts seen' (i + 1)
    next-packing e f {seen'} is =
        let on : suc i ≡ i + 1 = sym (add-one i) in
        let more : take (i + 1) ts ≡ take i ts ++ get_or ts i 0 ∷ [] = rw (add-one i) (take-suc ts i 0 h) in
        record {
          rest =
              packing-step
              ∙ ap (λ b. elim b [ true ↦ fitting N (insert seen (get_or ts i 0)) (drop (suc i) ts) | false ↦ false ]) (sym e ∙ f)
              ∙ ap (λ s. fitting N s (drop (suc i) ts)) (sym is)
              ∙ ap (λ k. fitting N seen' (drop k ts)) on;
          members = λ v. rw (is, more) (
            λ m. elim ((in_insert seen (get_or ts i 0) v).0 m) [
              | inl k ↦ Memᴰ.append_left (get_or ts i 0 ∷ []) ((t.members v).0 k)
              | inr same ↦ Memᴰ.append_right (take i ts) (Memᴰ.head same)
            ],
            λ m. (in_insert seen (get_or ts i 0) v).1 (elim (Memᴰ.append_cases (take i ts) m) [
              | inl k ↦ inl ((t.members v).1 k)
              | inr k ↦ inr (Memᴰ.eq_of_singleton k)
            ]),
          );
        }

  -- ---- the answer

  -- A record with a fault is refused with it.
  pub asked-faulty : (a : Result Asked Refusal) (r : Refusal) → IsErrAnd a (λ e. e ≡ r) → number_of r ≡ fault_of N → Packaged N ts a
  unfolding package_fault
  asked-faulty (Ok q) r h e = absurd h
  asked-faulty (Err q) r h e = record {
    refusal =
        let is : number_of q ≡ fault_of N = ap number_of h ∙ e in
        is ∙ sym (some_then (fault_of N) (19 when not (packaged N ts)) (omega (arith, number-pos q)));
    network = tt;
    rooms = tt;
  }

  module _ (tested : 0 ≡ fault_of N) where
    ok : fault_of N ≡ 0
    ok = sym tested

    -- What is no package is refused with 19.
    asked-unfit : packaged N ts ≡ false → Packaged N ts (Err BadRooms)
    unfolding package_fault
    asked-unfit no-package = record {
      refusal = sym (none_then (19 when not (packaged N ts)) ok ∙ some-when 19 (ap not no-package));
      network = tt;
      rooms = tt;
    }

    pub asked-none : length ts ≡ 0 → Packaged N ts (Err BadRooms)
    unfolding packaged
    asked-none h = asked-unfit (rw (le-ltb 0 (length ts) (omega arith)))

    pub asked-many : 8 < length ts → Packaged N ts (Err BadRooms)
    unfolding packaged
    asked-many h = asked-unfit (rw (lt-ltb 0 (length ts) (omega arith), lt-leb (length ts) 8 h))

    module _ (some : length ts ≡ 0 → ⊥) (few : length ts ≤ 8) where
      -- Where there are some and not too many, the test of each decides.
      by-fitting : packaged N ts ≡ fitting N 0 ts
      unfolding packaged
      by-fitting = rw (lt-ltb 0 (length ts) (omega arith), le-leb (length ts) 8 few)

      pub asked-misfit : {seen i : ℕ} → Packing N ts seen i → i < length ts → {b : Bool} → b ≡ fits_next seen i → b ≡ false
          → Packaged N ts (Err BadRooms)
      asked-misfit t h e f = asked-unfit (by-fitting ∙ packing-unfit t h e f)

      module _ {seen i : ℕ} (t : Packing N ts seen i) (h : length ts ≤ i) where
        -- After the last room they are a package,
        packing-last : packaged N ts ≡ true
        unfolding fitting
        packing-last = by-fitting ∙ t.rest ∙ ap (fitting N seen) (drop_of_length-le ts {i = i} h)

        packing-members : (v : ℕ) → (v ∈ seen) ↔ Memᴰ v ts
        packing-members = let all : take i ts ≡ ts = take_all i ts h in rw all at t.members

        pub asked-package : {a : Asked} → a.accepted.network ≡ N → a.rooms.0 ≡ seen → Packaged N ts (Ok a)
        unfolding package_fault
        asked-package {a} same is = record {
          refusal = sym (none_then (19 when not (packaged N ts)) ok ∙ none-when 19 (ap not packing-last));
          network = same;
          rooms = rw is packing-members;
        }

        -- and can be taken.
        pub packed-rooms : Rooms N seen
        packed-rooms =
            let k = (packaged-iff N ts).0 (passes (packaged N ts) packing-last) in
            let in_list : (v : ℕ) → v ∈ seen → Memᴰ v ts = λ v. (packing-members v).0 in
            record {
              accepted = ok;
              some = λ e. not-zero (get_or ts 0 0) (rw e at ((packing-members (get_or ts 0 0)).1 (mem-at ts 0 0 (omega arith))));
              points = λ v m. k.points v (in_list v m);
              others = λ v m. k.rooms v (in_list v m);
            }
