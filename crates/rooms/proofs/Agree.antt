-- Networks with the same nodes, source and edges between different nodes are answered alike by the calls for several rooms, whatever their own
-- sinks are, and the same rows are left.
-- Assumes accepted networks.
use mathlib.Core.Path.{◌≡◌, refl, sym, ap, ap₂, ◌∙◌}
use mathlib.Core.List.Memᴰ
use mathlib.Core.List.{List, [], ◌∷◌, ◌++◌, Memᴰ}
use mathlib.Core.Logic.{inl, inr, ◌↔◌, ◌≢◌}
use Prim.Native.Nat.{ℕ, ◌<◌}
use native.Mathlib.Decide.{ℕ_discrete}
use lib.ListN.{length, replicate}
use Rattle.sequences.specs.Rising.{arranged}
use Rattle.sequences.specs.Words.{onto}
use Rattle.sequences.proofs.Rising.{in-arranged}
use Rattle.bitset.proofs.Subsets.{same_test}
use Rattle.network.specs.declared.Network.{Network}
use Rattle.network.specs.Record.{Stored, fault_of, unless_refused}
use Rattle.network.proofs.Refusals.{refused-some}
use Rattle.graph.specs.Paths.{Joins}
use Rattle.graph.proofs.Agree.{Agree}
use Rattle.listing.specs.List.{mincuts}
use Rattle.listing.proofs.Agree.{mincuts-agree}
use Rattle.rooms.specs.declared.Extent.{Extent}
use Rattle.rooms.specs.Silences.{to}
use Rattle.rooms.specs.Rooms.{packaged, package_fault, added, sets_from, sets_for, step_need, room_need, needs_from, needs, rooms_refusal, rooms_listed_by, rooms_rows_after, work_after}
use Rattle.rooms.proofs.Packages.{packaged-iff}
use Rattle.rooms.proofs.Sets.{to-stored, to-accepted}
use Rattle.rooms.proofs.Refusals.{refusal-first}
use Rattle.rooms.proofs.Calls.{asked-package}

module _ (M N : Network) (stored' : Stored M) (stored : Stored N) (ok' : fault_of M ≡ 0) (ok : fault_of N ≡ 0) (nodes : M.nodes ≡ N.nodes)
    (source : M.source ≡ N.source) (joins : (e u v : ℕ) → u ≢ v → Joins M e u v ↔ Joins N e u v) where
  -- With the same room for both they agree.
  to-agree : (t : ℕ) → Agree (to M t) (to N t)
  unfolding to Joins
  to-agree t = record { source = source; sink = refl; joins = joins }

  -- So that room has the same list.
  room-agrees : (t : ℕ) → t < N.nodes → (t ≡ N.source → ⊥) → mincuts (to M t) ≡ mincuts (to N t)
  room-agrees t point other =
      mincuts-agree (to M t) (to N t) (to-stored M t stored') (to-stored N t stored)
      (to-accepted M t ok' (rw nodes point) (λ e. other (e ∙ source))) (to-accepted N t ok point other) (to-agree t)

  -- The same rooms are a package.
  package-agrees : (ts : List ℕ) → package_fault M ts ≡ package_fault N ts
  unfolding package_fault
  package-agrees ts =
      rw (
        ok,
        ok',
        same_test (packaged M ts) (packaged N ts)
            (λ p. let k = (packaged-iff M ts).0 p in (packaged-iff N ts).1 (record {
              some = k.some;
              few = k.few;
              distinct = k.distinct;
              points = λ t m. rw nodes at (k.points t m);
              rooms = λ t m e. k.rooms t m (e ∙ sym (source));
            }))
            (λ p. let k = (packaged-iff N ts).0 p in (packaged-iff M ts).1 (record {
              some = k.some;
              few = k.few;
              distinct = k.distinct;
              points = λ t m. rw nodes (k.points t m);
              rooms = λ t m e. k.rooms t m (e ∙ source);
            })),
      )

  module _ (e : Extent) where
    -- Where rooms have the same lists, they have the same sets, and need as many rows.
    from-agrees : (ts : List ℕ) → ((t : ℕ) → Memᴰ t ts → mincuts (to M t) ≡ mincuts (to N t)) → (l : List ℕ) → sets_from e M l ts ≡ sets_from e N l ts
    unfolding sets_from
    from-agrees [] same l = refl
    from-agrees (t ∷ ts) same l =
        ap (λ q. sets_from e M (added e l q) ts) (same t (Memᴰ.head refl))
        ∙ from-agrees ts (λ r m. same r (Memᴰ.tail m)) (added e l (mincuts (to N t)))

    sets-agree : (ts : List ℕ) → ((t : ℕ) → Memᴰ t ts → mincuts (to M t) ≡ mincuts (to N t)) → sets_for e M ts ≡ sets_for e N ts
    unfolding sets_for
    sets-agree [] same = refl
    sets-agree (t ∷ ts) same =
        ap (λ q. sets_from e M q ts) (same t (Memᴰ.head refl)) ∙ from-agrees ts (λ r m. same r (Memᴰ.tail m)) (mincuts (to N t))

    need-agrees : (before : List ℕ) (t : ℕ) → sets_for e M before ≡ sets_for e N before → mincuts (to M t) ≡ mincuts (to N t)
        → room_need e M before t ≡ room_need e N before t
    unfolding room_need
    need-agrees [] t sets list = ap length list
    need-agrees (s ∷ before) t sets list = ap₂ (λ p q. step_need e (length p) (length q)) sets list

    needs-agree : (before ts : List ℕ) → ((t : ℕ) → Memᴰ t before → mincuts (to M t) ≡ mincuts (to N t))
        → ((t : ℕ) → Memᴰ t ts → mincuts (to M t) ≡ mincuts (to N t)) → needs_from e M before ts ≡ needs_from e N before ts
    unfolding needs_from
    needs-agree before [] same same' = refl
    needs-agree before (t ∷ ts) same same' =
        let list = same' t (Memᴰ.head refl) in
        ap₂ ◌∷◌ (need-agrees before t (sets-agree before same) list)
        (needs-agree (before ++ t ∷ []) ts (more list) (λ r m. same' r (Memᴰ.tail m)))
      where
        more : mincuts (to M t) ≡ mincuts (to N t) → (r : ℕ) → Memᴰ r (before ++ t ∷ []) → mincuts (to M r) ≡ mincuts (to N r)
        more list r m = elim (Memᴰ.append_cases before m) [
          | inl i ↦ same r i
          | inr i ↦ rw (Memᴰ.eq_of_singleton i) list
        ]

    -- Then the calls are refused alike.
    refusal-agrees : (ts cuts work : List ℕ) → sets_for e M (arranged ts) ≡ sets_for e N (arranged ts) → needs e M ts ≡ needs e N ts
        → rooms_refusal e M ts cuts work ≡ rooms_refusal e N ts cuts work
    unfolding rooms_refusal
    refusal-agrees ts cuts work sets steps = rw (package-agrees ts, sets, steps)

    -- The calls are answered alike.
    pub rooms-agree : (ts cuts work : List ℕ)
        → (rooms_listed_by e M ts cuts work ≡ rooms_listed_by e N ts cuts work)
        × (rooms_rows_after e M ts cuts work ≡ rooms_rows_after e N ts cuts work)
        × (work_after M ts work ≡ work_after N ts work)
    unfolding rooms_listed_by rooms_rows_after work_after
    rooms-agree ts cuts work = go (ℕ_discrete (package_fault N ts) 0)
      where
        left : unless_refused (package_fault M ts) (replicate (length work) 0) work ≡ unless_refused (package_fault N ts) (replicate (length work) 0) work
        left = ap (λ r. unless_refused r (replicate (length work) 0) work) (package-agrees ts)

        go : Dec (package_fault N ts ≡ 0)
            → (rooms_listed_by e M ts cuts work ≡ rooms_listed_by e N ts cuts work)
            × (rooms_rows_after e M ts cuts work ≡ rooms_rows_after e N ts cuts work)
            × (work_after M ts work ≡ work_after N ts work)
        go (no f) =
            let r = package_fault N ts in
            let here = refusal-first e N ts cuts work f in
            let there = refusal-first e M ts cuts work (λ z. f (sym (package-agrees ts) ∙ z)) ∙ package-agrees ts in
            rw (
              here,
              there,
              refused-some r (length (sets_for e M (arranged ts))) 0 f,
              refused-some r (length (sets_for e N (arranged ts))) 0 f,
              refused-some r (onto (sets_for e M (arranged ts)) cuts) cuts f,
              refused-some r (onto (sets_for e N (arranged ts)) cuts) cuts f,
            )
            (refl, refl, left)
        go (yes z) =
            let (_, k) = asked-package N ts z in
            let same : (t : ℕ) → Memᴰ t (arranged ts) → mincuts (to M t) ≡ mincuts (to N t) =
            λ t m. let i = (in-arranged ts t).0 m in room-agrees t (k.points t i) (k.rooms t i) in
            let sets : sets_for e M (arranged ts) ≡ sets_for e N (arranged ts) = sets-agree (arranged ts) same in
            let steps : needs e M ts ≡ needs e N ts = needs-agree [] (arranged ts) (λ t m. absurd (Memᴰ.not-nil m)) same in
            let refusal = refusal-agrees ts cuts work sets steps in
            (rw (refusal, sets), rw (refusal, sets), left)
