-- The sets that are worked out room by room are the least sets that silence the rooms.
-- Assumes, of each room, that the network with it for its sink keeps the bounds of edges and ends.
--
--   Silent e N ts h      h silences one of the rooms ts, or all, by the extent e; h may hold edges that are not present
--   Clean l              l rises, and is tidied up
use mathlib.Core.Path.{◌≡◌, refl, sym}
use mathlib.Core.List.Memᴰ
use mathlib.Core.List.{List, [], ◌∷◌, ◌++◌, append_assoc, append-nil, Memᴰ}
use mathlib.Core.Logic.Iff
use mathlib.Core.Logic.{◌⊎◌, inl, inr, ◌↔◌, ⊎_map}
use Prim.Native.Nat.{ℕ, ◌<◌}
use native.Mathlib.Nat.{not-suc-le-zero}
use lib.Bits.{bit_and}
use lib.ListN.{length}
use Rattle.sequences.specs.Rising.{Rising}
use Rattle.bitset.specs.Families.{Least}
use Rattle.bitset.specs.Members.{◌⊆◌, ◌∖◌}
use Rattle.bitset.proofs.Families.{least-same}
use Rattle.bitset.proofs.Sets.{in_and, in-minus, same_set}
use Rattle.bitset.proofs.Subsets.{⊆-trans}
use Rattle.network.specs.declared.Network.{Network}
use Rattle.network.specs.Record.{Stored, fault_of, present}
use Rattle.network.proofs.Rules.{fault-rules}
use Rattle.graph.specs.Cuts.{Silenced}
use Rattle.graph.specs.Reach.{Bounded}
use Rattle.graph.proofs.Cuts.{holds-silenced}
use Rattle.graph.proofs.Sound.{accepted-sound}
use Rattle.clutters.specs.Clutters.{HoldsOne, tidy, unions}
use Rattle.clutters.proofs.Clutters.{holds-append, holds-unions, in-tidy, tidy-rising, tidy-holds, clutter-least}
use Rattle.listing.specs.List.{mincuts}
use Rattle.listing.proofs.Mincuts.{mincuts-lists}
use Rattle.rooms.specs.declared.Extent.{Extent}
use Rattle.rooms.specs.declared.Extent.TheVariants.{Any, All}
use Rattle.rooms.specs.Silences.{to, Silences}
use Rattle.rooms.specs.Rooms.{added, sets_from, sets_for}

-- ---- another room

module _ (N : Network) (t : ℕ) where
  -- The record with another room is stored as the record is.
  pub to-stored : Stored N → Stored (to N t)
  unfolding to
  to-stored s = record { firsts = s.firsts; seconds = s.seconds; lengths = s.lengths; edges = s.edges }

  -- It is accepted if the record is and the room is another point than the server.
  pub to-accepted : fault_of N ≡ 0 → t < N.nodes → (t ≡ N.source → ⊥) → fault_of (to N t) ≡ 0
  unfolding to
  to-accepted ok point other =
      let rules = (fault-rules N).0 ok in
      (fault-rules (to N t)).1 (record {
        size = rules.size;
        terminals = (rules.terminals.0, point, λ e. other (sym e));
        ends = rules.ends;
        absent = rules.absent;
      })

-- ---- what silences

abbrev pub Silent : Extent → Network → List ℕ → ℕ → Type 0
Silent Any N ts h = (t : ℕ) × (Memᴰ t ts × Silenced (to N t) h)
Silent All N ts h = (t : ℕ) → Memᴰ t ts → Silenced (to N t) h

-- Of edges that are not present nothing depends.
silenced-present : (N : Network) (h : ℕ) → Silenced N h → Silenced N (bit_and h (present N))
silenced-present N h s = rw (same) s
  where
    same : present N ∖ bit_and h (present N) ≡ present N ∖ h
    same = same_set (λ k. (
      λ m. let p = (in-minus (present N) (bit_and h (present N)) k).0 m in (in-minus (present N) h k).1 (p.0, λ i. p.1 ((in_and h (present N) k).1 (i, p.0))),
      λ m. let p = (in-minus (present N) h k).0 m in (in-minus (present N) (bit_and h (present N)) k).1 (p.0, λ i. p.1 ((in_and h (present N) k).0 i).0),
    ))

-- So it is for several rooms.
silent-present : (e : Extent) (N : Network) (ts : List ℕ) (h : ℕ) → Silent e N ts h → Silent e N ts (bit_and h (present N))
unfolding to
silent-present Any N ts h (t, (m, s)) = (t, (m, silenced-present (to N t) h s))
silent-present All N ts h s = λ t m. silenced-present (to N t) h (s t m)

-- What silences rooms is a set of present edges without which they are silent.
silences-silent : (e : Extent) (N : Network) (t : ℕ) (ts : List ℕ) (c : ℕ) → Silences e N (t ∷ ts) c ↔ ((c ⊆ present N) × Silent e N (t ∷ ts) c)
unfolding to
silences-silent Any N t ts c = (
  λ (r, (m, k)). (k.present, (r, (m, k.severs))),
  λ (p, (r, (m, s))). (r, (m, record { present = p; severs = s })),
)
silences-silent All N t ts c = (
  λ f. ((f t (Memᴰ.head refl)).present, λ r m. (f r m).severs),
  λ (p, s) r m. record { present = p; severs = s r m },
)

-- The least of them are the least sets without which they are silent.
least-silences : (e : Extent) (N : Network) (t : ℕ) (ts : List ℕ) (c : ℕ) → Least (Silent e N (t ∷ ts)) c ↔ Least (Silences e N (t ∷ ts)) c
least-silences e N t ts c =
    let by : (d : ℕ) → Silences e N (t ∷ ts) d ↔ ((d ⊆ present N) × Silent e N (t ∷ ts) d) = silences-silent e N t ts in (
      λ l.
          let part : bit_and c (present N) ≡ c =
          l.least (bit_and c (present N)) (λ k m. ((in_and c (present N) k).0 m).0) (silent-present e N (t ∷ ts) c l.has) in
          let inside : c ⊆ present N = λ k m. ((in_and c (present N) k).0 (rw part m)).1 in
          record {
            has = (by c).1 (inside, l.has);
            least = λ d h s. l.least d h ((by d).0 s).1;
          },
      λ l.
          let (inside, s) = (by c).0 l.has in
          record {
            has = s;
            least = λ d h q. l.least d h ((by d).1 (⊆-trans d c (present N) h inside, q));
          },
    )

-- ---- the lists

-- What the lists hold that a step adds to each other.
abbrev Both : Extent → Type 0 → Type 0 → Type 0
Both Any A B = A ⊎ B
Both All A B = A × B

-- One statement for another in it.
both-same : (e : Extent) {A A' B B' : Type 0} → A ↔ A' → B ↔ B' → Both e A B ↔ Both e A' B'
both-same Any a b = (⊎_map a.0 b.0, ⊎_map a.1 b.1)
both-same All a b = Iff.and a b

holds-added : (e : Extent) (l m : List ℕ) (h : ℕ) → HoldsOne (added e l m) h ↔ Both e (HoldsOne l h) (HoldsOne m h)
unfolding added
holds-added Any l m h = Iff.trans (tidy-holds (l ++ m) h) (holds-append l m h)
holds-added All l m h = Iff.trans (tidy-holds (unions l m) h) (holds-unions l m h)

-- What silences the rooms so far and the next.
silent-next : (e : Extent) (N : Network) (ts : List ℕ) (t h : ℕ) → Both e (Silent e N ts h) (Silenced (to N t) h) ↔ Silent e N (ts ++ t ∷ []) h
silent-next Any N ts t h = (
  λ c. elim c [
    | inl (r, (m, s)) ↦ (r, (Memᴰ.append_left (t ∷ []) m, s))
    | inr s ↦ (t, (Memᴰ.append_right ts (Memᴰ.head refl), s))
  ],
  λ (r, (m, s)). elim (Memᴰ.append_cases ts m) [
    | inl i ↦ inl (r, (i, s))
    | inr i ↦ inr (rw (Memᴰ.eq_of_singleton i) at s)
  ],
)
silent-next All N ts t h = (
  λ (before, s) r m. elim (Memᴰ.append_cases ts m) [
    | inl i ↦ before r i
    | inr i ↦ rw (Memᴰ.eq_of_singleton i) s
  ],
  λ f. (λ r m. f r (Memᴰ.append_left (t ∷ []) m), f t (Memᴰ.append_right ts (Memᴰ.head refl))),
)

-- One room alone.
silent-one : (e : Extent) (N : Network) (t h : ℕ) → Silenced (to N t) h ↔ Silent e N (t ∷ []) h
silent-one Any N t h = (λ s. (t, (Memᴰ.head refl, s)), λ (r, (m, s)). rw (Memᴰ.eq_of_singleton m) at s)
silent-one All N t h = (λ s r m. rw (Memᴰ.eq_of_singleton m) s, λ f. f t (Memᴰ.head refl))

-- A room's list holds what silences the room.
holds-room : (N : Network) (t : ℕ) → Bounded (to N t) → (h : ℕ) → HoldsOne (mincuts (to N t)) h ↔ Silenced (to N t) h
holds-room N t B h =
    let lists = mincuts-lists (to N t) B in
    Iff.trans (
      λ (r, (m, p)). (r, ((lists.members r).0 m, p)),
      λ (r, (m, p)). (r, ((lists.members r).1 m, p)),
    )
    (holds-silenced (to N t) B h)

pub record Clean (l : List ℕ) : Type 0 where
  pub rising : Rising l
  pub members : (c : ℕ) → Memᴰ c l ↔ Least (HoldsOne l) c

clean-tidy : (l : List ℕ) → Clean (tidy l)
clean-tidy l = record {
  rising = tidy-rising l;
  members = λ c. Iff.trans (in-tidy l c) (least-same (HoldsOne l) (HoldsOne (tidy l)) (λ h. Iff.symm (tidy-holds l h)) c);
}

clean-added : (e : Extent) (l m : List ℕ) → Clean (added e l m)
unfolding added
clean-added Any l m = clean-tidy (l ++ m)
clean-added All l m = clean-tidy (unions l m)

clean-mincuts : (M : Network) → Bounded M → Clean (mincuts M)
clean-mincuts M B =
    let lists = mincuts-lists M B in
    record {
      rising = lists.rising;
      members = clutter-least (mincuts M) (λ s t i j h. ((lists.members t).0 j).least s h ((lists.members s).0 i).cut);
    }

clean-from : (e : Extent) (N : Network) (l ts : List ℕ) → Clean l → Clean (sets_from e N l ts)
unfolding sets_from
clean-from e N l [] k = k
clean-from e N l (t ∷ ts) k = clean-from e N (added e l (mincuts (to N t))) ts (clean-added e l (mincuts (to N t)))

-- The rooms' lists, added one after the other, hold what silences the rooms.
holds-from : (e : Extent) (N : Network) (before l ts : List ℕ) → ((t : ℕ) → Memᴰ t ts → Bounded (to N t))
    → ((h : ℕ) → HoldsOne l h ↔ Silent e N before h) → (h : ℕ) → HoldsOne (sets_from e N l ts) h ↔ Silent e N (before ++ ts) h
unfolding sets_from
holds-from e N before l [] good same h = rw (append-nil before) (same h)
holds-from e N before l (t ∷ ts) good same h =
    let step : (h : ℕ) → HoldsOne (added e l (mincuts (to N t))) h ↔ Silent e N (before ++ t ∷ []) h = λ h.
    Iff.trans (holds-added e l (mincuts (to N t)) h)
    (Iff.trans (both-same e (same h) (holds-room N t (good t (Memᴰ.head refl)) h)) (silent-next e N before t h)) in
    rw (append_assoc before (t ∷ []) ts) at (holds-from e N (before ++ t ∷ []) (added e l (mincuts (to N t))) ts (λ r m. good r (Memᴰ.tail m)) step h)

-- ---- the theorem

-- For rooms that are points of an accepted network, and not the server, the sets worked out rise, and are exactly the least sets that silence
-- the rooms.
pub sets-least : (e : Extent) (N : Network) → Stored N → fault_of N ≡ 0 → (ts : List ℕ) → 0 < length ts
    → ((t : ℕ) → Memᴰ t ts → (t < N.nodes) × (t ≡ N.source → ⊥))
    → Rising (sets_for e N ts) × ((c : ℕ) → Memᴰ c (sets_for e N ts) ↔ Least (Silences e N ts) c)
unfolding sets_for
sets-least e N stored ok [] some points = absurd (not-suc-le-zero some)
sets-least e N stored ok (t ∷ ts) some points =
    let good : (r : ℕ) → Memᴰ r (t ∷ ts) → Bounded (to N r) = λ r m.
    let p = points r m in (accepted-sound (to N r) (to-stored N r stored) (to-accepted N r ok p.0 p.1)).bounded in
    let B = good t (Memᴰ.head refl) in
    let l : List ℕ = sets_from e N (mincuts (to N t)) ts in
    let clean : Clean l = clean-from e N (mincuts (to N t)) ts (clean-mincuts (to N t) B) in
    let holds : (h : ℕ) → HoldsOne l h ↔ Silent e N (t ∷ ts) h = holds-from e N (t ∷ []) (mincuts (to N t)) ts (λ r m. good r (Memᴰ.tail m))
    (λ h. Iff.trans (holds-room N t B h) (silent-one e N t h)) in (
      clean.rising,
      λ c. Iff.trans (clean.members c) (Iff.trans (least-same (HoldsOne l) (Silent e N (t ∷ ts)) holds c) (least-silences e N t ts c)),
    )

-- What silences rooms does not depend on their order.
pub silences-same : (e : Extent) (N : Network) (ts us : List ℕ) → ((t : ℕ) → Memᴰ t ts ↔ Memᴰ t us) → (c : ℕ)
    → Silences e N ts c ↔ Silences e N us c
silences-same Any N ts us same c = (λ (t, (m, k)). (t, ((same t).0 m, k)), λ (t, (m, k)). (t, ((same t).1 m, k)))
silences-same All N ts us same c = (λ f t m. f t ((same t).1 m), λ f t m. f t ((same t).0 m))
