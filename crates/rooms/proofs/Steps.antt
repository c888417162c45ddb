-- The steps of the code, over plain values: how many sets may come, a room's list in the rows, a list added to another, and the rooms one after
-- the other.
-- Assumes, where a list is made, a sound network.
--
--   Taking e N ts lent rows count left      between two of the rooms ts: the sets for those so far stand in front, and the others are left
use mathlib.Core.Path.{◌≡◌, refl, sym, ap, ◌∙◌}
use mathlib.Core.Bool.{not, ◌&&◌}
use lib.Dec.{eqb}
use mathlib.Core.List.Memᴰ
use mathlib.Core.List.{List, [], ◌∷◌, ◌++◌, append_assoc, append-nil, Memᴰ}
use mathlib.Core.Logic.{inl, inr}
use Prim.Native.Nat.{ℕ, suc, ◌+◌, ◌*◌, ◌-◌, ◌/◌, ◌^◌, min, ◌≤◌, ◌<◌}
use native.Mathlib.Decide.{dec_lt}
use native.Mathlib.Nat.{mul-suc, mul_comm, le-div_iff_mul-le}
use native.Mathlib.Numerals.{add-one}
use native.Mathlib.Omega.{arith}
use borrow.Rule.Slice.PartMut.{mid_of, put_mid, post_of, same_len_mid, mid_len, take_put}
use lib.ListN.{length, length-append, take, drop, length-map, length-take}
use Rattle.std.proofs.Common.{length-drop}
use lib.Seq.{length-sets, take_at, drop_at, take-add, take-append-le, length-take-le}
use Rattle.sequences.specs.Words.{onto}
use Rattle.sequences.proofs.Words.{length-onto}
use Rattle.bitset.specs.Members.{has, ◌∈◌, members, Lowest}
use Rattle.bitset.proofs.MemberList.{members-first}
use Rattle.bitset.proofs.Scans.{less-lowest, lowest-lt}
use Rattle.node_set.specs.Width.{node_width}
use Rattle.network.specs.declared.Network.{Network}
use Rattle.network.specs.Record.{fault_of}
use Rattle.graph.proofs.Sound.{Sound}
use Rattle.branches.specs.Enumeration.{Row, cuts_of, rows}
use Rattle.enumeration.specs.Rows.{Put}
use Rattle.filling.proofs.Onto.{sets-onto}
use Rattle.ordering.specs.Ascended.{Ascended}
use Rattle.ordering.proofs.Beside.{ascended-sorted}
use Rattle.clutters.specs.Clutters.{tidy, unions}
use Rattle.clutters.specs.Steps.{between, United, Tidied}
use Rattle.clutters.proofs.Clutters.{tidy-same}
use Rattle.listing.specs.List.{mincuts}
use Rattle.listing.proofs.Rows.{mincuts-count, sorted-mincuts}
use Rattle.listing.proofs.LentOn.{onto-first, onto-back}
use Rattle.rooms.specs.declared.Extent.{Extent}
use Rattle.rooms.specs.declared.Extent.TheVariants.{Any, All}
use Rattle.rooms.specs.Silences.{to}
use Rattle.rooms.specs.Rooms.{added, sets_from, sets_for, step_need, room_need, needs_from}
use Rattle.rooms.specs.Points.{Rooms}
use Rattle.rooms.specs.Steps.{MostSets, RoomListed, Added, RoomAdded, Taken}
use Rattle.rooms.proofs.Sets.{to-accepted}

-- ---- how many sets may come

module _ (lent p : ℕ) (h : p ≤ lent) where
  pub most-any : MostSets Any lent p (lent - p)
  unfolding step_need
  most-any q = (λ k. omega arith, λ k. omega arith)

  pub most-all : MostSets All lent p ((lent - p) / (p + 1))
  unfolding step_need
  most-all q =
      let product : q * suc p ≡ p * q + q = mul-suc q p ∙ ap (λ n. n + q) (mul_comm q p) in
      let by = le-div_iff_mul-le {k = suc p} {x = q} {y = lent - p} (omega arith) in
      rw (add-one p) (λ k. omega (arith, by.0 k, product), λ k. by.1 (omega (arith, product)))

-- Then the list itself has its place behind the sets so far.
pub most-fits : (e : Extent) (lent p r : ℕ) → MostSets e lent p r → p + r ≤ lent
unfolding step_need
most-fits Any lent p r most = (most r).0 (omega arith)
most-fits All lent p r most = let fits = (most r).0 (omega arith) in omega (arith, fits)

-- ---- a room's list

module _ (N : Network) (S : Sound N) (lent sides after sides' : List ℕ) (n : ℕ) (put : Put (rows N) 0 (length lent) lent sides after sides' n) where
  -- As many rows as before.
  put-length : length after ≡ length lent
  put-length = ap length put.put-cuts ∙ length-sets lent 0 (cuts_of (rows N))

  -- As many as there are, or one more than rows.
  put_count : n ≡ min (length (mincuts N)) (length lent + 1)
  put_count = omega (arith, put.count, mincuts-count N S)

  -- There are more of them than rows.
  pub room-outnumbers : length lent < n → RoomListed N lent after (length lent + 1)
  room-outnumbers h = record { size = put-length; count = omega (arith, put_count); listed = λ few. absurd (omega (arith, put_count)) }

  -- There are rows for all: sorted they are the list.
  pub room-listed : n ≤ length lent → {sorted : List ℕ} → Ascended (take n after) sorted → RoomListed N lent (sorted ++ drop n after) n
  room-listed h {sorted} s =
      let l : List ℕ = cuts_of (rows N) in
      let count : n ≡ length l = omega (arith, put.count, length-map (rows N) (λ (r : Row). r.0)) in
      let on = put.put-cuts ∙ sets-onto l lent (omega arith) in
      let whole : Ascended l sorted = rw (on, onto-first l lent n count) at s in
      let is : sorted ≡ mincuts N = sorted-mincuts N S l sorted sorted refl (ascended-sorted l sorted whole) in
      let back : sorted ++ drop n after ≡ onto sorted lent = rw on (onto-back l lent n count sorted whole.same_length) in
      record {
        size = ap length back ∙ length-onto sorted lent (omega (arith, whole.same_length));
        count = put_count;
        listed = λ few. ap (take n) back ∙ take_at sorted (drop (length sorted) lent) n (whole.same_length ∙ sym count) ∙ is;
      }

-- ---- a list added to another

-- The first rows are lent to be tidied up, and come back: there are as many as before,
lent-size : (rows new : List ℕ) (m : ℕ) → length new ≡ length (take m rows) → length (new ++ drop m rows) ≡ length rows
lent-size rows new m size = omega (arith, length-append new (drop m rows), length-take m rows, length-drop m rows)

-- and what stands in front of them stands in front of all.
lent-front : (rows new : List ℕ) (m r : ℕ) → r ≤ length new → take r (new ++ drop m rows) ≡ take r new
lent-front rows new m r few = take-append-le r new (drop m rows) few

-- What is tidied up is no more than it was.
tidied-few : {l rows rows' : List ℕ} {r : ℕ} → Tidied l rows rows' r → r ≤ length rows'
tidied-few {l} {rows} {rows'} {r} t = elim (dec_lt (length rows') r) [
  | yes more ↦ absurd (omega (arith, t.count, ap length t.tidied, length-take r rows'))
  | no none ↦ omega arith
]

module _ (p m : ℕ) (rows : List ℕ) (parted : p ≤ m) where
  -- Joined: all of them are tidied up.
  pub added-any : {new : List ℕ} {r : ℕ} → Tidied (drop 0 (take m rows)) (take m rows) new r
      → Added Any (take p rows) (between p m rows) rows (new ++ drop m rows) r
  unfolding added
  added-any {new} {r} t =
      let there : p + (m - p) ≡ m = omega arith in
      let both : take p rows ++ between p m rows ≡ take m rows = sym (take-add p (m - p) rows) ∙ ap (λ n. take n rows) there in
      record {
        size = lent-size rows new m t.size;
        count = t.count ∙ sym (ap (λ l. length (tidy l)) both);
        front = lent-front rows new m r (tidied-few t) ∙ t.tidied ∙ sym (ap tidy both);
      }

  -- There are rows for all unions.
  pub added-room : step_need All p (m - p) ≤ length rows → m + p * (m - p) ≤ length rows
  unfolding step_need
  added-room room = omega arith

  -- United: their unions are tidied up.
  pub added-all : step_need All p (m - p) ≤ length rows → {united new : List ℕ} {end r : ℕ} → United p m rows united end
      → Tidied (drop m (take end united)) (take end united) new r → Added All (take p rows) (between p m rows) rows (new ++ drop end united) r
  unfolding added
  added-all room {united} {new} {end} {r} u t =
      let first : length (take m rows) ≡ m = length-take-le m rows (omega (arith, added-room room)) in
      let behind : drop m (take end united) ≡ u.sets = rw u.followed.written (drop_at (take m rows) u.sets m first) in
      let same : tidy (drop m (take end united)) ≡ tidy (unions (take p rows) (between p m rows)) =
      ap tidy behind ∙ tidy-same u.sets (unions (take p rows) (between p m rows)) u.same in
      record {
        size = lent-size united new end t.size ∙ u.followed.size;
        count = t.count ∙ ap length same;
        front = lent-front united new end r (tidied-few t) ∙ t.tidied ∙ same;
      }

-- What is added to is counted no higher than the rows.
pub added-within : {e : Extent} {l m rows rows' : List ℕ} {r : ℕ} → Added e l m rows rows' r → r ≤ length rows
added-within {rows' = rows'} {r} a = omega (arith, a.count, ap length a.front, length-take r rows', a.size)

-- ---- a room added

module _ (e : Extent) (N : Network) (p most : ℕ) (rows : List ℕ) (fits : MostSets e (length rows) p most) (within : p ≤ length rows) where
  -- The rows behind the sets so far that are lent for the list.
  abbrev lent_rows : List ℕ
  lent_rows = mid_of p ((p + most) - p) rows

  lent_length : length lent_rows ≡ most
  lent_length = mid_len p (p + most) rows (most-fits e (length rows) p most fits) ∙ omega arith

  module _ {new : List ℕ} {q : ℕ} (l : RoomListed N lent_rows new q) where
    -- The rows with the list.
    abbrev with-list : List ℕ
    with-list = put_mid p ((p + most) - p) rows new

    pub with-list-length : length with-list ≡ length rows
    with-list-length = same_len_mid p ((p + most) - p) rows new l.size

    -- The list is too long.
    pub room-short : most < q → RoomAdded e N p rows with-list (length rows + 1)
    room-short more =
        let long : most < length (mincuts N) = omega (arith, l.count, lent_length) in
        record {
          size = with-list-length;
          enough = λ few. absurd (omega (arith, (fits (length (mincuts N))).1 few));
          short = λ _. omega arith;
        }

    -- It is not: all of it stands behind the sets so far.
    module _ (few : q ≤ most) where
      listed-count : q ≡ length (mincuts N)
      listed-count = omega (arith, l.count, lent_length)

      pub listed-fits : step_need e p ((p + q) - p) ≤ length with-list
      listed-fits =
          let back : (p + q) - p ≡ q = omega arith in
          rw (back, with-list-length) ((fits q).0 few)

      first-sets : take p with-list ≡ take p rows
      first-sets = take_put p ((p + most) - p) rows new within

      next-sets : between p (p + q) with-list ≡ mincuts N
      next-sets =
          let back : (p + q) - p ≡ q = omega arith in
          rw (back, drop_at (take p rows) (new ++ post_of p ((p + most) - p) rows) p (length-take-le p rows within))
          (take-append-le q new (post_of p ((p + most) - p) rows) (omega (arith, l.size, lent_length)) ∙ l.listed (omega (arith, listed-count, lent_length)))

      -- Added to them, it is the room added.
      pub room-added : {rows' : List ℕ} {r : ℕ} → Added e (take p with-list) (between p (p + q) with-list) with-list rows' r
          → RoomAdded e N p rows rows' r
      room-added {rows'} {r} a =
          let step : Added e (take p rows) (mincuts N) with-list rows' r = rw (first-sets, next-sets) at a in
          record {
            size = a.size ∙ with-list-length;
            enough = λ _. record { size = a.size ∙ with-list-length; count = step.count; front = step.front };
            short = λ long. absurd (omega (arith, rw listed-count at ((fits q).0 few)));
          }

-- ---- the rooms one after the other

-- The networks of the rooms are accepted.
pub room-accepted : (N : Network) (s t : ℕ) → Rooms N s → t ∈ s → fault_of (to N t) ≡ 0
room-accepted N s t r m = to-accepted N t r.accepted (r.points t m) (r.others t m)

-- There is a first room, and with the others it makes the rooms.
pub first-others : (N : Network) (s t d : ℕ) → s < 2 ^ node_width → Rooms N s → Lowest node_width s t
    → ((k : ℕ) → has d k ≡ has s k && not (eqb k t)) → (t ∈ s) × (t ∷ members node_width d ≡ members node_width s)
first-others N s t d small r low rest =
    let lower = lowest-lt node_width s t small r.some low in
    let less = less-lowest node_width s t d low lower rest in
    (less.member, sym (members-first node_width s d t lower low less.rest))

module _ (e : Extent) (N : Network) where
  -- The sets for one room more.
  pub sets-next : (s : ℕ) (ts : List ℕ) (t : ℕ) → sets_for e N (s ∷ ts ++ t ∷ []) ≡ added e (sets_for e N (s ∷ ts)) (mincuts (to N t))
  unfolding sets_for sets_from
  sets-next s ts t = from_next (mincuts (to N s)) ts
    where
      from_next : (l us : List ℕ) → sets_from e N l (us ++ t ∷ []) ≡ added e (sets_from e N l us) (mincuts (to N t))
      from_next l [] = refl
      from_next l (u ∷ us) = from_next (added e l (mincuts (to N u))) us

  -- What they need.
  needs-next : (before ts : List ℕ) (t : ℕ) → needs_from e N before (ts ++ t ∷ []) ≡ needs_from e N before ts ++ room_need e N (before ++ ts) t ∷ []
  unfolding needs_from
  needs-next before [] t = rw (append-nil before)
  needs-next before (u ∷ ts) t =
      ap (λ l. room_need e N before u ∷ l)
      (rw (← append_assoc before (u ∷ []) ts) (needs-next (before ++ u ∷ []) ts t))

  -- The rooms so far need what all need.
  needs-first : (before ts us : List ℕ) (n : ℕ) → Memᴰ n (needs_from e N before ts) → Memᴰ n (needs_from e N before (ts ++ us))
  unfolding needs_from
  needs-first before [] us n m = absurd (Memᴰ.not-nil m)
  needs-first before (t ∷ ts) us n m = elim (Memᴰ.cases_cons m) [
    | inl same ↦ Memᴰ.head same
    | inr i ↦ Memᴰ.tail (needs-first (before ++ t ∷ []) ts us n i)
  ]

module _ (e : Extent) (N : Network) (ts : List ℕ) (lent : ℕ) where
  pub record Taking (rows : List ℕ) (count left : ℕ) : Type 0 where
    pub first : ℕ
    pub others : List ℕ
    pub order : (first ∷ others) ++ members node_width left ≡ ts
    pub taken : Taken e N (first ∷ others) lent rows count

  -- The first room's list.
  pub first-taking : (start left : ℕ) → start ∷ members node_width left ≡ ts → {rows₀ rows : List ℕ} {n : ℕ}
      → RoomListed (to N start) rows₀ rows n
      → length rows₀ ≡ lent → Taking rows n left
  unfolding sets_for sets_from needs_from room_need
  first-taking start left whole {rows₀} {rows} {n} l all =
      let fits : length (mincuts (to N start)) ≤ lent → n ≡ length (mincuts (to N start)) = λ few. omega (arith, l.count, all) in
      record {
        first = start;
        others = [];
        order = whole;
        taken = record {
          size = l.size ∙ all;
          enough = λ few. let room = few (length (mincuts (to N start))) (Memᴰ.head refl) in (fits room, l.listed (omega (arith, all)));
          short = λ k m long. let same = Memᴰ.eq_of_singleton m in omega (arith, l.count);
        };
      }

  module _ {rows : List ℕ} {count left : ℕ} (t : Taking rows count left) where
    abbrev before : List ℕ
    before = t.first ∷ t.others

    -- After the last room all are taken.
    pub last-taking : members node_width left ≡ [] → Taken e N ts lent rows count
    last-taking none =
        let whole : before ≡ ts = sym (append-nil before) ∙ ap (λ l. before ++ l) (sym none) ∙ t.order in
        rw whole at t.taken

    -- The rooms left are among all.
    pub left-rooms : (k : ℕ) → Memᴰ k (members node_width left) → Memᴰ k ts
    left-rooms k m = rw t.order at (Memᴰ.append_right before m)

    -- Where every step has had enough rows, the sets stand in front.
    taken-few : ((n : ℕ) → Memᴰ n (needs_from e N [] before) → n ≤ lent) → count ≤ lent
    taken-few enough =
        let (is, front) = t.taken.enough enough in
        omega (arith, ap length front, length-take count rows, t.taken.size)

    -- Where there were too few for a step, there are too few for all.
    pub short-taking : length rows < count → Taken e N ts lent rows count
    short-taking more = record {
      size = t.taken.size;
      enough = λ enough.
          let few = taken-few (λ n m. enough n (rw t.order at (needs-first e N [] before (members node_width left) n m))) in
          absurd (omega (arith, t.taken.size));
      short = λ n m long. omega (arith, t.taken.size);
    }

    module _ (few : count ≤ length rows) where
      -- There have been enough so far, if no more are counted than there are rows.
      so_far : (n : ℕ) → Memᴰ n (needs_from e N [] before) → n ≤ lent
      so_far n m = elim (dec_lt lent n) [
        | yes long ↦ absurd (omega (arith, t.taken.short n m long, t.taken.size))
        | no fits ↦ omega arith
      ]

      -- With the next room's list added, one room more is taken.
      pub next-taking : (r next : ℕ) → members node_width left ≡ r ∷ members node_width next → {rows' : List ℕ} {n : ℕ}
          → RoomAdded e (to N r) count rows rows' n → Taking rows' n next
      unfolding room_need
      next-taking r next came {rows'} {n} a =
          let (is, front) = t.taken.enough so_far in
          let size : length rows ≡ lent = t.taken.size in
          let need : room_need e N before r ≡ step_need e count (length (mincuts (to N r))) = ap (λ k. step_need e k (length (mincuts (to N r)))) (sym is) in
          let steps : needs_from e N [] (before ++ r ∷ []) ≡ needs_from e N [] before ++ room_need e N before r ∷ [] = needs-next e N [] before r in
          record {
            first = t.first;
            others = t.others ++ r ∷ [];
            order =
                append_assoc before (r ∷ []) (members node_width next)
                ∙ ap (λ l. before ++ l) (sym came)
                ∙ t.order;
            taken = record {
              size = a.size ∙ size;
              enough = λ enough.
                  let room = enough (room_need e N before r) (rw steps (Memᴰ.append_right (needs_from e N [] before) (Memᴰ.head refl))) in
                  let step = a.enough (omega (arith, need, size)) in
                  let sets = sets-next e N t.first t.others r in (
                    step.count ∙ ap (λ l. length (added e l (mincuts (to N r)))) front ∙ sym (ap length sets),
                    step.front ∙ ap (λ l. added e l (mincuts (to N r))) front ∙ sym sets,
                  );
              short = λ k m long. elim (Memᴰ.append_cases (needs_from e N [] before) (rw steps at m)) [
                | inl i ↦ absurd (omega (arith, so_far k i))
                | inr i ↦ let same = Memᴰ.eq_of_singleton i in omega (arith, a.short (omega (arith, need, size)), size)
              ];
            };
          }
