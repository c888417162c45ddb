-- Loops: they lie on no route and in no minimal cut, to add one changes no list, and none is refused.
-- Assumes what the code's types say of the records.
use Rattle.std.specs.Prelude.{Err}
use mathlib.Core.Path.{◌≡◌, refl, sym, ap, subst, ◌∙◌}
use mathlib.Core.Bool.{Bool, true, false, not}
use mathlib.Core.List.{List}
use mathlib.Core.Logic.Iff
use mathlib.Core.Logic.{◌⊎◌, inl, inr, ◌↔◌}
use Prim.Native.Nat.{ℕ, zero, suc, ◌^◌, ◌<◌}
use native.Mathlib.Omega.{arith}
use lib.Dec.{T, leb, ltb, eqb}
use lib.ListN.{length, get_or}
use Rattle.sequences.specs.Words.{every}
use Rattle.sequences.proofs.Tests.{T_not, T-eqb}
use Rattle.bitset.specs.Members.{insert, ◌∈◌}
use Rattle.bitset.proofs.Subsets.{⊆-insert}
use Rattle.network.specs.declared.Network.{Network}
use Rattle.network.specs.Record.{◌when◌, among, unless_refused, Stored, Slot, fault_of, edges_fault, set_fault, rows_fault, with_edge, present}
use Rattle.network.specs.Ends.{ends_of, Loop}
use Rattle.network.proofs.Refusals.{then-other, when-other, among-every}
use Rattle.network.proofs.Rules.{none-outside}
use Rattle.network.proofs.Slots.{Faultless, accepted, accepted-none, with_edge-stored, with_edge-slots, with_edge-faultless}
use Rattle.network.proofs.Numbers.{not-fault}
use Rattle.network.proofs.Ends.{loop-ends}
use Rattle.format.specs.Format.{reader_refusals, decode_of, encode_refusal, encoded_by}
use Rattle.format.proofs.Reading.{decode-answer}
use Rattle.format.proofs.Writing.{encode-decode}
use Rattle.graph.specs.Paths.{Joins}
use Rattle.graph.proofs.Loops.{loop-minpath, loop-mincut, loop-relevant}
use Rattle.graph.proofs.Agree.{Agree}
use Rattle.connectivity.specs.Answers.{relevant_of, verdict_of, Says}
use Rattle.connectivity.proofs.Answers.{part-refusal, verdict-right}
use Rattle.lengths.specs.Lengths.{total_of}
use Rattle.widths.specs.Widths.{widths_of}
use Rattle.listing.specs.List.{mincuts, source_sides, list_refusal, listed_by}
use Rattle.trimmed.specs.Trimmed.{trimmed_fault}
use Rattle.listing.specs.Trimmed.{trimmed_refusal, trimmed_listed_by}
use Rattle.rooms.specs.declared.Extent.{Extent}
use Rattle.rooms.specs.Rooms.{package_fault, needs, rooms_refusal, rooms_listed_by}
use Rattle.replay.specs.Log.{event_count}
use Rattle.replay.specs.Replay.{replay_refusal, replayed_by}
use Rattle.replay.proofs.Events.{LogCase, good, unknown, absent, half, log-case}
use Rattle.windows.specs.Windows.{openings_fault}
use Rattle.maintenance.specs.Outage.{too_many, outage_refusal, outage_of}
use Rattle.simulation.specs.Simulation.{simulation_refusal, simulated_by}
use Rattle.windows.proofs.Windows.{WorksCase, good as kept, bad, absent as missing, works-case, openings-case}
use Rattle.text.specs.Text.{digits, decimal, word_line, refusal_line, list_text, max_rows}
use Rattle.report.specs.Report.{list_report, report_of}
use Rattle.demands.specs.Loops.{LoopsApart, AsWithout, LoopAdded, TenGone}
use Rattle.demands.proofs.Alike.{alike}

-- ---- apart from routes and cuts

-- A loop joins its point to itself.
loop-joins : (N : Network) (k v : ℕ) → Loop N k v → Joins N k v v
unfolding Joins
loop-joins N k v (m, first, second) = (m, inl (first, second))

pub loops-apart : LoopsApart
loops-apart = record {
  routes = λ N k v l. loop-minpath N k v (loop-joins N k v l);
  cuts = λ N k v l. loop-mincut N k v (loop-joins N k v l);
  useful = λ N k v l. loop-relevant N k v (loop-joins N k v l);
  pair = loop-ends;
}

-- ---- a loop more

-- What a slot that holds s joins.
abbrev JoinsBy : Slot → ℕ → ℕ → Type 0
JoinsBy s x y = T s.0 × (((s.1 ≡ x) × (s.2 ≡ y)) ⊎ ((s.1 ≡ y) × (s.2 ≡ x)))

-- One that holds a loop joins no two different points.
one-point : (v x y m : ℕ) → JoinsBy (true, v, v, m) x y → x ≡ y
one-point v x y m j = elim j.1 [ inl p ↦ sym p.0 ∙ p.1 | inr p ↦ sym p.1 ∙ p.0 ]

module _ (N : Network) (stored : Stored N) (ok : fault_of N ≡ 0) (k v m : ℕ) (l : k < 64) (absent : k ∈ present N → ⊥) (point : v < N.nodes) where
  abbrev M : Network
  M = with_edge N k v v m

  stored' : Stored M
  stored' = with_edge-stored N stored k v v m l

  ok' : fault_of M ≡ 0
  unfolding with_edge
  ok' =
      let rules : Faultless N = accepted N ok in
      accepted-none M (record {
        size = rules.size;
        terminals = rules.terminals;
        slot-none = with_edge-faultless N stored k v v m l (none-outside 9 N.nodes v v point point) rules.slot-none;
      })

  -- Between different points it joins nothing, and the other slots hold what they held.
  agree : Agree M N
  unfolding with_edge Joins
  agree = record {
    source = refl;
    sink = refl;
    joins = λ e x y ne. with_edge-slots N stored k v v m l (λ e s. JoinsBy s x y ↔ Joins N e x y)
        (λ j. absurd (ne (one-point v x y m j)), λ j. absurd (absent j.0)) (λ e d. Iff.rfl) e;
  }

  -- So each edge that was there joins the pair that it joined.
  same : (e : ℕ) → e ∈ present N → ends_of M e ≡ ends_of N e
  same =
      with_edge-slots N stored k v v m l (λ e s. e ∈ present N → insert (2 ^ s.1) s.2 ≡ ends_of N e) (λ i. absurd (absent i)) (λ e d i. refl)

  as-without : AsWithout N k v m
  unfolding with_edge
  as-without = record {
    accepted = ok';
    read = encode-decode M stored' ok';
    answers = alike M N stored' stored ok' ok agree refl (⊆-insert (present N) k) same;
  }

pub loop-added : LoopAdded
loop-added = as-without

-- ---- the refusal 10

test : (N : Network) → fault_of N ≡ 10 → ⊥
unfolding among
test N = not-fault N 10 (λ t. t)

-- Nor does a call on cables, a set or rows.
edges : (N : Network) (b : Bool) → edges_fault N b ≡ 10 → ⊥
unfolding edges_fault
edges N b = then-other (fault_of N) (test N) (when-other 14 _ (λ e. omega arith) (omega arith))

set : (N : Network) (c : ℕ) → set_fault N c ≡ 10 → ⊥
unfolding set_fault
set N c = edges N _

rows : (N : Network) (cuts : List ℕ) → rows_fault N cuts ≡ 10 → ⊥
unfolding rows_fault
rows N cuts = edges N _

judging : (N : Network) → Stored N → (c : ℕ) → verdict_of N c ≡ Err 10 → ⊥
judging N stored c e = let said : Says N c (Err 10) = subst (Says N c) e (verdict-right N stored c) in set N c said.0

-- The lines of the reader's refusals are others: the tenth byte of each is another than that of 10, which is its second digit.
other-lines : T (every (λ r. not (eqb (get_or (refusal_line r) 9 0) 48)) reader_refusals)
unfolding every word_line decimal digits
other-lines = tt

other-line : (r : ℕ) → 0 < r → T (among reader_refusals r) → refusal_line r ≡ refusal_line 10 → ⊥
unfolding word_line decimal digits
other-line r p a e =
    let tenth : get_or (refusal_line r) 9 0 ≡ 48 = ap (λ (l : List ℕ). get_or l 9 0) e in
    (T_not (eqb (get_or (refusal_line r) 9 0) 48)).0 (among-every (λ r. not (eqb (get_or (refusal_line r) 9 0) 48)) reader_refusals other-lines r p a)
    ((T-eqb (get_or (refusal_line r) 9 0) 48).1 tenth)

-- So is the line of 12, and so is a list.
no-list : (N : Network) → list_report N ≡ refusal_line 10 → ⊥
unfolding list_report list_text word_line decimal digits
no-list N e = go (ltb max_rows (length (mincuts N))) e
  where
    go : (b : Bool) → elim b [ true ↦ refusal_line 12 | false ↦ list_text (mincuts N) (source_sides N) ] ≡ refusal_line 10 → ⊥
    go true p = let bad : ◌≡◌ {A = ℕ} 50 48 = ap (λ (l : List ℕ). get_or l 9 0) p in omega arith
    go false p = let bad : ◌≡◌ {A = ℕ} 99 114 = ap (λ (l : List ℕ). get_or l 0 0) p in omega arith

-- The program prints the reader's refusal, 12 or a list.
program : (s : List ℕ) → report_of s ≡ refusal_line 10 → ⊥
unfolding report_of
program s e = go (decode_of s).refusal (decode-answer s).number e
  where
    go : (r : ℕ) → T (among reader_refusals r) → unless_refused r (list_report (decode_of s).network) (refusal_line r) ≡ refusal_line 10 → ⊥
    go zero a p = no-list (decode_of s).network p
    go (suc r) a p = other-line (suc r) (omega arith) a p

list : (N : Network) (cuts sides : List ℕ) → (listed_by N cuts sides).refusal ≡ 10 → ⊥
unfolding listed_by list_refusal
list N cuts sides =
    then-other (fault_of N) (test N) (then-other (11 when not (eqb (length cuts) (length sides)))
    (when-other 11 _ (λ e. omega arith) (omega arith)) (when-other 12 _ (λ e. omega arith) (omega arith)))

rooms : (e : Extent) (N : Network) (ts cuts work : List ℕ) → (rooms_listed_by e N ts cuts work).refusal ≡ 10 → ⊥
unfolding rooms_listed_by rooms_refusal package_fault
rooms e N ts cuts work =
    then-other (package_fault N ts) (then-other (fault_of N) (test N) (when-other 19 _ (λ e. omega arith) (omega arith)))
    (then-other (20 when not (every (λ n. leb n (length work)) (needs e N ts))) (when-other 20 _ (λ e. omega arith) (omega arith))
    (when-other 12 _ (λ e. omega arith) (omega arith)))

-- No log has this fault.
log-fault : {p : ℕ} {log : List ℕ} {r : ℕ} → LogCase p log r → r ≡ 10 → ⊥
log-fault (good k) e = omega arith
log-fault (unknown i l g f) e = omega arith
log-fault (absent i l g k f) e = omega arith
log-fault (half g f) e = omega arith

replay : (N : Network) (log lent : List ℕ) → (replayed_by N log lent).refusal ≡ 10 → ⊥
unfolding replayed_by replay_refusal
replay N log lent =
    then-other (fault_of N) (test N) (then-other (18 when ltb (length lent) (event_count log))
    (when-other 18 _ (λ e. omega arith) (omega arith)) (log-fault (log-case (present N) log)))

-- No works windows have it, and no opening windows.
works-fault : {p : ℕ} {w : List ℕ} {r : ℕ} → WorksCase p w r → r ≡ 10 → ⊥
works-fault (kept k) e = omega arith
works-fault (bad b) e = omega arith
works-fault (missing a) e = omega arith

openings-fault : (o : List ℕ) → openings_fault o ≡ 10 → ⊥
openings-fault o e = elim (openings-case o) [ inl (z, k) ↦ omega (arith, z, e) | inr (z, f) ↦ omega (arith, z, e) ]

outage : (N : Network) (o w : List ℕ) → (outage_of N o w).refusal ≡ 10 → ⊥
unfolding outage_of outage_refusal
outage N o w =
    then-other (fault_of N) (test N) (then-other (23 when too_many o w) (when-other 23 _ (λ e. omega arith) (omega arith))
    (then-other (openings_fault o) (openings-fault o) (works-fault (works-case (present N) w))))

pub ten-gone : TenGone
unfolding among total_of widths_of listed_by trimmed_fault trimmed_refusal trimmed_listed_by simulated_by simulation_refusal encoded_by encode_refusal
ten-gone = record {
  reader = λ s e. rw e at (decode-answer s).number;
  test = test;
  part = λ N e. test N (sym (part-refusal N (relevant_of N) refl) ∙ e);
  judging = judging;
  total = set;
  widths = rows;
  list = list;
  trimmed = λ N cuts sides. then-other (trimmed_fault N) (then-other (fault_of N) (test N) (when-other 26 _ (λ e. omega arith) (omega arith))) (list N cuts sides);
  rooms = rooms;
  replay = replay;
  outage = outage;
  simulation = λ N n f r steps. then-other (fault_of N) (test N) (when-other 25 _ (λ e. omega arith) (omega arith));
  writer = λ N lent. then-other (fault_of N) (test N) (when-other 15 _ (λ e. omega arith) (omega arith));
  program = program;
}
