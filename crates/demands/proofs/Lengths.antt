-- Metres: in which places of a plan a length is taken; routes, cuts and near sides do not read metres, nor does what rests on these.
-- Assumes, for what the calls answer, accepted records.
use mathlib.Core.Bool.{not, ◌||◌}
use mathlib.Core.List.{List, [], ◌∷◌}
use mathlib.Core.Logic.Iff
use mathlib.Core.Logic.{◌↔◌}
use mathlib.Core.Path.{◌≡◌, refl, sym, ap, ap₂, ◌∙◌}
use Prim.Native.Nat.{ℕ, suc, ◌≤◌, ◌<◌}
use native.Mathlib.Decide.{ℕ_discrete}
use native.Mathlib.Omega.{arith}
use borrow.Author.Tests.{lt-ltb, eq-eqb, ne_eqb}
use lib.Bits.{bit_and}
use lib.Dec.{eqb}
use lib.ListN.{length, drop}
use Rattle.bitset.specs.Members.{◌⊆◌}
use Rattle.bitset.proofs.Subsets.{⊆-refl, subset-and}
use Rattle.node_set.specs.Width.{node_width}
use Rattle.network.specs.declared.Network.{Network}
use Rattle.network.specs.Record.{◌then◌, among, edges_fault, rows_fault, with_edge, present}
use Rattle.network.proofs.Refusals.{none_then, some_then, some-when, none-when}
use Rattle.network.proofs.Rules.{none-size, none-outside}
use Rattle.network.proofs.Numbers.{not-fault}
use Rattle.network.proofs.Sets.{set-absent}
use Rattle.format.specs.Format.{Outcome}
use Rattle.format.specs.Format.{at, metres_in, length_fault, length_refusal, answer, edge_step, length_step, length_size, refuse, walk, decode_up_to}
use Rattle.format.proofs.Steps.{none-missing, size-taken, edge-taken, end_refused, size-unfit, terminals-unfit, edge-unfit}
use Rattle.format.proofs.Walk.{refusal-decides, size-goes, edges-length-refused, edges-refused, walk-edge}
use Rattle.graph.specs.Paths.{Joins}
use Rattle.graph.specs.Cuts.{only, Cut, Mincut}
use Rattle.graph.specs.Lists.{SameList}
use Rattle.graph.proofs.Agree.{Agree, minpaths-agree, without-agree, side-agree}
use Rattle.connectivity.specs.Answers.{verdict_of}
use Rattle.connectivity.proofs.Answers.{verdict-refused}
use Rattle.widths.specs.Widths.{pairs_of, width_of, width_table, widths_of}
use Rattle.listing.specs.List.{Listed}
use Rattle.listing.specs.List.{listed_by, cut_rows_after}
use Rattle.listing.specs.Trimmed.{trimmed_listed_by, trimmed_cut_rows, trimmed_side_rows}
use Rattle.listing.proofs.Agree.{trimmed-call-agrees}
use Rattle.replay.specs.Replay.{replayed_by, silent_after}
use Rattle.replay.proofs.Agree.{replay-agrees}
use Rattle.maintenance.specs.Outage.{outage_of}
use Rattle.maintenance.proofs.Agree.{outage-agrees}
use Rattle.simulation.specs.Simulation.{simulated_by}
use Rattle.simulation.proofs.Agree.{simulation-agrees}
use Rattle.demands.specs.Alike.{Alike}
use Rattle.demands.specs.Lengths.{EdgeFits, LengthPlaces, with_metres, Accepted, MetresUnread}
use Rattle.demands.proofs.Alike.{alike}

-- ---- in bytes

module _ (N : Network) (next k a b : ℕ) (s : List ℕ) (fits : EdgeFits N next k a b) where
  edge-step : edge_step N.nodes next (0x43 ∷ k ∷ a ∷ b ∷ s) ≡ Outcome.Edge k a b
  edge-step =
      edge-taken N.nodes next k a b s fits.number.0 fits.number.1 (none-outside 9 N.nodes a b fits.ends.0 fits.ends.1)

  -- By the answer to what stands after the edge.
  goes : (m : ℕ) → length_step k s ≡ Outcome.Length m → walk N next (0x43 ∷ k ∷ a ∷ b ∷ s) ≡ walk (with_edge N k a b m) (suc k) (drop (length_size m) s)
  goes m e = walk-edge N next (0x43 ∷ k ∷ a ∷ b ∷ s) edge-step e

  stops : (r : ℕ) → 0 < r → length_step k s ≡ Outcome.Refused r → walk N next (0x43 ∷ k ∷ a ∷ b ∷ s) ≡ refuse r
  stops r p e = edges-length-refused (suc (suc (suc (length s)))) N next (0x43 ∷ k ∷ a ∷ b ∷ s) edge-step e p

-- The answer at a length's command.
module _ (k : ℕ) (s : List ℕ) (e : at s 0 ≡ 0x4D) where
  by-refusal : (r : ℕ) → length_refusal k s ≡ r → length_step k s ≡ answer r (Outcome.Length (metres_in s))
  unfolding length_step
  by-refusal r f = rw (eq-eqb (at s 0) 0x4D e, f)

  short-refusal : length s < 4 → length_refusal k s ≡ 1
  unfolding length_refusal
  short-refusal h =
      ap (λ r. r then length_fault k (at s 1) (metres_in s)) (some-when 1 (lt-ltb (length s) 4 h)) ∙ some_then 1 (length_fault k (at s 1) (metres_in s)) (omega arith)

  values : 4 ≤ length s → length_refusal k s ≡ length_fault k (at s 1) (metres_in s)
  unfolding length_refusal
  values h = none_then _ (none-missing 4 s h)

  -- The values are wrong unless it is of the edge before and not of 0 metres.
  wrong-fault : ((at s 1 ≡ k) × (0 < metres_in s) → ⊥) → length_fault k (at s 1) (metres_in s) ≡ 28
  unfolding length_fault
  wrong-fault bad = go (ℕ_discrete (at s 1) k) (ℕ_discrete (metres_in s) 0)
    where
      go : Dec (at s 1 ≡ k) → Dec (metres_in s ≡ 0) → length_fault k (at s 1) (metres_in s) ≡ 28
      go (no d) z = some-when 28 (ap (λ t. not t || eqb (metres_in s) 0) (ne_eqb (at s 1) k d))
      go (yes p) (yes z) = some-when 28 (ap₂ (λ t u. not t || u) (eq-eqb (at s 1) k p) (eq-eqb (metres_in s) 0 z))
      go (yes p) (no z) = absurd (bad (p, omega arith))

  right-fault : (at s 1 ≡ k) × (0 < metres_in s) → length_fault k (at s 1) (metres_in s) ≡ 0
  unfolding length_fault
  right-fault p = none-when 28 (ap₂ (λ t u. not t || u) (eq-eqb (at s 1) k p.0) (ne_eqb (metres_in s) 0 (λ z. omega arith)))

-- A length that is not of 0 metres has four bytes.
four_bytes : (m : ℕ) → 0 < m → length_size m ≡ 4
unfolding length_size
four_bytes m p = rw (ne_eqb m 0 (λ z. omega arith))

-- Without a length nothing is taken.
not-measured : (k : ℕ) (s : List ℕ) → (at s 0 ≡ 0x4D → ⊥) → (length_step k s ≡ Outcome.Length 0) × (drop (length_size 0) s ≡ s)
unfolding length_step length_size
not-measured k s d = (rw (ne_eqb (at s 0) 0x4D d), refl)

elsewhere : (N : Network) (next : ℕ) (s : List ℕ) → at s 0 ≡ 0x4D → walk N next s ≡ refuse 2
elsewhere N next [] e = absurd (let bad : ◌≡◌ {A = ℕ} 0 0x4D = e in omega arith)
elsewhere N next (x ∷ s) e = edges-refused (length s) N next (x ∷ s) (edge-unfit (x ∷ s) e N.nodes next) (omega arith)

pub length-places : LengthPlaces
unfolding decode_up_to among
length-places = record {
  short = λ N next k a b s fits e h. stops N next k a b s fits 1 (omega arith) (by-refusal k s e 1 (short-refusal k s e h));
  wrong = λ N next k a b s fits e h bad.
      stops N next k a b s fits 28 (omega arith) (by-refusal k s e 28 (values k s e h ∙ wrong-fault k s e bad));
  taken = λ N next k a b s fits e h p.
      goes N next k a b s fits (metres_in s) (by-refusal k s e 0 (values k s e h ∙ right-fault k s e p))
      ∙ ap (λ n. walk (with_edge N k a b (metres_in s)) (suc k) (drop n s)) (four_bytes (metres_in s) p.1);
  none = λ N next k a b s fits d.
      let none = not-measured k s d in goes N next k a b s fits 0 none.0 ∙ ap (walk (with_edge N k a b 0) (suc k)) none.1;
  elsewhere = elsewhere;
  first = λ s e. refusal-decides _ (size-unfit s e node_width) (omega arith);
  second = λ n s fit e.
      size-goes (0x50 ∷ n ∷ s) refl (size-taken node_width n s (none-size node_width n fit.0 fit.1)) refl
      ∙ refusal-decides _ (terminals-unfit s e n) (omega arith);
  after = λ N next s. edges-refused (suc (length s)) N next (0x45 ∷ 0x4D ∷ s) (end_refused N.nodes next 0x4D s) (omega arith);
  record-never = λ N. not-fault N 28 (λ t. t);
}

-- ---- in a record

module _ (N : Network) (l : List ℕ) where
  abbrev M : Network
  M = with_metres N l

  -- They have the same terminals, and each edge joins the same points.
  agree : Agree M N
  unfolding Joins
  agree = record { source = refl; sink = refl; joins = λ e u v ne. Iff.rfl }

  cut : (c : ℕ) → Cut M c ↔ Cut N c
  unfolding only
  cut c =
      let same = minpaths-agree _ _ (without-agree M N agree c) in (
        λ k. record { present = k.present; severs = λ r p. k.severs r ((same r).1 p) },
        λ k. record { present = k.present; severs = λ r p. k.severs r ((same r).0 p) },
      )

  mincut : (c : ℕ) → Mincut M c ↔ Mincut N c
  mincut c = (
    λ m. record { cut = (cut c).0 m.cut; least = λ d h k. m.least d h ((cut d).1 k) },
    λ m. record { cut = (cut c).1 m.cut; least = λ d h k. m.least d h ((cut d).0 k) },
  )

  module _ (a : Accepted N) (b : Accepted M) where
    answers : Alike M N
    answers = alike M N b.stored a.stored b.faultless a.faultless agree refl (⊆-refl (present N)) (λ k i. refl)

    verdicts : (c : ℕ) → verdict_of M c ≡ verdict_of N c
    verdicts c = go (ℕ_discrete (bit_and c (present N)) c)
      where
        go : Dec (bit_and c (present N) ≡ c) → verdict_of M c ≡ verdict_of N c
        go (yes e) = answers.verdicts c ((subset-and c (present N)).1 e)
        go (no d) =
            let out : c ⊆ present N → ⊥ = λ within. d ((subset-and c (present N)).0 within) in
            sym (verdict-refused M c 14 (set-absent M c b.faultless out) (λ e. omega arith))
            ∙ verdict-refused N c 14 (set-absent N c a.faultless out) (λ e. omega arith)

    -- The pairs that cables join are read off the ends.
    widths : (cuts : List ℕ) → widths_of M cuts ≡ widths_of N cuts
    unfolding widths_of width_table width_of pairs_of rows_fault edges_fault
    widths cuts = rw (a.faultless, b.faultless)

    trimmed : (cuts sides : List ℕ)
        → (trimmed_listed_by M cuts sides ≡ trimmed_listed_by N cuts sides)
        × (trimmed_cut_rows M cuts sides ≡ trimmed_cut_rows N cuts sides)
        × (trimmed_side_rows M cuts sides ≡ trimmed_side_rows N cuts sides)
    trimmed = trimmed-call-agrees M N b.stored a.stored b.faultless a.faultless agree refl refl

    replay : (log lent : List ℕ) → (replayed_by M log lent ≡ replayed_by N log lent) × (silent_after M log lent ≡ silent_after N log lent)
    replay log lent = replay-agrees M N b.stored a.stored b.faultless a.faultless agree log refl lent

    outage : (o w : List ℕ) → outage_of M o w ≡ outage_of N o w
    outage o w = outage-agrees M N b.stored a.stored b.faultless a.faultless agree o w refl

    simulation : (n f r steps : ℕ) → simulated_by M n f r steps ≡ simulated_by N n f r steps
    simulation = simulation-agrees M N b.stored a.stored b.faultless a.faultless agree refl

    counts : (cuts sides : List ℕ) → (listed_by M cuts sides).count ≡ (listed_by N cuts sides).count
    counts cuts sides = ap (λ (x : Listed). x.count) (answers.list cuts sides).0

    rows : (cuts sides : List ℕ) → cut_rows_after M cuts sides ≡ cut_rows_after N cuts sides
    rows cuts sides = (answers.list cuts sides).1

equality : (N M : Network) (l m : List ℕ) → Accepted N → Accepted (with_metres N l) → Accepted M → Accepted (with_metres M m)
    → (cuts sides cuts' sides' : List ℕ)
    → SameList (listed_by (with_metres N l) cuts sides).count (cut_rows_after (with_metres N l) cuts sides)
    (listed_by (with_metres M m) cuts' sides').count (cut_rows_after (with_metres M m) cuts' sides')
    ↔ SameList (listed_by N cuts sides).count (cut_rows_after N cuts sides) (listed_by M cuts' sides').count (cut_rows_after M cuts' sides')
equality N M l m a b c d cuts sides cuts' sides' =
    rw (counts N l a b cuts sides, rows N l a b cuts sides, counts M m c d cuts' sides', rows M m c d cuts' sides') Iff.rfl

pub metres-unread : MetresUnread
metres-unread = record {
  routes = λ N l. minpaths-agree (with_metres N l) N (agree N l);
  cuts = mincut;
  sides = λ N l. side-agree (with_metres N l) N (agree N l);
  answers = answers;
  verdicts = verdicts;
  widths = widths;
  trimmed = trimmed;
  replay = replay;
  outage = outage;
  simulation = simulation;
  equality = equality;
}
