-- The starred halls: the test of the table passes, and so all that the table says of each hall holds by the definitions.
-- Assumes nothing.
use mathlib.Core.Path.{◌≡◌, refl, sym, ap₂}
use mathlib.Core.Bool.{Bool, true, false, beq}
use mathlib.Core.List.{List, [], ◌∷◌, Memᴰ}
use mathlib.Core.Logic.Iff
use mathlib.Core.Logic.{◌↔◌}
use Prim.Native.Nat.{ℕ, ◌^◌, ◌<◌}
use native.Mathlib.Omega.{arith}
use lib.Dec.{T, eqb}
use lib.ListN.{length, get_or}
use Rattle.sequences.specs.Words.{every, passing, tabulate}
use Rattle.sequences.proofs.Words.{T-every}
use Rattle.sequences.proofs.Places.{mem-at}
use Rattle.bitset.specs.Members.{has, insert, add_if, ◌∖◌, size, subsets, members_from}
use Rattle.sequences.proofs.Tests.{T_and, T-eqb}
use Rattle.network.specs.declared.Network.{Network}
use Rattle.network.specs.Record.{◌when◌, ◌then◌, size_fault, outside_fault, rows_fault, bare, with_edge}
use Rattle.format.specs.Format.{number_fault, size_refusal, terminals_refusal, edge_refusal, end_refusal, size_step, terminals_step, edge_step, length_step, length_size, if_taken, edges, decode_up_to, decode_of}
use Rattle.format.proofs.Reading.{accepts, decode-plan}
use Rattle.sequences.specs.Counts.{count_if, tally}
use Rattle.sequences.specs.Distinct.{once}
use Rattle.widths.specs.Widths.{pairs_of, width_of, width_table}
use Rattle.widths.proofs.Answers.{widths-given}
use Rattle.graph.specs.Cuts.{only, Cut, Mincut}
use Rattle.graph.specs.Lists.{CompleteList}
use Rattle.graph.specs.Reach.{across, round_over, rounds, reach_of}
use Rattle.graph.specs.CutTests.{severed, cut_test, all_needed, mincut_test}
use Rattle.graph.specs.Relevant.{chosen, two_in, edges_within, past, past_all, relevant_nodes, relevant_edges, source_side_of}
use Rattle.graph.proofs.Sound.{Sound, accepted-sound}
use Rattle.graph.proofs.Reach.{in-reach-single}
use Rattle.graph.proofs.Cuts.{cut_test-iff, mincut_test-iff}
use Rattle.graph.proofs.Relevant.{in-relevant_nodes, in-relevant_edges}
use Rattle.menger.specs.Separate.{Fewest}
use Rattle.menger.specs.Tests.{minpath_test, apart_test, fewest_test}
use Rattle.menger.proofs.Menger.{fewest-most}
use Rattle.menger.proofs.Tests.{apart_test-apart, fewest_test-fewest}
use Rattle.listing.specs.List.{mincuts, source_sides}
use Rattle.demands.specs.Halls.{JudgedSet, Hall, bridge, bar_cable, spur, hanging_triangle, no_cable, two_cables, in_a_row, exchanged, halls, network_of, counts_of, same, judged_test, hall_tests, hall_test, Established}
use Rattle.text.specs.Text.{digits, decimal, spaced, numbers, line_up_to, word_line, row_lines, list_text}
use Rattle.report.specs.Report.{list_report, report_of}
use Rattle.listing.proofs.Meaning.{mincuts-complete}
use Rattle.demands.proofs.Trunks.{mincuts-present}

-- ---- the test is right

-- Lists that the test finds equal are equal.
T-same : (l m : List ℕ) → T (same l m) → l ≡ m
unfolding same
T-same [] [] t = refl
T-same [] (y ∷ m) t = absurd t
T-same (x ∷ l) [] t = absurd t
T-same (x ∷ l) (y ∷ m) t = let p = (T_and (eqb x y) (same l m)).0 t in ap₂ ◌∷◌ ((T-eqb x y).0 p.0) (T-same l m p.1)

-- Answers that are equal hold together.
T-beq : (a b : Bool) → T (beq a b) → T b ↔ T a
T-beq true true t = Iff.rfl
T-beq true false t = absurd t
T-beq false true t = absurd t
T-beq false false t = Iff.rfl

-- A judged set that passes is what the table says.
judged-right : (N : Network) → Sound N → (j : JudgedSet) → T (judged_test N j) → (T j.cut ↔ Cut N j.set) × (T j.mincut ↔ Mincut N j.set)
unfolding judged_test
judged-right N S j t =
    let p = (T_and (beq (cut_test N j.set) j.cut) (beq (mincut_test N j.set) j.mincut)).0 t in (
      Iff.trans (T-beq (cut_test N j.set) j.cut p.0) (cut_test-iff N S.bounded j.set),
      Iff.trans (T-beq (mincut_test N j.set) j.mincut p.1) (mincut_test-iff N S.bounded j.set),
    )

-- A hall that passes is what the table says.
hall-right : (h : Hall) → T (hall_test h) → Established h
unfolding hall_test hall_tests
hall-right h t =
    let N : Network = network_of h in
    let passed : (i : ℕ) → i < length (hall_tests h) → T (get_or (hall_tests h) i true) = λ i l.
    (T-every (λ (b : Bool). b) (hall_tests h)).0 t (get_or (hall_tests h) i true) (mem-at (hall_tests h) i true l) in
    let ok : (decode_of h.plan).refusal ≡ 0 = (T-eqb (decode_of h.plan).refusal 0).0 (passed 0 (omega arith)) in
    let plan = decode-plan h.plan N (accepts h.plan ok) in
    let S : Sound N = accepted-sound N plan.stored plan.accepted in
    let listed : mincuts N ≡ h.cuts = T-same (mincuts N) h.cuts (passed 1 (omega arith)) in
    let complete : CompleteList N (length h.cuts) h.cuts h.sides =
    rw (← listed, ← T-same (source_sides N) h.sides (passed 2 (omega arith))) (mincuts-complete N S) in
    let fewest : Fewest (length h.cuts) h.cuts h.fewest = fewest_test-fewest h.cuts h.fewest (passed 5 (omega arith)) in
    record {
      accepted = ok;
      complete = complete;
      judged = λ j m. judged-right N S j ((T-every (judged_test N) h.judged).0 (passed 3 (omega arith)) j m);
      widths =
          let none : rows_fault N h.cuts ≡ 0 = rw (← listed) (mincuts-present N S.bounded plan.accepted) in
          sym (widths-given N h.cuts 0 (counts_of h) (sym none) refl (sym (T-same (width_table N h.cuts) (counts_of h) (passed 4 (omega arith)))));
      fewest = fewest;
      ways = (apart_test-apart N S.bounded h.ways (passed 6 (omega arith)), (T-eqb (length h.ways) h.fewest).0 (passed 7 (omega arith)));
      most = (fewest-most N S (length h.cuts) h.cuts h.sides complete h.fewest).0 fewest;
      reached = λ v. rw (← (T-eqb (reach_of N (2 ^ N.source)) h.reached).0 (passed 8 (omega arith))) (in-reach-single N S.bounded N.source v);
      nodes = λ v. rw (← (T-eqb (relevant_nodes N) h.nodes).0 (passed 9 (omega arith))) (in-relevant_nodes N S v);
      edges = λ e. rw (← (T-eqb (relevant_edges N) h.edges).0 (passed 10 (omega arith))) (in-relevant_edges N S e);
      printed = T-same (report_of h.plan) h.printed (passed 11 (omega arith));
    }

-- ---- the table

-- Every hall of the table passes the test.
halls-pass : T (every hall_test halls)
unfolding has insert ◌∖◌ size subsets count_if tabulate tally once pairs_of width_of width_table ◌when◌ ◌then◌ size_fault outside_fault bare with_edge number_fault size_refusal terminals_refusal edge_refusal end_refusal size_step terminals_step edge_step length_step length_size if_taken edges decode_up_to only members_from add_if across round_over rounds reach_of severed every cut_test all_needed mincut_test chosen two_in edges_within past past_all relevant_nodes relevant_edges source_side_of passing mincuts minpath_test apart_test fewest_test digits decimal spaced numbers line_up_to word_line row_lines list_text list_report report_of bridge bar_cable spur hanging_triangle no_cable two_cables in_a_row exchanged halls same judged_test hall_tests hall_test
halls-pass = tt

-- So what it says of each hall is established.
pub halls-established : (h : Hall) → Memᴰ h halls → Established h
halls-established h m = hall-right h ((T-every hall_test halls).0 halls-pass h m)
