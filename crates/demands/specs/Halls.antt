-- The starred halls of the paper ("Halls to try"): a table, and the test of it, which computes.
-- To believe.
--
--   JudgedSet            a judged set: its number, whether it is a cut, and whether it is a mincut
--   Hall                 a plan in bytes, its cuts and sides, the sets judged on it, how many cuts have width 0, 1, .., the fewest cables of
--                        a cut and as many separate ways, the points that the server reaches, the relevant nodes and edges, and what the
--                        list program prints
--
-- The table; what the paper leaves out is worked out by hand:
--   bridge               the bridge
--   bar_cable            the bar cable
--   spur                 the spur
--   hanging_triangle     the hanging triangle
--   no_cable             two points, no cable
--   two_cables           two points, cables 0 and 1
--   in_a_row             two cables in a row
--   exchanged            the same with the cables exchanged
--   halls                all of these
--
--   network_of h         the record read from the bytes
--   counts_of h          the 65 counts of the width table
--   same l m             whether two lists are equal  [computed: halls-established (demands/proofs/Halls)]
--   judged_test N j      whether what the table says of a judged set is what is computed
--                        [computed: halls-established (demands/proofs/Halls)]
--   hall_tests h         for each thing that the table says of a hall, whether it is what is computed from its bytes
--                        [computed: halls-established (demands/proofs/Halls)]
--   hall_test h          whether all of it is  [computed: halls-established (demands/proofs/Halls)]
--   Established h        what the table says of a hall, by the definitions
use Rattle.std.specs.Prelude.{Bool, true, false, ◌&&◌, ◌↔◌, ◌≡◌, ℕ, ◌-◌, ◌^◌, T, eqb, length, replicate}
use Rattle.std.specs.Bool.{beq}
use mathlib.Core.List.{List, [], ◌∷◌, ◌++◌, Memᴰ}
use Rattle.sequences.specs.Words.{every}
use Rattle.bitset.specs.Members.{◌∈◌}
use Rattle.network.specs.declared.Network.{Network}
use Rattle.format.specs.Format.{decode_of}
use Rattle.widths.specs.Widths.{width_table, widths_of}
use Rattle.graph.specs.Paths.{Connected}
use Rattle.graph.specs.Cuts.{Cut, Mincut, RelevantEdge, RelevantNode}
use Rattle.graph.specs.Lists.{CompleteList}
use Rattle.graph.specs.Reach.{reach_of}
use Rattle.graph.specs.CutTests.{cut_test, mincut_test}
use Rattle.graph.specs.Relevant.{relevant_nodes, relevant_edges}
use Rattle.menger.specs.Separate.{Apart, Most, Fewest}
use Rattle.menger.specs.Tests.{apart_test, fewest_test}
use Rattle.listing.specs.List.{mincuts, source_sides}
use Rattle.text.specs.Ascii.{bytes}
use Rattle.report.specs.Report.{report_of}

pub record JudgedSet : Type 0 where
  pub set : ℕ
  pub cut : Bool
  pub mincut : Bool

pub record Hall : Type 0 where
  pub plan : List ℕ
  pub cuts : List ℕ
  pub sides : List ℕ
  pub judged : List JudgedSet
  pub widths : List ℕ
  pub fewest : ℕ
  pub ways : List ℕ
  pub reached : ℕ
  pub nodes : ℕ
  pub edges : ℕ
  pub printed : List ℕ

-- ---- the table

-- The server is point 0 in every hall, and a hall has as many points as its cables need.

-- Judged on it: 9 no cut, 7 not minimal, 14 minimal. Widths: two of 2, two of 3. Separate ways: by cables 0 and 3, and by 1 and 4.
unfoldable pub bridge : Hall
bridge = record {
  plan = 0x50 ∷ 4 ∷ 0x53 ∷ 0 ∷ 3 ∷ 0x43 ∷ 0 ∷ 0 ∷ 1 ∷ 0x43 ∷ 1 ∷ 0 ∷ 2 ∷ 0x43 ∷ 2 ∷ 1 ∷ 2 ∷ 0x43 ∷ 3 ∷ 1 ∷ 3 ∷ 0x43 ∷ 4 ∷ 2 ∷ 3 ∷ 0x45 ∷ [];
  cuts = 3 ∷ 14 ∷ 21 ∷ 24 ∷ [];
  sides = 1 ∷ 3 ∷ 5 ∷ 7 ∷ [];
  judged =
      record { set = 9; cut = false; mincut = false }
      ∷ record { set = 7; cut = true; mincut = false }
      ∷ record { set = 14; cut = true; mincut = true }
      ∷ [];
  widths = 0 ∷ 0 ∷ 2 ∷ 2 ∷ [];
  fewest = 2;
  ways = 9 ∷ 18 ∷ [];
  reached = 15;
  nodes = 15;
  edges = 31;
  printed = bytes "cuts 4\n0 1 | 0\n1 2 3 | 0 1\n0 2 4 | 0 2\n3 4 | 0 1 2\n";
}

-- Room 3, cables 0: 0-1, 1: 0-2, 2: 1-2, 3: 1-3.
unfoldable pub bar_cable : Hall
bar_cable = record {
  plan = 0x50 ∷ 4 ∷ 0x53 ∷ 0 ∷ 3 ∷ 0x43 ∷ 0 ∷ 0 ∷ 1 ∷ 0x43 ∷ 1 ∷ 0 ∷ 2 ∷ 0x43 ∷ 2 ∷ 1 ∷ 2 ∷ 0x43 ∷ 3 ∷ 1 ∷ 3 ∷ 0x45 ∷ [];
  cuts = 3 ∷ 5 ∷ 8 ∷ [];
  sides = 1 ∷ 5 ∷ 7 ∷ [];
  judged = [];
  widths = 0 ∷ 1 ∷ 2 ∷ [];
  fewest = 1;
  ways = 9 ∷ [];
  reached = 15;
  nodes = 15;
  edges = 15;
  printed = bytes "cuts 3\n0 1 | 0\n0 2 | 0 2\n3 | 0 1 2\n";
}

-- Room 2, cables 0: 0-1, 1: 1-2, 2: 1-3.
unfoldable pub spur : Hall
spur = record {
  plan = 0x50 ∷ 4 ∷ 0x53 ∷ 0 ∷ 2 ∷ 0x43 ∷ 0 ∷ 0 ∷ 1 ∷ 0x43 ∷ 1 ∷ 1 ∷ 2 ∷ 0x43 ∷ 2 ∷ 1 ∷ 3 ∷ 0x45 ∷ [];
  cuts = 1 ∷ 2 ∷ [];
  sides = 1 ∷ 3 ∷ [];
  judged = [];
  widths = 0 ∷ 2 ∷ [];
  fewest = 1;
  ways = 3 ∷ [];
  reached = 15;
  nodes = 7;
  edges = 3;
  printed = bytes "cuts 2\n0 | 0\n1 | 0 1\n";
}

-- Room 2, cables 0: 0-1, 1: 1-2, 2: 1-3, 3: 3-4, 4: 4-1. Points 3 and 4 are reached and not relevant.
unfoldable pub hanging_triangle : Hall
hanging_triangle = record {
  plan = 0x50 ∷ 5 ∷ 0x53 ∷ 0 ∷ 2 ∷ 0x43 ∷ 0 ∷ 0 ∷ 1 ∷ 0x43 ∷ 1 ∷ 1 ∷ 2 ∷ 0x43 ∷ 2 ∷ 1 ∷ 3 ∷ 0x43 ∷ 3 ∷ 3 ∷ 4 ∷ 0x43 ∷ 4 ∷ 4 ∷ 1 ∷ 0x45 ∷ [];
  cuts = 1 ∷ 2 ∷ [];
  sides = 1 ∷ 3 ∷ [];
  judged = [];
  widths = 0 ∷ 2 ∷ [];
  fewest = 1;
  ways = 3 ∷ [];
  reached = 31;
  nodes = 7;
  edges = 3;
  printed = bytes "cuts 2\n0 | 0\n1 | 0 1\n";
}

-- Two points, no cable.
unfoldable pub no_cable : Hall
no_cable = record {
  plan = 0x50 ∷ 2 ∷ 0x53 ∷ 0 ∷ 1 ∷ 0x45 ∷ [];
  cuts = 0 ∷ [];
  sides = 1 ∷ [];
  judged = [];
  widths = 1 ∷ [];
  fewest = 0;
  ways = [];
  reached = 1;
  nodes = 3;
  edges = 0;
  printed = bytes "cuts 1\n- | 0\n";
}

-- Two points, cables 0 and 1. Both join the same two points: one row of width 1.
unfoldable pub two_cables : Hall
two_cables = record {
  plan = 0x50 ∷ 2 ∷ 0x53 ∷ 0 ∷ 1 ∷ 0x43 ∷ 0 ∷ 0 ∷ 1 ∷ 0x43 ∷ 1 ∷ 0 ∷ 1 ∷ 0x45 ∷ [];
  cuts = 3 ∷ [];
  sides = 1 ∷ [];
  judged = [];
  widths = 0 ∷ 1 ∷ [];
  fewest = 2;
  ways = 1 ∷ 2 ∷ [];
  reached = 3;
  nodes = 3;
  edges = 3;
  printed = bytes "cuts 1\n0 1 | 0\n";
}

-- Room 2, 0-1 by cable 0 and 1-2 by cable 1; and the same with the cables exchanged.
unfoldable pub in_a_row : Hall
in_a_row = record {
  plan = 0x50 ∷ 3 ∷ 0x53 ∷ 0 ∷ 2 ∷ 0x43 ∷ 0 ∷ 0 ∷ 1 ∷ 0x43 ∷ 1 ∷ 1 ∷ 2 ∷ 0x45 ∷ [];
  cuts = 1 ∷ 2 ∷ [];
  sides = 1 ∷ 3 ∷ [];
  judged = [];
  widths = 0 ∷ 2 ∷ [];
  fewest = 1;
  ways = 3 ∷ [];
  reached = 7;
  nodes = 7;
  edges = 3;
  printed = bytes "cuts 2\n0 | 0\n1 | 0 1\n";
}

unfoldable pub exchanged : Hall
exchanged = record {
  plan = 0x50 ∷ 3 ∷ 0x53 ∷ 0 ∷ 2 ∷ 0x43 ∷ 0 ∷ 1 ∷ 2 ∷ 0x43 ∷ 1 ∷ 0 ∷ 1 ∷ 0x45 ∷ [];
  cuts = 1 ∷ 2 ∷ [];
  sides = 3 ∷ 1 ∷ [];
  judged = [];
  widths = 0 ∷ 2 ∷ [];
  fewest = 1;
  ways = 3 ∷ [];
  reached = 7;
  nodes = 7;
  edges = 3;
  printed = bytes "cuts 2\n0 | 0 1\n1 | 0\n";
}

unfoldable pub halls : List Hall
halls = bridge ∷ bar_cable ∷ spur ∷ hanging_triangle ∷ no_cable ∷ two_cables ∷ in_a_row ∷ exchanged ∷ []

-- ---- the test

abbrev pub network_of : Hall → Network
network_of h = (decode_of h.plan).network

-- No cut is wider than the table says.
abbrev pub counts_of : Hall → List ℕ
counts_of h = h.widths ++ replicate (65 - length h.widths) 0

unfoldable pub same : List ℕ → List ℕ → Bool
same [] [] = true
same [] (y ∷ m) = false
same (x ∷ l) [] = false
same (x ∷ l) (y ∷ m) = eqb x y && same l m

unfoldable pub judged_test : Network → JudgedSet → Bool
judged_test N j = beq (cut_test N j.set) j.cut && beq (mincut_test N j.set) j.mincut

unfoldable pub hall_tests : Hall → List Bool
hall_tests h =
    eqb (decode_of h.plan).refusal 0
    ∷ same (mincuts (network_of h)) h.cuts
    ∷ same (source_sides (network_of h)) h.sides
    ∷ every (judged_test (network_of h)) h.judged
    ∷ same (width_table (network_of h) h.cuts) (counts_of h)
    ∷ fewest_test h.cuts h.fewest
    ∷ apart_test (network_of h) h.ways
    ∷ eqb (length h.ways) h.fewest
    ∷ eqb (reach_of (network_of h) (2 ^ (network_of h).source)) h.reached
    ∷ eqb (relevant_nodes (network_of h)) h.nodes
    ∷ eqb (relevant_edges (network_of h)) h.edges
    ∷ same (report_of h.plan) h.printed
    ∷ []

unfoldable pub hall_test : Hall → Bool
hall_test h = every (λ b. b) (hall_tests h)

-- ---- what it establishes

pub record Established (h : Hall) : Type 0 where
  pub accepted : (decode_of h.plan).refusal ≡ 0
  pub complete : CompleteList (network_of h) (length h.cuts) h.cuts h.sides
  pub judged : (j : JudgedSet) → Memᴰ j h.judged → (T j.cut ↔ Cut (network_of h) j.set) × (T j.mincut ↔ Mincut (network_of h) j.set)
  pub widths : widths_of (network_of h) h.cuts ≡ record { refusal = 0; counts = counts_of h }
  pub fewest : Fewest (length h.cuts) h.cuts h.fewest
  pub ways : Apart (network_of h) h.ways × (length h.ways ≡ h.fewest)
  pub most : Most (network_of h) h.fewest
  pub reached : (v : ℕ) → (v ∈ h.reached) ↔ Connected (network_of h) (network_of h).source v
  pub nodes : (v : ℕ) → (v ∈ h.nodes) ↔ RelevantNode (network_of h) v
  pub edges : (e : ℕ) → (e ∈ h.edges) ↔ RelevantEdge (network_of h) e
  pub printed : report_of h.plan ≡ h.printed
