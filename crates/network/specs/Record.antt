-- The record of a network (the paper's plan record) and its test.
-- To believe.
--
--   r when b         the refusal r where b holds, else 0
--   r then s         r unless it is 0, else s: the first fault decides
--   first_fault f k n the first fault of the n places from k on, where that of place j is f j
--   among l r        whether r is 0 or one of the numbers of l
--   unless_refused r a b     a, or b where r is a refusal: what a call gives, and what lent memory holds after it
--
-- The rules of the paper's table "Who causes a refusal":
--   size_fault most n    that of the point count (4), where so many points are the most
--   outside_fault r n a b    the refusal r of two points of which one is not below the point count n
--   terminal_fault n a b     that of server and room (5, 6)
--   end_fault n a b  that of a cable's two ends (9); they may be one point
--   absent_fault a b m   that of an absent cable's two ends and metres (13)
--
-- The record test:
--   slots            the numbers of the 64 edge slots, rising
--   present N        the set of the edges present
--   has_edge N k     whether edge k is present
--   first_end N k    its first end
--   second_end N k   its second end
--   metres_of N k    its length in metres, 0 if it is not measured
--   Slot             what a slot holds: whether its edge is present, its two ends, and its metres
--   slot N k         what slot k holds
--   slot_fault_of n s  the fault of a slot that holds s, where there are n nodes
--   slot_fault N k   the fault of slot k
--   slots_fault N k n the first fault of the n slots from k on
--   record_refusals  the numbers that the record test can give  [working]
--   fault_up_to most N the record's first fault, 0 if it has none, where so many points are the most
--   fault_of N       the same with the most that there may be; a record is accepted if it is 0
--   all_present N c  whether every member of c is an edge present
--   edges_fault N b  the refusal of a call on N and edges, b being whether all are present: the record's first fault, then 14 if one is not
--   set_fault N c    that of a call on N and a set of edges c
--   rows_fault N l   that of a call on N and rows l, each a set of edges
--
-- Records:
--   assembled nodes source sink edges first second metres      a network from its fields
--   rewired N edges first second metres      N with other edges
--   bare n s t       the network of n nodes with source s, sink t and no edge
--   no_network       the all-zero record
--   with_edge N k a b m  N with the edge k from a to b, m metres long
--   Stored N         what the types of the code say of any record
use Rattle.std.specs.Prelude.{Bool, cond, not, ◌||◌, ◌≡◌, ℕ, zero, suc, ◌<◌, ◌^◌, leb, ltb, eqb, length, get_or, set, replicate}
use mathlib.Core.List.{List, [], ◌∷◌, map, foldr}
use Rattle.std.specs.Int.Bits.{bit_and}
use Rattle.sequences.specs.Words.{range, every}
use Rattle.bitset.specs.Members.{has, insert}
use Rattle.node_set.specs.Width.{node_width}
use Rattle.network.specs.declared.Network.{Network}

infix 30 ◌when◌
infixr 25 ◌then◌
unfoldable pub ◌when◌ : ℕ → Bool → ℕ
r when b = cond b r 0

unfoldable pub ◌then◌ : ℕ → ℕ → ℕ
zero then s = s
suc r then s = suc r

-- Place after place: the first fault decides.
abbrev pub first_fault : (ℕ → ℕ) → ℕ → ℕ → ℕ
first_fault f k n = foldr ◌then◌ 0 (map f (range k n))

-- Whether r is 0 or one of the numbers of l: the rules that a call keeps are a list, and the numbers may have gaps.
unfoldable pub among : List ℕ → ℕ → Bool
among [] r = eqb r 0
among (k ∷ l) r = eqb r k || among l r

-- What a call gives, a, or b where it is refused by r; and what lent rows or bytes hold after it, b being what they held before.
abbrev pub unless_refused : {A : Type 0} → ℕ → A → A → A
unless_refused zero a b = a
unless_refused (suc r) a b = b

-- ---- the rules

-- 4: point count not 2 to the most
unfoldable pub size_fault : ℕ → ℕ → ℕ
size_fault most n = 4 when (ltb n 2 || ltb most n)

-- Two points that must both be below the point count.
unfoldable pub outside_fault : ℕ → ℕ → ℕ → ℕ → ℕ
outside_fault r n a b = r when (leb n a || leb n b)

-- 5: server or room not below the point count; 6: server and room the same point
abbrev pub terminal_fault : ℕ → ℕ → ℕ → ℕ
terminal_fault n a b = outside_fault 5 n a b then 6 when eqb a b

-- 9: a cable end not below the point count
abbrev pub end_fault : ℕ → ℕ → ℕ → ℕ
end_fault = outside_fault 9

-- 13: an absent cable with an end or metres not 0
unfoldable pub absent_fault : ℕ → ℕ → ℕ → ℕ
absent_fault a b m = 13 when (ltb 0 a || ltb 0 b || ltb 0 m)

-- ---- the record test

-- The numbers of the 64 slots.
abbrev pub slots : List ℕ
slots = range 0 64

-- The set of the edges present.
abbrev pub present : Network → ℕ
present N = N.present.0

-- Edge k is present, its two ends, and its length.
abbrev pub has_edge : Network → ℕ → Bool
has_edge N k = has (present N) k

abbrev pub first_end : Network → ℕ → ℕ
first_end N k = get_or N.first k 0

abbrev pub second_end : Network → ℕ → ℕ
second_end N k = get_or N.second k 0

abbrev pub metres_of : Network → ℕ → ℕ
metres_of N k = get_or N.metres k 0

-- What slot k holds: whether its edge is present, its ends, and its metres.
abbrev pub Slot : Type 0
Slot = Bool × ℕ × ℕ × ℕ

abbrev pub slot : Network → ℕ → Slot
slot N k = (has_edge N k, first_end N k, second_end N k, metres_of N k)

-- 9 if present, whatever its metres; 13 if absent
abbrev pub slot_fault_of : ℕ → Slot → ℕ
slot_fault_of n s = cond s.0 (end_fault n s.1 s.2) (absent_fault s.1 s.2 s.3)

unfoldable pub slot_fault : Network → ℕ → ℕ
slot_fault N k = slot_fault_of N.nodes (slot N k)

-- The first fault of the n slots from k on.
unfoldable pub slots_fault : Network → ℕ → ℕ → ℕ
slots_fault N = first_fault (slot_fault N)

-- The numbers that the record test can give.
abbrev pub record_refusals : List ℕ
record_refusals = 4 ∷ 5 ∷ 6 ∷ 9 ∷ 13 ∷ []

-- The record test: 4, 5, 6, then slot by slot.
unfoldable pub fault_up_to : ℕ → Network → ℕ
fault_up_to most N = size_fault most N.nodes then terminal_fault N.nodes N.source N.sink then slots_fault N 0 64

abbrev pub fault_of : Network → ℕ
fault_of = fault_up_to node_width

-- Every member of c is an edge present.
abbrev pub all_present : Network → ℕ → Bool
all_present N c = eqb (bit_and c (present N)) c

-- 14: a set or row holds an edge that is not present
unfoldable pub edges_fault : Network → Bool → ℕ
edges_fault N b = fault_of N then 14 when not b

unfoldable pub set_fault : Network → ℕ → ℕ
set_fault N c = edges_fault N (all_present N c)

unfoldable pub rows_fault : Network → List ℕ → ℕ
rows_fault N l = edges_fault N (every (all_present N) l)

-- ---- records

-- A network from its fields: here alone they are put together.
abbrev pub assembled : ℕ → ℕ → ℕ → ℕ → List ℕ → List ℕ → List ℕ → Network
assembled nodes source sink edges first second metres = record {
  nodes = nodes;
  source = source;
  sink = sink;
  present = record { 0 = edges };
  first = first;
  second = second;
  metres = metres;
}

-- The nodes and terminals of N with other edges: those present, and the ends and metres in each slot.
abbrev pub rewired : Network → ℕ → List ℕ → List ℕ → List ℕ → Network
rewired N edges first second metres = assembled N.nodes N.source N.sink edges first second metres

unfoldable pub bare : ℕ → ℕ → ℕ → Network
bare n s t = assembled n s t 0 (replicate 64 0) (replicate 64 0) (replicate 64 0)

abbrev pub no_network : Network
no_network = bare 0 0 0

unfoldable pub with_edge : Network → ℕ → ℕ → ℕ → ℕ → Network
with_edge N k a b m = rewired N (insert (present N) k) (set N.first k a) (set N.second k b) (set N.metres k m)

-- What the types of the code say of any record: 64 slots, and no edge past them.
pub record Stored (N : Network) : Type 0 where
  pub firsts : length N.first ≡ 64
  pub seconds : length N.second ≡ 64
  pub lengths : length N.metres ≡ 64
  pub edges : present N < 2 ^ 64
