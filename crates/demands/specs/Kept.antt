-- What earlier plans keep where a rule was widened or went, or a command came. A widened rule as it was is today's definition at its earlier
-- limit; a rule that went, and the record test, the reader and the writer before a command came, are written out here. The records follow
-- each other: `LoopsKept` leads from the first rules, at any limit of points, to those without the rule 10, `LengthsKept` from there to
-- those with lengths, and `PointsKept` from an earlier limit to today's. `FirstKept` is all three.
-- To believe.
--
--   PointsKept before    where at most `before` points were allowed: of records and plans the refusal 4 alone is lifted, so what was
--                        accepted is accepted as it was; its list has the same cuts and the same sides as numbers, and the line of
--                        each row is the one that was printed
--
-- With another rule for a slot, or another walk over the cables' commands:
--   test_by slot most N      the record test by the fault of each slot, where so many points are the most
--   decode_by walk most s    the reader by what it reads into a network from the bytes after the first two commands
--
-- Cables had no metres:
--   Unmeasured N         no slot of N has metres: it is a record of then
--   slot_unmeasured N k  the fault of slot k as it was
--   edges_unmeasured turns N next s      the edge commands and the end, read as they were
--   decode_unmeasured most s     the reader as it was
--   encode_unmeasured N  the bytes of N as they were written
--   LengthsKept most     a record of then gets the number and the bytes that it got; of plans the refusal 2 alone is lifted, and none without
--                        the byte 4D; what was accepted is what is accepted and has no metres
--
-- Before that, both ends of a cable at one point were refused, as 10:
--   loop_fault a b       the rule: a cable's two ends at one point
--   slot_with_ten N k    the fault of slot k with it
--   fault_with_ten most N    the record test with it, where so many points are the most
--   edges_with_ten turns N next s    the edge commands and the end, read with it
--   decode_with_ten most s   the reader with it
--   LoopsKept most       of records and plans the refusal 10 alone is lifted, so that record test and reader answer those without loops as
--                        they did; and a network has one complete list
--   FirstKept before     from the first rules, with at most so many points, to today's: any answer but 2, 4 and 10 is today's, so that what
--                        was accepted is accepted as it was
use Rattle.std.specs.Prelude.{cond, ◌||◌, ◌↔◌, ◌≡◌, ℕ, zero, suc, ◌^◌, ◌≤◌, ◌<◌, eqb, ltb, length, get_or, drop}
use mathlib.Core.List.{List, [], ◌∷◌, ◌++◌, map, foldr, flat_map}
use Rattle.sequences.specs.Words.{onto}
use Rattle.network.specs.declared.Network.{Network}
use Rattle.network.specs.Record.{◌when◌, ◌then◌, unless_refused, size_fault, terminal_fault, end_fault, slots, has_edge, first_end, second_end, metres_of, fault_up_to, fault_of, bare, with_edge, Stored}
use Rattle.network.specs.Ends.{Loopless}
use Rattle.format.specs.Format.{Decoded}
use Rattle.format.specs.Format.{at, size_step, terminals_step, edge_step, accept, refuse, if_taken, decode_up_to, decode_of, encode_of}
use Rattle.graph.specs.Lists.{CompleteList, SameList}
use Rattle.connectivity.specs.Answers.{relevant_of}
use Rattle.listing.specs.List.{mincuts, source_sides, listed_by, cut_rows_after, side_rows_after}
use Rattle.text.specs.Text.{line_up_to, line_of}

pub record PointsKept (before : ℕ) : Type 0 where
  -- Any other number of the record test at that limit, 0 among them, is today's.
  pub faults : (N : Network) → (fault_up_to before N ≡ 4 → ⊥) → fault_of N ≡ fault_up_to before N
  -- So is any other answer of the reader at that limit, the record too.
  pub plans : (s : List ℕ) → ((decode_up_to before s).refusal ≡ 4 → ⊥) → decode_of s ≡ decode_up_to before s
  -- The record of a plan accepted at that limit is one accepted there: what follows is said of plans in bytes too.
  pub read : (s : List ℕ) → (decode_up_to before s).refusal ≡ 0 → Stored (decode_of s).network × (fault_up_to before (decode_of s).network ≡ 0)
  -- The list of a record accepted at that limit: `mincuts` and `source_sides` name no limit.
  pub lists : (N : Network) → fault_up_to before N ≡ 0 → (cuts sides : List ℕ) → length cuts ≡ length sides → length (mincuts N) ≤ length cuts
      → (listed_by N cuts sides ≡ record { refusal = 0; count = length (mincuts N) })
      × (cut_rows_after N cuts sides ≡ onto (mincuts N) cuts)
      × (side_rows_after N cuts sides ≡ onto (source_sides N) sides)
  -- Its sides and its useful points are numbers that the narrower words held.
  pub sides : (N : Network) → Stored N → fault_up_to before N ≡ 0 → (cuts sides : List ℕ) (i : ℕ) → i < (listed_by N cuts sides).count
      → get_or (side_rows_after N cuts sides) i 0 < 2 ^ before
  pub part : (N : Network) → Stored N → fault_up_to before N ≡ 0 → (relevant_of N).nodes.0 < 2 ^ before
  -- The line of such a side is the one that was printed.
  pub lines : (c side : ℕ) → side < 2 ^ before → line_of c side ≡ line_up_to before c side

-- ---- another rule, another walk

unfoldable pub test_by : (Network → ℕ → ℕ) → ℕ → Network → ℕ
test_by slot most N =
    size_fault most N.nodes then terminal_fault N.nodes N.source N.sink then foldr ◌then◌ 0 (map (slot N) slots)

unfoldable pub decode_by : (Network → List ℕ → Decoded) → ℕ → List ℕ → Decoded
decode_by walk most s =
    if_taken (size_step most s) λ size.
    if_taken (terminals_step (at size 0) (drop 2 s)) λ terminals.
    walk (bare (at size 0) (at terminals 0) (at terminals 1)) (drop 5 s)

-- ---- cables without metres

-- Past the slots there are no metres anyway.
abbrev pub Unmeasured : Network → Type 0
Unmeasured N = (k : ℕ) → metres_of N k ≡ 0

-- 13 was: an absent cable with an end not 0
unfoldable pub slot_unmeasured : Network → ℕ → ℕ
slot_unmeasured N k =
    let a = first_end N k in
    let b = second_end N k in
    cond (has_edge N k) (end_fault N.nodes a b) (13 when (ltb 0 a || ltb 0 b))

-- After a cable's command came the next one, or the end.
unfoldable pub edges_unmeasured : ℕ → Network → ℕ → List ℕ → Decoded
edges_unmeasured zero N next s = refuse 1
edges_unmeasured (suc turns) N next s =
    if_taken (edge_step N.nodes next s) λ v. elim v [
      | [] ↦ accept N
      | k ∷ ends ↦ edges_unmeasured turns (with_edge N k (at ends 0) (at ends 1) 0) (suc k) (drop 4 s)
    ]

abbrev pub decode_unmeasured : ℕ → List ℕ → Decoded
decode_unmeasured = decode_by (λ N s. edges_unmeasured (length s) N 0 s)

unfoldable pub encode_unmeasured : Network → List ℕ
encode_unmeasured N =
    0x50 ∷ N.nodes ∷ 0x53 ∷ N.source ∷ N.sink
    ∷ (flat_map (λ k. cond (has_edge N k) (0x43 ∷ k ∷ first_end N k ∷ second_end N k ∷ []) []) slots ++ 0x45 ∷ [])

pub record LengthsKept (most : ℕ) : Type 0 where
  -- A record of then gets the number that it got.
  pub faults : (N : Network) → Unmeasured N → fault_up_to most N ≡ test_by slot_unmeasured most N
  -- It is written in the bytes of then.
  pub bytes : (N : Network) → Unmeasured N → encode_of N ≡ encode_unmeasured N
  -- Any answer of the reader but 2, the record too, is the one that it gave; and every answer where the byte 4D does not occur.
  pub plans : (s : List ℕ) → ((decode_unmeasured most s).refusal ≡ 2 → ⊥) → decode_up_to most s ≡ decode_unmeasured most s
  pub without : (s : List ℕ) → ((i : ℕ) → at s i ≡ 0x4D → ⊥) → decode_up_to most s ≡ decode_unmeasured most s
  -- What was accepted is what is accepted and has no metres.
  pub read : (s : List ℕ) → ((decode_unmeasured most s).refusal ≡ 0) ↔ (((decode_up_to most s).refusal ≡ 0) × Unmeasured (decode_up_to most s).network)

-- ---- both ends of a cable at one point

-- 10: both ends of a cable at one point
unfoldable pub loop_fault : ℕ → ℕ → ℕ
loop_fault a b = 10 when eqb a b

-- The first record test: slot by slot 9 and 10 if present, 13 if absent.
unfoldable pub slot_with_ten : Network → ℕ → ℕ
slot_with_ten N k =
    let a = first_end N k in
    let b = second_end N k in
    cond (has_edge N k) (end_fault N.nodes a b then loop_fault a b) (13 when (ltb 0 a || ltb 0 b))

abbrev pub fault_with_ten : ℕ → Network → ℕ
fault_with_ten = test_by slot_with_ten

-- The first reader: within a cable's command 10 came last.
unfoldable pub edges_with_ten : ℕ → Network → ℕ → List ℕ → Decoded
edges_with_ten zero N next s = refuse 1
edges_with_ten (suc turns) N next s =
    if_taken (edge_step N.nodes next s) λ v. elim v [
      | [] ↦ accept N
      | k ∷ ends ↦
          unless_refused (loop_fault (at ends 0) (at ends 1))
          (edges_with_ten turns (with_edge N k (at ends 0) (at ends 1) 0) (suc k) (drop 4 s))
          (refuse 10)
    ]

abbrev pub decode_with_ten : ℕ → List ℕ → Decoded
decode_with_ten = decode_by (λ N s. edges_with_ten (length s) N 0 s)

pub record LoopsKept (most : ℕ) : Type 0 where
  -- Any other number of the record test than 10, 0 among them, is the one that was given.
  pub faults : (N : Network) → (fault_with_ten most N ≡ 10 → ⊥) → test_by slot_unmeasured most N ≡ fault_with_ten most N
  -- So is any other answer of the reader, the record too.
  pub plans : (s : List ℕ) → ((decode_with_ten most s).refusal ≡ 10 → ⊥) → decode_unmeasured most s ≡ decode_with_ten most s
  -- A record without loops gets the number that it got, whatever it is.
  pub loopless : (N : Network) → Loopless N → test_by slot_unmeasured most N ≡ fault_with_ten most N
  -- What was accepted is what is accepted and has no loop: records, and plans in bytes.
  pub accepted : (N : Network) → Stored N → (fault_with_ten most N ≡ 0) ↔ ((test_by slot_unmeasured most N ≡ 0) × Loopless N)
  pub read : (s : List ℕ) → ((decode_with_ten most s).refusal ≡ 0) ↔ (((decode_unmeasured most s).refusal ≡ 0) × Loopless (decode_unmeasured most s).network)
  -- Whoever listed a network, if the list was complete it was this one: `CompleteList` and all that it cites are as they were.
  pub lists : (N : Network) (n m : ℕ) (cuts sides cuts' sides' : List ℕ) → CompleteList N n cuts sides → CompleteList N m cuts' sides'
      → SameList n cuts m cuts' × SameList n sides m sides'

-- ---- from the first rules to today's

pub record FirstKept (before : ℕ) : Type 0 where
  -- A record of then is one without metres.
  pub faults : (N : Network) → Unmeasured N → (fault_with_ten before N ≡ 10 → ⊥) → (fault_with_ten before N ≡ 4 → ⊥) → fault_of N ≡ fault_with_ten before N
  pub plans : (s : List ℕ) → ((decode_with_ten before s).refusal ≡ 10 → ⊥) → ((decode_with_ten before s).refusal ≡ 2 → ⊥)
      → ((decode_with_ten before s).refusal ≡ 4 → ⊥) → decode_of s ≡ decode_with_ten before s
  -- What was accepted: the same record is read from the same bytes, it is accepted, and its bytes are the ones that were written.
  pub read : (s : List ℕ) → (decode_with_ten before s).refusal ≡ 0 → (decode_of s ≡ decode_with_ten before s) × Unmeasured (decode_of s).network
  pub bytes : (N : Network) → Unmeasured N → encode_of N ≡ encode_unmeasured N
