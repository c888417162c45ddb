-- The bytes of a network (the paper's section "Plan and bytes"), read and written. Bytes are shown in hexadecimal, all else in decimal.
-- To believe.
--
-- A command:
--   at s i                    the byte, or the value, at place i
--   Bytes s                   what the types of the code say of any bytes: each is below 256
--   missing n s               the refusal 1: fewer than n bytes are left
--   unfit c s                 the refusal 2: the first byte is not the command c
--   number_fault next k       the refusals 7 and 8 of an edge's number
--   length_fault before k m   the refusal 28 of a length of m metres for edge k, straight after the edge `before`
--   size_refusal most s       the first refusal of the command 50, 0 if it has none, where so many points are the most
--   terminals_refusal n s     that of 53, where there are n nodes
--   edge_refusal n next s     that of 43, where `next` is the least number allowed
--   end_refusal s             that of 45
--   metres_in s               the metres of a length's command, the high byte first
--   length_refusal before s   that of 4D, straight after the edge `before`
--   Outcome                   the answer of a command: its values, the end, or a refusal by its number
--   outcome_of t              the answer that a step of the code is
--   answered a                the answer that the code gives as a step or a refusal
--   answer r t                the refusal r as an answer, or t if there is none
--   size_step most s          the answer of the command 50: its values, or its refusal
--   terminals_step n s        that of 53
--   edge_step n next s        that of 43, or of 45, by the command byte
--   length_step before s      that of 4D, straight after the edge `before`; 0 metres where another byte stands, or none
--   step_of w s               the answer where w is awaited  [working]
--   Told                      what an answer says by the paper: its number, and the command's values
--   told t                    what the answer t says
--
-- Reading:
--   reader_refusals           the numbers that the reader can give
--   Decoded                   what reading gives: the refusal's number, 0 if there is none, beside the record
--   decoded a                 the same of what the code answers, the all-zero record where it refuses
--   accept N                  the reader's answer where it accepts
--   refuse r                  its answer where it refuses: the all-zero record
--   if_taken t go_on          refused by the number of the answer t, or on with its values
--   length_size m             how many bytes there are of a length of m metres
--   edges turns N next s      the edge commands with their lengths and the end, read into N, in at most so many turns
--   walk N next s             the same in as many turns as it takes
--   decode_up_to most s       the bytes s read, where so many points are the most: the refusal's number beside the record
--   decode_of s               the same with the most that there may be
--
-- Writing:
--   length_command k m        the bytes of a length of m metres for edge k
--   command_of k s            the bytes of slot k where it holds s
--   edge_command N k          the bytes of slot k of N
--   present_command N k       the same where edge k is present, whether it is or not  [working]
--   encode_of N               the bytes of N
--   Encoded                   what writing gives: the refusal's number, 0 if there is none, beside the count of bytes
--   encoded a                 the same of what the code answers, the count 0 where it refuses
--   encode_refusal N lent     the writer's refusal
--   encoded_by N lent         its answer: the refusal beside the count of bytes
--   bytes_after N lent        the lent buffer afterwards
--   WrittenTo plan lent n buffer       the first n bytes of a plan stand in a lent buffer  [working]
use Rattle.std.specs.Prelude.{Result, Ok, Err, true, cond, not, ◌||◌, ◌≡◌, ℕ, zero, suc, ◌+◌, ◌*◌, ◌/◌, ◌%◌, ◌≤◌, ◌<◌, ltb, eqb, length, get_or, take, drop}
use mathlib.Core.List.{List, [], ◌∷◌, ◌++◌, flat_map}
use Rattle.sequences.specs.Words.{onto}
use Rattle.node_set.specs.Width.{node_width}
use Rattle.network.specs.declared.Network.{Network}
use Rattle.network.specs.declared.refusal.Refusal.{Refusal}
use Rattle.network.specs.Refusals.{number_of, refusal_of, answer_of}
use Rattle.network.specs.Record.{◌when◌, ◌then◌, unless_refused, size_fault, terminal_fault, end_fault, fault_of, slots, Slot, slot, first_end, second_end, metres_of, bare, no_network, with_edge}
use Rattle.format.specs.declared.Awaited.{Awaited}
use Rattle.format.specs.declared.Step.{Step}

-- ---- a command

-- The byte, or the value, at place i.
abbrev pub at : List ℕ → ℕ → ℕ
at s i = get_or s i 0

abbrev pub Bytes : List ℕ → Type 0
Bytes s = (i : ℕ) → at s i < 256

-- 1, the plan stops early: fewer than n bytes are left.
abbrev pub missing : ℕ → List ℕ → ℕ
missing n s = 1 when ltb (length s) n

-- 2, a byte that is no command fit for its place, which is that of the command c.
abbrev pub unfit : ℕ → List ℕ → ℕ
unfit c s = 2 when not (eqb (at s 0) c)

-- 7: cable number above 63; 8: cable number not above the one before, so below `next`
unfoldable pub number_fault : ℕ → ℕ → ℕ
number_fault next k = 7 when ltb 63 k then 8 when ltb k next

-- 28: a length that is not of the cable just before it, or of 0 metres
unfoldable pub length_fault : ℕ → ℕ → ℕ → ℕ
length_fault before k m = 28 when (not (eqb k before) || eqb m 0)

-- 50, point count
unfoldable pub size_refusal : ℕ → List ℕ → ℕ
size_refusal most s = missing 1 s then unfit 0x50 s then missing 2 s then size_fault most (at s 1)

-- 53, server, room
unfoldable pub terminals_refusal : ℕ → List ℕ → ℕ
terminals_refusal n s = missing 1 s then unfit 0x53 s then missing 3 s then terminal_fault n (at s 1) (at s 2)

-- 43, cable number, first end, second end
unfoldable pub edge_refusal : ℕ → ℕ → List ℕ → ℕ
edge_refusal n next s =
    missing 1 s then unfit 0x43 s then missing 4 s then number_fault next (at s 1) then end_fault n (at s 2) (at s 3)

-- 45, no operand; after it any byte is 3
unfoldable pub end_refusal : List ℕ → ℕ
end_refusal s = 3 when ltb 1 (length s)

-- 4D, cable number, metres in two bytes, the high one first
abbrev pub metres_in : List ℕ → ℕ
metres_in s = at s 2 * 256 + at s 3

unfoldable pub length_refusal : ℕ → List ℕ → ℕ
length_refusal before s = missing 4 s then length_fault before (at s 1) (metres_in s)

-- What a command gives: its values, the end, or a refusal by its number.
pub data Outcome : Type 0 where
  Size : ℕ → Outcome
  Terminals : ℕ → ℕ → Outcome
  Edge : ℕ → ℕ → ℕ → Outcome
  Length : ℕ → Outcome
  End : Outcome
  Refused : ℕ → Outcome

-- So a step of the code is, its refusal by the number.
abbrev pub outcome_of : Step → Outcome
outcome_of (Step.Size n) = Outcome.Size n
outcome_of (Step.Terminals a b) = Outcome.Terminals a b
outcome_of (Step.Edge k a b) = Outcome.Edge k a b
outcome_of (Step.Length m) = Outcome.Length m
outcome_of Step.End = Outcome.End
outcome_of (Step.Refused r) = Outcome.Refused (number_of r)

abbrev pub answered : Result Step Refusal → Outcome
answered (Ok t) = outcome_of t
answered (Err r) = Outcome.Refused (number_of r)

-- A command's answer: its refusal if it has one, else what it gives.
abbrev pub answer : ℕ → Outcome → Outcome
answer r t = unless_refused r t (Outcome.Refused r)

unfoldable pub size_step : ℕ → List ℕ → Outcome
size_step most s = answer (size_refusal most s) (Outcome.Size (at s 1))

unfoldable pub terminals_step : ℕ → List ℕ → Outcome
terminals_step n s = answer (terminals_refusal n s) (Outcome.Terminals (at s 1) (at s 2))

-- An edge or the end, by the command byte.
unfoldable pub edge_step : ℕ → ℕ → List ℕ → Outcome
edge_step n next s =
    cond (eqb (at s 0) 0x45)
    (answer (end_refusal s) Outcome.End)
    (answer (edge_refusal n next s) (Outcome.Edge (at s 1) (at s 2) (at s 3)))

-- A length may follow an edge. Where none does, the edge is not measured.
unfoldable pub length_step : ℕ → List ℕ → Outcome
length_step before s =
    cond (eqb (at s 0) 0x4D)
    (answer (length_refusal before s) (Outcome.Length (metres_in s)))
    (Outcome.Length 0)

-- The command that each place awaits, with what is known there: the number of nodes, and the least edge number allowed; for a length
-- the number of its edge.
abbrev pub step_of : Awaited → List ℕ → Outcome
step_of Awaited.Size s = size_step node_width s
step_of (Awaited.Terminals n) s = terminals_step n s
step_of (Awaited.Edge n next) s = edge_step n next s
step_of (Awaited.Length before) s = length_step before s

-- What an answer says by the paper: its number, which is 0 if the command was taken, and the command's values in their order.
pub record Told : Type 0 where
  pub number : ℕ
  pub values : List ℕ

abbrev pub told : Outcome → Told
told (Outcome.Size n) = record { number = 0; values = n ∷ [] }
told (Outcome.Terminals a b) = record { number = 0; values = a ∷ b ∷ [] }
told (Outcome.Edge k a b) = record { number = 0; values = k ∷ a ∷ b ∷ [] }
told (Outcome.Length m) = record { number = 0; values = m ∷ [] }
told Outcome.End = record { number = 0; values = [] }
told (Outcome.Refused r) = record { number = r; values = [] }

-- ---- reading

-- The numbers that the reader can give.
abbrev pub reader_refusals : List ℕ
reader_refusals = 1 ∷ 2 ∷ 3 ∷ 4 ∷ 5 ∷ 6 ∷ 7 ∷ 8 ∷ 9 ∷ 28 ∷ []

-- What reading gives, and that of the code's answer.
pub record Decoded : Type 0 where
  pub refusal : ℕ
  pub network : Network

abbrev pub decoded : Result Network Refusal → Decoded
decoded a = record { refusal = refusal_of a; network = answer_of no_network a }

abbrev pub accept : Network → Decoded
accept N = record { refusal = 0; network = N }

abbrev pub refuse : ℕ → Decoded
refuse r = record { refusal = r; network = no_network }

-- A command that fails decides the refusal, by its number; after one that was taken the reader goes on, with its values.
unfoldable pub if_taken : Outcome → (List ℕ → Decoded) → Decoded
if_taken t go_on = unless_refused (told t).number (go_on (told t).values) (refuse (told t).number)

-- So many bytes there are of a length: none of 0 metres.
unfoldable pub length_size : ℕ → ℕ
length_size m = cond (eqb m 0) 0 4

-- The edge commands, each with its length, and the end, read into N. Each turn takes an edge and its length, or the end, which alone has
-- no values.
unfoldable pub edges : ℕ → Network → ℕ → List ℕ → Decoded
edges zero N next s = refuse 1
edges (suc turns) N next s =
    if_taken (edge_step N.nodes next s) λ v. elim v [
      | [] ↦ accept N
      | k ∷ ends ↦
          if_taken (length_step k (drop 4 s)) λ metres.
          edges turns (with_edge N k (at ends 0) (at ends 1) (at metres 0)) (suc k) (drop (length_size (at metres 0)) (drop 4 s))
    ]

-- No command is empty, so as many turns as there are bytes suffice.
abbrev pub walk : Network → ℕ → List ℕ → Decoded
walk N next s = edges (length s) N next s

-- The commands in their order: 50 with one operand, 53 with two, then the rest.
unfoldable pub decode_up_to : ℕ → List ℕ → Decoded
decode_up_to most s =
    if_taken (size_step most s) λ size.
    if_taken (terminals_step (at size 0) (drop 2 s)) λ terminals.
    walk (bare (at size 0) (at terminals 0) (at terminals 1)) 0 (drop 5 s)

abbrev pub decode_of : List ℕ → Decoded
decode_of = decode_up_to node_width

-- ---- writing

-- The command of a length: an edge that is not measured has none.
unfoldable pub length_command : ℕ → ℕ → List ℕ
length_command k m = cond (eqb m 0) [] (0x4D ∷ k ∷ m / 256 ∷ m % 256 ∷ [])

-- The commands of a slot: its edge and the length; an absent edge has none.
abbrev pub command_of : ℕ → Slot → List ℕ
command_of k s = cond s.0 (0x43 ∷ k ∷ s.1 ∷ s.2 ∷ length_command k s.3) []

unfoldable pub edge_command : Network → ℕ → List ℕ
edge_command N k = command_of k (slot N k)

abbrev pub present_command : Network → ℕ → List ℕ
present_command N k = command_of k (true, first_end N k, second_end N k, metres_of N k)

unfoldable pub encode_of : Network → List ℕ
encode_of N = 0x50 ∷ N.nodes ∷ 0x53 ∷ N.source ∷ N.sink ∷ (flat_map (edge_command N) slots ++ 0x45 ∷ [])

-- What writing gives, and that of the code's answer.
pub record Encoded : Type 0 where
  pub refusal : ℕ
  pub count : ℕ

abbrev pub encoded : Result ℕ Refusal → Encoded
encoded a = record { refusal = refusal_of a; count = answer_of 0 a }

-- The record's first fault, then 15: the plan needs more bytes than were lent.
unfoldable pub encode_refusal : Network → List ℕ → ℕ
encode_refusal N lent = fault_of N then 15 when ltb (length lent) (length (encode_of N))

unfoldable pub encoded_by : Network → List ℕ → Encoded
encoded_by N lent = let r = encode_refusal N lent in record { refusal = r; count = unless_refused r (length (encode_of N)) 0 }

-- The bytes of N, and past them what the buffer held; on refusal all that it held.
unfoldable pub bytes_after : Network → List ℕ → List ℕ
bytes_after N lent = unless_refused (encode_refusal N lent) (onto (encode_of N) lent) lent

-- The first n bytes of a plan stand in a buffer that held `lent`, which is long enough for all of it.
pub record WrittenTo (plan lent : List ℕ) (n : ℕ) (buffer : List ℕ) : Type 0 where
  pub within : n ≤ length plan
  pub room : length plan ≤ length lent
  pub bytes : buffer ≡ take n plan ++ drop n lent
