-- The refusals by their numbers.
-- To believe.
--
--   number_of r      the paper's number of a refusal
--   refusal_of a     the number of the refusal that an answer is, 0 if it is none
--   answer_of b a    what an answer gives; b if it is a refusal
use Rattle.std.specs.Prelude.{ℕ, Result, Ok, Err}
use Rattle.network.specs.declared.refusal.Refusal.{Refusal}
use Rattle.network.specs.declared.refusal.Refusal.TheVariants.{Truncated, UnfitCommand, TrailingByte, BadNodeCount, TerminalOutside, SameTerminals, EdgeNumberTooHigh, EdgeNumberNotRising, EndOutside, BadLength, BadEvent, NoSuchEdge, TooManyWindows, BadWindow, BadRooms, TooManySteps, RowsDiffer, TooManyCuts, AbsentEdgeNotZero, EdgeNotPresent, BufferTooShort, TooManyEvents, WorkTooShort, NotTrimmed}

abbrev pub number_of : Refusal → ℕ
number_of Truncated = 1
number_of UnfitCommand = 2
number_of TrailingByte = 3
number_of BadNodeCount = 4
number_of TerminalOutside = 5
number_of SameTerminals = 6
number_of EdgeNumberTooHigh = 7
number_of EdgeNumberNotRising = 8
number_of EndOutside = 9
number_of BadLength = 28
number_of BadEvent = 16
number_of NoSuchEdge = 17
number_of TooManyWindows = 23
number_of BadWindow = 24
number_of BadRooms = 19
number_of TooManySteps = 25
number_of RowsDiffer = 11
number_of TooManyCuts = 12
number_of AbsentEdgeNotZero = 13
number_of EdgeNotPresent = 14
number_of BufferTooShort = 15
number_of TooManyEvents = 18
number_of WorkTooShort = 20
number_of NotTrimmed = 26

abbrev pub refusal_of : {A : Type 0} → Result A Refusal → ℕ
refusal_of (Ok a) = 0
refusal_of (Err r) = number_of r

abbrev pub answer_of : {A : Type 0} → A → Result A Refusal → A
answer_of b (Ok a) = a
answer_of b (Err r) = b
