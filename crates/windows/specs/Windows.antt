-- The windows of a week: opening windows, each a start and an end, and works windows, each a start, an end and an edge. Each kind is a list of
-- numbers, window after window. What is open and what is out in each minute, and the faults of such lists.
-- To believe.
--
--   week             the minutes of a week: they are 0 to 10,079
--   covers s e m     whether the minute m lies in the window from s to e, which holds its start and not its end
--   is_open o m      whether some opening window of o holds the minute m
--   out_at w m       the edges of the works windows of w that hold it: those out then
--   opening_count o  how many opening windows there are, a piece of one counted
--   works_count w    how many works windows
--   window_fault s e  the fault of a window from s to e
--   booking_fault p s e k    that of a works window with the edge k, where the edges p are present
--   openings_fault o  the first fault of opening windows, 0 if they have none
--   works_fault p w  that of works windows, where the edges p are present
--   Window s e       the start s is below the end e, and the end not above the week's
--   Openings o       o has whole windows alone, each a `Window`
--   Works p w        w has whole windows alone, each a `Window` with an edge of p
--   BadWindow p w    the first of w that is against these rules is a piece of a window, or no `Window`
--   AbsentEdge p w   the first of w that is against these rules is a `Window`, and its edge is not in p
use Rattle.std.specs.Prelude.{Bool, false, not, ◌&&◌, ◌||◌, List, [], ◌∷◌, ◌⊎◌, ℕ, ◌+◌, ◌/◌, ◌≤◌, ◌<◌, leb, ltb, length}
use Rattle.bitset.specs.Members.{has, ◌∈◌, add_if}
use Rattle.network.specs.Record.{◌when◌, ◌then◌}

abbrev pub week : ℕ
week = 10080

-- ---- minute by minute

unfoldable pub covers : ℕ → ℕ → ℕ → Bool
covers s e m = leb s m && ltb m e

-- Windows may overlap: a minute is open once.
unfoldable pub is_open : List ℕ → ℕ → Bool
is_open [] m = false
is_open (s ∷ []) m = false
is_open (s ∷ e ∷ later) m = covers s e m || is_open later m

-- So is an edge out once.
unfoldable pub out_at : List ℕ → ℕ → ℕ
out_at [] m = 0
out_at (s ∷ []) m = 0
out_at (s ∷ e ∷ []) m = 0
out_at (s ∷ e ∷ k ∷ later) m = add_if (covers s e m) (out_at later m) k

-- ---- faults

-- Rounded up: a piece of a window at the end counts as a window.
abbrev pub opening_count : List ℕ → ℕ
opening_count o = (length o + 1) / 2

abbrev pub works_count : List ℕ → ℕ
works_count w = (length w + 2) / 3

-- 24: a start not below its end, or an end above 10,080
unfoldable pub window_fault : ℕ → ℕ → ℕ
window_fault s e = 24 when (leb e s || ltb week e)

-- 24; then 17: an edge not present
unfoldable pub booking_fault : ℕ → ℕ → ℕ → ℕ → ℕ
booking_fault p s e k = window_fault s e then 17 when not (has p k)

-- Window by window; a piece of one is 24 in its place
unfoldable pub openings_fault : List ℕ → ℕ
openings_fault [] = 0
openings_fault (s ∷ []) = 24
openings_fault (s ∷ e ∷ later) = window_fault s e then openings_fault later

unfoldable pub works_fault : ℕ → List ℕ → ℕ
works_fault p [] = 0
works_fault p (s ∷ []) = 24
works_fault p (s ∷ e ∷ []) = 24
works_fault p (s ∷ e ∷ k ∷ later) = booking_fault p s e k then works_fault p later

-- ---- the rules

pub record Window (s e : ℕ) : Type 0 where
  pub forward : s < e
  pub within : e ≤ week

unfoldable pub Openings : List ℕ → Type 0
Openings [] = Unit {0}
Openings (s ∷ []) = ⊥
Openings (s ∷ e ∷ later) = Window s e × Openings later

unfoldable pub Works : ℕ → List ℕ → Type 0
Works p [] = Unit {0}
Works p (s ∷ []) = ⊥
Works p (s ∷ e ∷ []) = ⊥
Works p (s ∷ e ∷ k ∷ later) = Window s e × (k ∈ p) × Works p later

unfoldable pub BadWindow : ℕ → List ℕ → Type 0
BadWindow p [] = ⊥
BadWindow p (s ∷ []) = Unit {0}
BadWindow p (s ∷ e ∷ []) = Unit {0}
BadWindow p (s ∷ e ∷ k ∷ later) = (Window s e → ⊥) ⊎ (Window s e × (k ∈ p) × BadWindow p later)

unfoldable pub AbsentEdge : ℕ → List ℕ → Type 0
AbsentEdge p [] = ⊥
AbsentEdge p (s ∷ []) = ⊥
AbsentEdge p (s ∷ e ∷ []) = ⊥
AbsentEdge p (s ∷ e ∷ k ∷ later) = Window s e × ((k ∈ p → ⊥) ⊎ ((k ∈ p) × AbsentEdge p later))
