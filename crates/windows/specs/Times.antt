-- The times at which windows start or end, by which the code goes from one stretch of minutes to the next.
-- Working.
--
--   times_of w       the starts and ends of works windows; those of opening windows are all their numbers
--   sooner m t n     the time t if it is past m and before n, else n
--   soonest m n l    the first of n and the times of l that are past m
--   nearer m t d     the minutes between m and t where these are fewer than d, else d; of a t not past m they count as more than any
--   changes_of o w   the week's end, and every start and end
use Rattle.std.specs.Prelude.{cond, ◌&&◌, List, [], ◌∷◌, ◌++◌, ℕ, ◌+◌, ◌-◌, ◌%◌, ◌^◌, min, ltb}
use Rattle.windows.specs.Windows.{week}

unfoldable pub times_of : List ℕ → List ℕ
times_of [] = []
times_of (s ∷ []) = []
times_of (s ∷ e ∷ []) = []
times_of (s ∷ e ∷ k ∷ later) = s ∷ e ∷ times_of later

unfoldable pub sooner : ℕ → ℕ → ℕ → ℕ
sooner m t n = cond (ltb m t && ltb t n) t n

unfoldable pub soonest : ℕ → ℕ → List ℕ → ℕ
soonest m n [] = n
soonest m n (t ∷ l) = soonest m (sooner m t n) l

-- A number of 16 bits wraps where t is not past m.
unfoldable pub nearer : ℕ → ℕ → ℕ → ℕ
nearer m t d = min d ((t + (2 ^ 16 - 1 - m)) % 2 ^ 16)

abbrev pub changes_of : List ℕ → List ℕ → List ℕ
changes_of o w = week ∷ o ++ times_of w
