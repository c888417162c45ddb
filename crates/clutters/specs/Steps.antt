-- What the steps of tidying and uniting do to rows.
-- Working.
--
--   PartAt l h r         r is the place of a set of l that lies inside h; none, if there is no such set
--   between p m rows     the rows from place p up to place m
--   Written w rows rows' r     the first r rows are those of w
--   Followed w rows at rows' r     behind the first rows, `at` in number, which are as before, those of w come, and end at r
--   UnitedWith s l rows rows' r     the first r rows are as many as l has or fewer, and hold what the unions of s with l hold
--   United p m rows rows' r     behind the first m rows come rows which hold what the unions of the first p with the others hold
--   Tidied l rows rows' r     the first r rows are the list l tidied up
use Rattle.std.specs.Prelude.{Option, MatchOption, List, ◌++◌, map, ◌↔◌, ◌≡◌, ℕ, ◌+◌, ◌-◌, ◌≤◌, ◌<◌, length, get_or, take, drop}
use Rattle.std.specs.Int.Bits.{bit_or}
use Rattle.bitset.specs.Members.{◌⊆◌}
use Rattle.clutters.specs.Clutters.{HoldsOne, tidy, unions}

abbrev pub PartAt : List ℕ → ℕ → Option ℕ → Type 0
PartAt l h r = MatchOption r (HoldsOne l h → ⊥) (λ i. (i < length l) × (get_or l i 0 ⊆ h))

abbrev pub between : ℕ → ℕ → List ℕ → List ℕ
between p m rows = take (m - p) (drop p rows)

pub record Written (w rows rows' : List ℕ) (r : ℕ) : Type 0 where
  pub size : length rows' ≡ length rows
  pub count : r ≡ length w
  pub front : take r rows' ≡ w

pub record Followed (w rows : List ℕ) (at : ℕ) (rows' : List ℕ) (r : ℕ) : Type 0 where
  pub size : length rows' ≡ length rows
  pub end : r ≡ at + length w
  pub written : take r rows' ≡ take at rows ++ w

pub record UnitedWith (s : ℕ) (l rows rows' : List ℕ) (r : ℕ) : Type 0 where
  pub sets : List ℕ
  pub few : length sets ≤ length l
  pub same : (h : ℕ) → HoldsOne sets h ↔ HoldsOne (map (bit_or s) l) h
  pub written : Written sets rows rows' r

pub record United (p m : ℕ) (rows rows' : List ℕ) (r : ℕ) : Type 0 where
  pub sets : List ℕ
  pub same : (h : ℕ) → HoldsOne sets h ↔ HoldsOne (unions (take p rows) (between p m rows)) h
  pub followed : Followed sets rows m rows' r
  pub within : r ≤ length rows

pub record Tidied (l rows rows' : List ℕ) (r : ℕ) : Type 0 where
  pub size : length rows' ≡ length rows
  pub count : r ≡ length (tidy l)
  pub tidied : take r rows' ≡ tidy l
