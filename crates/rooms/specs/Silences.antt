-- What silences several rooms, and which rooms a call can be asked for.
-- To believe.
--
--   to N t               the network N with the node t for its sink: the hall with another room
--   SilencesAny N ts c   c is a cut of N for at least one of the rooms ts
--   SilencesAll N ts c   c is a cut of N for every one of them
--   Silences e N ts c    the one or the other, by the extent e
--   Package N ts         ts are 1 to 8 points of N, none twice, and none of them the server
use mathlib.Core.List.{List, Memᴰ}
use Rattle.std.specs.Prelude.{◌≡◌, ℕ, ◌≤◌, ◌<◌, length}
use Rattle.sequences.specs.Distinct.{Distinct}
use Rattle.network.specs.declared.Network.{Network}
use Rattle.network.specs.Record.{assembled, present}
use Rattle.graph.specs.Cuts.{Cut}
use Rattle.rooms.specs.declared.Extent.{Extent}
use Rattle.rooms.specs.declared.Extent.TheVariants.{Any, All}

unfoldable pub to : Network → ℕ → Network
to N t = assembled N.nodes N.source t (present N) N.first N.second N.metres

-- A cut is a set of present edges without which no route is left.
abbrev pub SilencesAny : Network → List ℕ → ℕ → Type 0
SilencesAny N ts c = (t : ℕ) × (Memᴰ t ts × Cut (to N t) c)

abbrev pub SilencesAll : Network → List ℕ → ℕ → Type 0
SilencesAll N ts c = (t : ℕ) → Memᴰ t ts → Cut (to N t) c

abbrev pub Silences : Extent → Network → List ℕ → ℕ → Type 0
Silences Any = SilencesAny
Silences All = SilencesAll

pub record Package (N : Network) (ts : List ℕ) : Type 0 where
  pub some : 1 ≤ length ts
  pub few : length ts ≤ 8
  pub distinct : Distinct ts
  pub points : (t : ℕ) → Memᴰ t ts → t < N.nodes
  pub rooms : (t : ℕ) → Memᴰ t ts → t ≡ N.source → ⊥
