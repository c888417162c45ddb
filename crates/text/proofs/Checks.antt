-- The definitions on texts that are known: the line of a cut without cables, a refusal, and the longest line.
-- Assumes nothing.
use mathlib.Core.Path.{◌≡◌, refl}
use Prim.Native.Nat.{◌-◌, ◌^◌}
use lib.ListN.{length}
use Rattle.bitset.specs.Members.{has, members_from}
use Rattle.node_set.specs.Width.{node_width}
use Rattle.text.specs.Ascii.{bytes}
use Rattle.text.specs.Text.{digits, decimal, spaced, numbers, line_up_to, line_of, word_line, refusal_line, max_line}

-- A cut without cables.
pub no-cable : line_of 0 16 ≡ bytes "- | 4\n"
unfolding has members_from digits decimal spaced numbers line_up_to
no-cable = refl

-- A refusal.
pub refusal : refusal_line 12 ≡ bytes "refused 12\n"
unfolding digits decimal word_line
refusal = refl

-- The line of all edges and all nodes is as long as a line can be.
pub longest : length (line_of (2 ^ 64 - 1) (2 ^ node_width - 1)) ≡ max_line
unfolding has members_from digits decimal spaced numbers line_up_to
longest = refl
