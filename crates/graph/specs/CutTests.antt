-- Cuts, as they are computed: one reachable set for a cut, and one more for each member of a mincut.
-- Computed: explained by severed-silenced, severed-iff, cut_test-iff, mincut_test-iff (graph/proofs/Cuts).
--
--   reaches N h          over the edges of h the source reaches the sink  [computed: minpath-reach (graph/proofs/Cuts)]
--   severed N c          without the edges of c the source does not reach the sink  [computed: severed-silenced (graph/proofs/Cuts)]
--   cut_test N c         whether c is a cut  [computed: cut_test-iff (graph/proofs/Cuts)]
--   all_needed N c       no member of c can be dropped: without the others alone the source reaches the sink
--   mincut_test N c      whether c is a mincut  [computed: mincut_test-iff (graph/proofs/Cuts)]
--   Settled b c d        what severs has grown, from c to d, or what does not has shrunk, where b says whether c severs: then b says it of d
--                        too  [working]
use Rattle.std.specs.Prelude.{Bool, true, false, not, ℕ, ◌^◌, eqb}
use Rattle.std.specs.Int.Bits.{bit_and}
use Rattle.sequences.specs.Words.{every}
use Rattle.bitset.specs.Members.{has, ◌⊆◌, ◌∖◌, members}
use Rattle.network.specs.Record.{present}
use Rattle.network.specs.declared.Network.{Network}
use Rattle.graph.specs.Cuts.{only}
use Rattle.graph.specs.Reach.{reach_of}

abbrev pub reaches : Network → ℕ → Bool
reaches N h = has (reach_of (only N h) (2 ^ N.source)) N.sink

unfoldable pub severed : Network → ℕ → Bool
severed N c = not (reaches N (present N ∖ c))

unfoldable pub cut_test : Network → ℕ → Bool
cut_test N c = elim (eqb (bit_and c (present N)) c) [ true ↦ severed N c | false ↦ false ]

unfoldable pub all_needed : Network → ℕ → Bool
all_needed N c = every (λ e. not (severed N (c ∖ 2 ^ e))) (members 64 c)

unfoldable pub mincut_test : Network → ℕ → Bool
mincut_test N c = elim (cut_test N c) [ true ↦ all_needed N c | false ↦ false ]

abbrev pub Settled : Bool → ℕ → ℕ → Type 0
Settled true c d = c ⊆ d
Settled false c d = d ⊆ c
