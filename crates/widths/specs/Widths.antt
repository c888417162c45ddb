-- A row's width is the number of different pairs of nodes that its edges join; the table counts the rows of each width.
-- To believe.
--
--   pairs_of N c         the different pairs of nodes that the members of c join, each once
--                        [computed: in_pairs, pairs-distinct (widths/proofs/Pairs)]
--   width_of N c         how many these are: the width of a row c
--   width_table N cuts   for each width from 0 to 64, how many of the rows `cuts` have it
--   Widths               a call's answer as numbers: the refusal, 0 if there is none, beside the table, all 0 on refusal
--   counted a            the answer a of the call as such numbers
--   widths_of N cuts     the call's answer: the refusal beside the table, all 0 on refusal
--   WidthsMean N cuts r table    what the refusal r and the table mean for the rows `cuts`
use Rattle.std.specs.Prelude.{List, map, Result, ◌↔◌, ◌≡◌, ℕ, ◌<◌, eqb, length, get_or, replicate}
use Rattle.sequences.specs.Counts.{sum, count_if, tally}
use Rattle.sequences.specs.Distinct.{once}
use Rattle.bitset.specs.Members.{members}
use Rattle.network.specs.declared.Network.{Network}
use Rattle.network.specs.declared.refusal.Refusal.{Refusal}
use Rattle.network.specs.Refusals.{refusal_of, answer_of}
use Rattle.network.specs.Record.{unless_refused, rows_fault, Stored}
use Rattle.network.specs.Rules.{Rules, RowsPresent}
use Rattle.network.specs.Ends.{ends_of}

unfoldable pub pairs_of : Network → ℕ → List ℕ
pairs_of N c = once (map (ends_of N) (members 64 c))

unfoldable pub width_of : Network → ℕ → ℕ
width_of N c = length (pairs_of N c)

unfoldable pub width_table : Network → List ℕ → List ℕ
width_table N cuts = tally 65 (map (width_of N) cuts)

pub record Widths : Type 0 where
  pub refusal : ℕ
  pub counts : List ℕ

abbrev pub counted : Result (List ℕ) Refusal → Widths
counted a = record { refusal = refusal_of a; counts = answer_of (replicate 65 0) a }

unfoldable pub widths_of : Network → List ℕ → Widths
widths_of N cuts = let r = rows_fault N cuts in record { refusal = r; counts = unless_refused r (width_table N cuts) (replicate 65 0) }

pub record WidthsMean (N : Network) (cuts : List ℕ) (r : ℕ) (table : List ℕ) : Type 0 where
  pub stored : Stored N
  -- Nothing is refused exactly if the record keeps the rules and the edges of the rows are present.
  pub kept : (r ≡ 0) ↔ (Rules N × RowsPresent N cuts)
  -- There are 65 counts.
  pub size : length table ≡ 65
  pub counted : r ≡ 0 → (w : ℕ) → w < 65 → get_or table w 0 ≡ count_if (λ c. eqb w (width_of N c)) cuts
  pub whole : r ≡ 0 → sum table ≡ length cuts
  pub refused : (r ≡ 0 → ⊥) → table ≡ replicate 65 0
