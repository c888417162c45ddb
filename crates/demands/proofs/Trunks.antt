-- Trunks: a row's width counts the pair that their cables join once, and where there is none, cables singly.
-- Assumes, for a plan's own list, what the code's types say of the record.
use mathlib.Core.List.Memᴰ
use mathlib.Core.List.{List, [], ◌∷◌, map, Memᴰ}
use mathlib.Core.Path.{◌≡◌, refl, sym, ap, ◌∙◌}
use Prim.Native.Nat.{ℕ, ◌<◌}
use native.Mathlib.Decide.{ℕ_discrete}
use lib.ListN.{length, take, drop, replicate}
use lib.Seq.{take_at}
use Rattle.sequences.specs.Counts.{sum, tally}
use Rattle.sequences.specs.Distinct.{Distinct}
use Rattle.sequences.proofs.Distinct.{distinct-length}
use Rattle.bitset.specs.Members.{◌∈◌, size}
use Rattle.bitset.proofs.Sets.{not-zero}
use Rattle.network.specs.declared.Network.{Network}
use Rattle.network.specs.Record.{fault_of, rows_fault, Stored}
use Rattle.network.specs.Rules.{Rules, RowsPresent}
use Rattle.network.specs.Ends.{ends_of}
use Rattle.network.proofs.Ends.{same_ends}
use Rattle.network.proofs.Refusals.{refused_none}
use Rattle.network.proofs.Rules.{fault-rules}
use Rattle.network.proofs.Sets.{rows-record, rows_none}
use Rattle.graph.specs.Reach.{Bounded}
use Rattle.widths.specs.Widths.{pairs_of, width_of, width_table, widths_of}
use Rattle.widths.proofs.Pairs.{in_pairs, pairs-distinct, width-le, leads-width, width-plain, width-pairs, width-again}
use Rattle.widths.proofs.WidthTable.{table_none, table-sum, table-by}
use Rattle.widths.proofs.Answers.{widths-refused, widths-given}
use Rattle.listing.specs.List.{mincuts, listed_by, cut_rows_after}
use Rattle.listing.proofs.Mincuts.{mincuts-lists}
use Rattle.listing.proofs.Refusals.{refusal-none}
use Rattle.listing.proofs.Call.{answer-refusal, complete-call}
use Rattle.demands.specs.Trunks.{Untrunked, TrunksOnce}

-- ---- a row

-- A row whose pairs are those of a list without repeats is as wide as the list is long.
width-list : (N : Network) (c : ℕ) (l : List ℕ) → Distinct l → ((p : ℕ) → Memᴰ p (pairs_of N c) → Memᴰ p l)
    → ((p : ℕ) → Memᴰ p l → Memᴰ p (pairs_of N c)) → width_of N c ≡ length l
unfolding width_of
width-list N c l d within found = distinct-length (pairs_of N c) l (pairs-distinct N c) d (λ p. (within p, found p))

none : (N : Network) → width_of N 0 ≡ 0
unfolding Distinct
none N = width-list N 0 [] tt (λ p m. let (k, there, h, e) = (in_pairs N 0 p).0 m in absurd (not-zero k there)) (λ p m. absurd (Memᴰ.not-nil m))

one-pair : (N : Network) (c k : ℕ) → k ∈ c → k < 64 → ((j : ℕ) → j ∈ c → ends_of N j ≡ ends_of N k) → width_of N c ≡ 1
unfolding Distinct
one-pair N c k there h same =
    width-list N c (ends_of N k ∷ []) (λ m. Memᴰ.not-nil m, tt)
    (λ p m. let (j, i, l, e) = (in_pairs N c p).0 m in Memᴰ.head (sym e ∙ same j i))
    (λ p m. (in_pairs N c p).1 (k, there, h, sym (Memᴰ.eq_of_singleton m)))

-- ---- a table

whole : (N : Network) (cuts : List ℕ) → (widths_of N cuts).refusal ≡ 0 → sum (widths_of N cuts).counts ≡ length cuts
unfolding widths_of
whole N cuts ok = ap sum (refused_none (width_table N cuts) (replicate 65 0) ok) ∙ table-sum N cuts

-- The mincuts hold edges present.
pub mincuts-present : (N : Network) → Bounded N → fault_of N ≡ 0 → rows_fault N (mincuts N) ≡ 0
mincuts-present N B ok = rows_none N (mincuts N) ok (λ c m. (((mincuts-lists N B).members c).0 m).cut.present)

-- The rows that the list call left are these.
listed : (N : Network) → Stored N → (cuts sides : List ℕ) → (listed_by N cuts sides).refusal ≡ 0
    → let rows = take (listed_by N cuts sides).count (cut_rows_after N cuts sides) in
    ((widths_of N rows).refusal ≡ 0) × (sum (widths_of N rows).counts ≡ (listed_by N cuts sides).count)
unfolding widths_of
listed N stored cuts sides none =
    let (S, left) = complete-call N stored cuts sides none in
    let ok : fault_of N ≡ 0 = ((refusal-none N cuts sides).0 (sym (answer-refusal N cuts sides) ∙ none)).0 in
    let given = mincuts-present N S.bounded ok in
    rw (← left.0, ← left.1, take_at (mincuts N) (drop (length (mincuts N)) cuts) (length (mincuts N)) refl)
    (given, whole N (mincuts N) given)

empty : (N : Network) → widths_of N [] ≡ record { refusal = fault_of N; counts = replicate 65 0 }
empty N = go (ℕ_discrete (fault_of N) 0)
  where
    go : Dec (fault_of N ≡ 0) → widths_of N [] ≡ record { refusal = fault_of N; counts = replicate 65 0 }
    go (no f) = sym (widths-refused N [] (fault_of N) (sym (rows-record N [] (fault_of N) refl f)) f)
    go (yes ok) = rw ok (sym (widths-given N [] 0 (replicate 65 0) (sym (rows_none N [] ok (λ c m. absurd (Memᴰ.not-nil m)))) refl (table_none N)))

untrunked : (N : Network) (cuts : List ℕ) → Rules N → Untrunked N → RowsPresent N cuts
    → widths_of N cuts ≡ record { refusal = 0; counts = tally 65 (map (size 64) cuts) }
untrunked N cuts rules single within =
    let plain : width_table N cuts ≡ tally 65 (map (size 64) cuts) = table-by N (size 64) cuts (λ c i.
    width-plain N c (λ j k m n. single j k (within c i j m) (within c i k n))) in
    sym (widths-given N cuts 0 _ (sym (rows_none N cuts ((fault-rules N).1 rules) within)) refl (sym plain))

pub trunks-once : TrunksOnce
trunks-once = record {
  pairs = in_pairs;
  each-once = pairs-distinct;
  either_end = same_ends;
  by-pairs = λ N. width-pairs N N;
  again = width-again;
  lowest = λ N c l leads. sym (leads-width N c l leads);
  most = width-le;
  none = none;
  one-pair = one-pair;
  whole = whole;
  listed = listed;
  empty = empty;
  untrunked = untrunked;
}
