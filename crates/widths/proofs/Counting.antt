-- Rows that are counted, one after the other: their edges together, and how many there are of each width.
-- Assumes nothing.
use mathlib.Core.Bool.{false}
use mathlib.Core.List.Memᴰ
use mathlib.Core.List.{List, [], ◌∷◌, map, map-append, ◌++◌, Memᴰ}
use mathlib.Core.Logic.{◌⊎◌, inl, inr, ◌↔◌}
use mathlib.Core.Path.{◌≡◌, refl, sym, ap, ◌∙◌}
use Prim.Native.Nat.{ℕ, zero, suc, ◌+◌, ◌-◌, ◌*◌, ◌^◌, ◌/◌, ◌≤◌, ◌<◌}
use native.Mathlib.Decide.{ℕ_discrete, dec_lt}
use native.Mathlib.Numerals.{add-one}
use native.Mathlib.Omega.{arith}
use lib.ListN.{length, length-set, get_or, set, take, drop}
use Rattle.std.specs.Prelude.{Some, slice_get}
use Rattle.std.specs.Simd.{first_chunks}
use Rattle.std.proofs.lemmas.List.{get_or-take, get_or-drop}
use Rattle.std.proofs.lemmas.Option.{slice_get_within, get_or_from_slice_get}
use Rattle.std.proofs.Common.{length-drop}
use lib.Seq.{take-suc, get_or-set_same, get_or-set_other, set_out}
use Rattle.sequences.specs.Counts.{tally}
use Rattle.sequences.proofs.Tally.{tally-le, tally-next}
use Rattle.bitset.specs.Members.{has, ◌∈◌, ◌⊆◌, size}
use Rattle.bitset.proofs.Size.{size-le}
use Rattle.network.specs.declared.Network.{Network}
use Rattle.network.specs.Record.{present}
use Rattle.network.specs.Rules.{RowsPresent}
use Rattle.twins.specs.Twins.{LowerTwins, Alone}
use Rattle.widths.specs.Counting.{EdgesOf, raised}
use Rattle.widths.specs.Widths.{width_of, width_table}
use Rattle.widths.proofs.Leading.{alone-width}
use Rattle.widths.proofs.WidthTable.{table-by}

-- One row more.
row_next : (rows : List ℕ) (i : ℕ) → i < length rows → take (i + 1) rows ≡ take i rows ++ get_or rows i 0 ∷ []
row_next rows i h = ap (λ n. take n rows) (add-one i) ∙ take-suc rows i 0 h

-- The rows by two: each pair holds the rows of its two places.
pub pair-at : (k i j p : ℕ) (rows : List ℕ) → i < k → j < 2 → p ≡ 2 * i + j → get_or (get_or (first_chunks 2 k rows) i []) j 0 ≡ get_or rows p 0
pair-at zero i j p rows h l e = absurd (omega arith)
pair-at (suc k) zero j p rows h l e =
    let place : j ≡ p = omega arith in
    get_or-take 2 rows j 0 l ∙ ap (λ n. get_or rows n 0) place
pair-at (suc k) (suc i) j p rows h l e =
    let place : 2 + (p - 2) ≡ p = omega arith in
    pair-at k i j (p - 2) (drop 2 rows) (omega arith) l (omega arith) ∙ get_or-drop 2 rows (p - 2) 0 ∙ ap (λ n. get_or rows n 0) place

-- What they leave over is the last row, if there is one.
pub last-row : (rows rest : List ℕ) (row i : ℕ) → i ≡ length rows / 2 → rest ≡ drop (length rows / 2 * 2) rows → Some row ≡ slice_get rest 0
    → (row ≡ get_or rows (2 * i) 0) × (2 * i + 1 ≡ length rows)
last-row rows rest row i half e first =
    let some : 0 < length rest = slice_get_within rest 0 row (sym first) in
    let over : length rest ≡ length rows - length rows / 2 * 2 = rw e (length-drop (length rows / 2 * 2) rows) in
    let place : length rows / 2 * 2 + 0 ≡ 2 * i = omega arith in (
      sym (get_or_from_slice_get rest 0 row 0 (sym first)) ∙ rw e (get_or-drop (length rows / 2 * 2) rows 0 0) ∙ ap (λ n. get_or rows n 0) place,
      omega arith,
    )

-- ---- edges together

-- Of no rows there are none.
pub edges_of-none : (edges : ℕ) → ((k : ℕ) → has edges k ≡ false) → EdgesOf [] edges
edges_of-none edges none k = (λ m. absurd (rw (none k) at m), λ (c, i, m). absurd (Memᴰ.not-nil i))

-- The edges of one row more.
pub edges_of-next : (rows : List ℕ) (i edges more : ℕ) → i < length rows → EdgesOf (take i rows) edges
    → ((k : ℕ) → (k ∈ more) ↔ ((k ∈ edges) ⊎ (k ∈ get_or rows i 0))) → EdgesOf (take (i + 1) rows) more
edges_of-next rows i edges more h t adds k = rw (row_next rows i h) (
  λ m. elim ((adds k).0 m) [
    | inl q ↦ let (c, n, e) = (t k).0 q in (c, Memᴰ.append_left (get_or rows i 0 ∷ []) n, e)
    | inr q ↦ (get_or rows i 0, Memᴰ.append_right (take i rows) (Memᴰ.head refl), q)
  ],
  λ (c, n, e). (adds k).1 (elim (Memᴰ.append_cases (take i rows) n) [
    | inl q ↦ inl ((t k).1 (c, q, e))
    | inr q ↦ inr (rw (Memᴰ.eq_of_singleton q) at e)
  ]),
)

-- They lie inside a set exactly if each row does.
pub edges_of-within : (rows : List ℕ) (edges s : ℕ) → EdgesOf rows edges → (edges ⊆ s) ↔ ((c : ℕ) → Memᴰ c rows → c ⊆ s)
edges_of-within rows edges s t = (
  λ within c m k q. within k ((t k).1 (c, m, q)),
  λ each k m. let (c, i, q) = (t k).0 m in each c i k q,
)

-- ---- counts

-- To raise the count of one width and then that of another, or of the same, is to store what the second was, raised by one, or by two.
pub raised-two : (counts : List ℕ) (one next v : ℕ) → (one ≡ next → v ≡ get_or counts next 0 + 2) → ((one ≡ next → ⊥) → v ≡ get_or counts next 0 + 1)
    → set (raised counts one) next v ≡ raised (raised counts one) next
raised-two counts one next v twice apart = go (ℕ_discrete one next) (dec_lt next (length counts))
  where
    go : Dec (one ≡ next) → Dec (next < length counts) → set (raised counts one) next v ≡ raised (raised counts one) next
    go (no d) h =
        let same : get_or (raised counts one) next 0 ≡ get_or counts next 0 = get_or-set_other counts one next (get_or counts one 0 + 1) 0 (λ e. d (sym e)) in
        let last : v ≡ get_or (raised counts one) next 0 + 1 = omega (arith, apart d, same) in
        ap (set (raised counts one) next) last
    go (yes e) (yes h) =
        let same : get_or (raised counts one) next 0 ≡ get_or counts next 0 + 1 = rw e (get_or-set_same counts next (get_or counts next 0 + 1) 0 h) in
        let last : v ≡ get_or (raised counts one) next 0 + 1 = omega (arith, twice e, same) in
        ap (set (raised counts one) next) last
    go (yes e) (no past) =
        let out : length (raised counts one) ≤ next = omega (arith, length-set counts one (get_or counts one 0 + 1)) in
        set_out (raised counts one) next v out ∙ sym (set_out (raised counts one) next (get_or (raised counts one) next 0 + 1) out)

-- A number of edges has a count.
pub size-lt : (s : ℕ) {w : ℕ} → w ≡ size 64 s → w < 65
size-lt s e = omega (arith, size-le 64 s)

-- No count is above the number of rows, so that it can be raised.
pub count-lt : (counts l : List ℕ) (w more : ℕ) → counts ≡ tally 65 l → length l + more < 2 ^ 64 → get_or counts w 0 + more < 2 ^ 64
count-lt counts l w more t room = let most : get_or counts w 0 ≤ length l = rw t (tally-le 65 l w) in omega (arith, most)

-- ---- rows counted by a number that each has

-- The numbers of the rows passed, and that of one row more.
pub map_next : (f : ℕ → ℕ) (rows : List ℕ) (i : ℕ) → i < length rows → {l : List ℕ} {v : ℕ} → l ≡ map f (take i rows) → v ≡ f (get_or rows i 0)
    → l ++ v ∷ [] ≡ map f (take (i + 1) rows)
map_next f rows i h e w = rw (e, w, row_next rows i h, map-append f (take i rows) (get_or rows i 0 ∷ []))

-- To count it is to raise the count of its number.
pub tally-row : (f : ℕ → ℕ) (rows counts : List ℕ) (i v : ℕ) → i < length rows → v ≡ f (get_or rows i 0) → v < 65
    → counts ≡ tally 65 (map f (take i rows)) → raised counts v ≡ tally 65 (map f (take (i + 1) rows))
tally-row f rows counts i v h e small t = tally-next 65 (map f (take i rows)) v small t ∙ ap (tally 65) (map_next f rows i h refl e)

-- Rows counted by their widths make the table.
pub table_of : (N : Network) (rows : List ℕ) {counts l : List ℕ} → counts ≡ tally 65 l → l ≡ map (width_of N) rows → counts ≡ width_table N rows
unfolding width_table
table_of N rows t e = t ∙ ap (tally 65) e

-- So do rows counted by their edges, where each edge present is alone.
pub table-plain : (N : Network) (lower : List ℕ) (alone : ℕ) → LowerTwins N lower → Alone N lower alone → present N ⊆ alone → (rows : List ℕ)
    → RowsPresent N rows → tally 65 (map (size 64) rows) ≡ width_table N rows
table-plain N lower alone twins single all rows inside =
    sym (table-by N (size 64) rows (λ c m. sym (alone-width N lower alone twins single c (λ k i. all k (inside c m k i)))))
