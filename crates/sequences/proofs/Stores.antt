-- Lists stored into a list, one after the other or row by row.
-- Assumes nothing.
use mathlib.Core.Path.{◌≡◌, refl, sym}
use mathlib.Core.List.{List, [], ◌∷◌, ◌++◌}
use Prim.Native.Nat.{ℕ, suc, ◌+◌, ◌≤◌, ◌<◌}
use native.Mathlib.Nat.{add-zero, add-suc, suc-add}
use native.Mathlib.Numerals.{add-one}
use native.Mathlib.Omega.{arith}
use lib.ListN.{length, take, drop, set, get_or}
use lib.Seq.{sets, set_out, set_at, take-suc, drop-cons, append_snoc, length-take-le}
use Rattle.sequences.specs.Words.{onto}

-- To store a list and then another behind it is to store the two joined.
pub sets-append : (l : List ℕ) (i : ℕ) (u v : List ℕ) → sets (sets l i u) (i + length u) v ≡ sets l i (u ++ v)
sets-append l i [] v = rw (add-zero i)
sets-append l i (a ∷ u) v = rw (add-suc i (length u), ← suc-add i (length u)) (sets-append (set l i a) (suc i) u v)

-- Past the end nothing is stored.
pub sets-out : (k l : List ℕ) (i : ℕ) → length l ≤ i → sets l i k ≡ l
sets-out [] l i h = refl
sets-out (x ∷ k) l i h = rw (set_out l i x h) (sets-out k l (suc i) (omega arith))

-- Rows are stored one by one: after the first i of a list the next.
pub onto-next : (l lent : List ℕ) (i : ℕ) {now : List ℕ} → now ≡ onto (take i l) lent → i < length l → i < length lent
    → set now i (get_or l i 0) ≡ onto (take (i + 1) l) lent
onto-next l lent i e h k =
    let full : length (take i l) ≡ i = length-take-le i l (omega arith) in
    let more : length (take (suc i) l) ≡ suc i = length-take-le (suc i) l h in
    rw (e, add-one, more, full, drop-cons lent i 0 k, set_at (take i l) (get_or lent i 0) (drop (suc i) lent) (get_or l i 0) i full, take-suc l i 0 h)
    (sym (append_snoc (take i l) (get_or l i 0) (drop (suc i) lent)))
