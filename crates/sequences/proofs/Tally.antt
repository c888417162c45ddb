-- What a tally holds, one number after another: each count is how often its number stands in the list, and the counts sum to the length.
-- Assumes nothing.
use mathlib.Core.Path.{◌≡◌, refl, sym, ap, ◌∙◌}
use mathlib.Core.List.{List, [], ◌∷◌, ◌++◌, Memᴰ}
use Prim.Native.Nat.{ℕ, zero, suc, ◌+◌, ◌≤◌, ◌<◌, zero-le}
use native.Mathlib.Decide.{ℕ_discrete, dec_lt}
use native.Mathlib.Nat.{not-suc-le-zero, le_of_suc-le-suc}
use native.Mathlib.Omega.{arith}
use borrow.Author.Tests.{eq-eqb, ne_eqb}
use lib.Dec.{eqb, eqb-zero-suc, eqb-suc-zero, eqb-suc-suc}
use lib.ListN.{length, get_or, set, replicate, length-set, get_or-eq_default}
use lib.Seq.{ext_get_or, get_or-set_same, get_or-set_other}
use Rattle.sequences.specs.Counts.{sum, bit, count_if, tally}
use Rattle.sequences.specs.Words.{tabulate}
use Rattle.sequences.proofs.Counts.{count-nil, count-cons, count-append, count-le}
use Rattle.sequences.proofs.Places.{length-tabulate, get_or-tabulate}

-- ---- the counts

-- There are n counts.
pub length-tally : (n : ℕ) (l : List ℕ) → length (tally n l) ≡ n
unfolding tally
length-tally n l = length-tabulate n (λ w. count_if (eqb w) l)

-- The count at w is how often w stands in the list.
pub tally-at : (n : ℕ) (l : List ℕ) (w : ℕ) → w < n → get_or (tally n l) w 0 ≡ count_if (eqb w) l
unfolding tally
tally-at n l w h = get_or-tabulate n (λ v. count_if (eqb v) l) w h

-- No count is above the length.
pub tally-le : (n : ℕ) (l : List ℕ) (w : ℕ) → get_or (tally n l) w 0 ≤ length l
tally-le n l w = go (dec_lt w n)
  where
    go : Dec (w < n) → get_or (tally n l) w 0 ≤ length l
    go (yes h) = rw (tally-at n l w h) (count-le (eqb w) l)
    go (no past) = rw (get_or-eq_default (tally n l) 0 {n = w} (omega (arith, length-tally n l))) zero-le

-- Of the empty list every count is 0.
pub tally-none : (n : ℕ) → replicate n 0 ≡ tally n []
unfolding tally tabulate count_if
tally-none n = zeros n
  where
    zeros : (n : ℕ) → replicate n 0 ≡ tabulate n (λ k. 0)
    zeros zero = refl
    zeros (suc n) = ap (λ (l : List ℕ). 0 ∷ l) (zeros n)

-- One number more raises its count by one.
pub tally-next : (n : ℕ) (l : List ℕ) (v : ℕ) → v < n → {now : List ℕ} → now ≡ tally n l → set now v (get_or now v 0 + 1) ≡ tally n (l ++ v ∷ [])
tally-next n l v h e =
    rw e
    (ext_get_or 0 raised after
    (length-set before v (get_or before v 0 + 1) ∙ length-tally n l ∙ sym (length-tally n (l ++ v ∷ [])))
    (λ w k. at w (rw (length-set before v (get_or before v 0 + 1), length-tally n l) at k) (ℕ_discrete w v)))
  where
    before : List ℕ
    before = tally n l

    after : List ℕ
    after = tally n (l ++ v ∷ [])

    raised : List ℕ
    raised = set before v (get_or before v 0 + 1)

    counted : (w : ℕ) → w < n → get_or after w 0 ≡ get_or before w 0 + bit (eqb w v)
    counted w k =
        rw (tally-at n (l ++ v ∷ []) w k, tally-at n l w k, count-append (eqb w) l (v ∷ []), count-cons (eqb w) v [], count-nil (eqb w))
        (omega arith)

    at : (w : ℕ) → w < n → Dec (w ≡ v) → get_or raised w 0 ≡ get_or after w 0
    at w k (yes e) = rw (counted w k, e, get_or-set_same before v (get_or before v 0 + 1) 0 (rw (length-tally n l) h), eq-eqb v v refl)
    at w k (no differ) = rw (counted w k, get_or-set_other before v w (get_or before v 0 + 1) 0 differ, ne_eqb w v differ) (omega arith)

-- ---- their sum

-- Tables of equal entries have equal sums.
sum_same : (n : ℕ) (f g : ℕ → ℕ) → ((k : ℕ) → f k ≡ g k) → sum (tabulate n f) ≡ sum (tabulate n g)
unfolding tabulate sum
sum_same zero f g h = refl
sum_same (suc n) f g h = rw (h 0, sum_same n (λ k. f (suc k)) (λ k. g (suc k)) (λ k. h (suc k)))

-- A sum of sums is the sum of both.
sum-add : (n : ℕ) (f g : ℕ → ℕ) → sum (tabulate n (λ k. f k + g k)) ≡ sum (tabulate n f) + sum (tabulate n g)
unfolding tabulate sum
sum-add zero f g = refl
sum-add (suc n) f g = rw (sum-add n (λ k. f (suc k)) (λ k. g (suc k))) (omega arith)

-- A table of zeros sums to 0.
sum-zero : (n : ℕ) → sum (tabulate n (λ k. 0)) ≡ 0
unfolding tabulate sum
sum-zero zero = refl
sum-zero (suc n) = rw (sum-zero n)

-- A table with a single 1 sums to 1.
sum_one : (n v : ℕ) → v < n → sum (tabulate n (λ k. bit (eqb k v))) ≡ 1
unfolding tabulate sum
sum_one zero v h = absurd (not-suc-le-zero h)
sum_one (suc n) zero h = rw (sum_same n (λ k. bit (eqb (suc k) 0)) (λ k. 0) (λ k. ap bit (eqb-suc-zero k)), sum-zero n)
sum_one (suc n) (suc v) h =
    rw (eqb-zero-suc v, sum_same n (λ k. bit (eqb (suc k) (suc v))) (λ k. bit (eqb k v)) (λ k. ap bit (eqb-suc-suc k v)), sum_one n v (le_of_suc-le-suc h))

-- If all numbers of the list are below n, the counts sum to its length.
pub tally-sum : (n : ℕ) (l : List ℕ) → ((x : ℕ) → Memᴰ x l → x < n) → sum (tally n l) ≡ length l
unfolding tally
tally-sum n [] within = sum_same n (λ w. count_if (eqb w) []) (λ w. 0) (λ w. count-nil (eqb w)) ∙ sum-zero n
tally-sum n (x ∷ l) within =
    sum_same n (λ w. count_if (eqb w) (x ∷ l)) (λ w. bit (eqb w x) + count_if (eqb w) l) (λ w. count-cons (eqb w) x l)
    ∙ sum-add n (λ w. bit (eqb w x)) (λ w. count_if (eqb w) l)
    ∙ rw (sum_one n x (within x (Memᴰ.head refl)), tally-sum n l (λ y m. within y (Memᴰ.tail m))) (omega arith)
