-- The numbers lent as arrays, one for each window, as the code takes them.
-- Assumes nothing.
--
--   pairs l          the arrays of opening windows
--   triples l        those of works windows
use mathlib.Core.Bool.{Bool, true, false, cond, ◌&&◌, ◌||◌}
use mathlib.Core.List.{List, [], ◌∷◌}
use mathlib.Core.Path.{◌≡◌, refl, ap, ◌∙◌}
use Prim.Native.Nat.{ℕ, zero, suc, ◌+◌, ◌-◌, ◌*◌, ◌/◌, ◌%◌, ◌^◌, min, ◌≤◌, ◌<◌}
use native.Mathlib.Omega.{arith}
use borrow.Author.Tests.{ltb-true, ltb-false}
use lib.Dec.{ltb}
use lib.ListN.{length, get_or, drop}
use Rattle.std.specs.Simd.{first_chunks}
use Rattle.std.specs.List.{list_any, fold}
use Rattle.std.proofs.lemmas.Bool.Decides.{nat_tests}
use Rattle.windows.specs.Windows.{covers, is_open}
use Rattle.windows.specs.Times.{times_of, sooner, nearer, soonest}

abbrev pub pairs : List ℕ → List (List ℕ)
pairs l = first_chunks 2 (length l / 2) l

abbrev pub triples : List ℕ → List (List ℕ)
triples l = first_chunks 3 (length l / 3) l

pairs-cons : (s e : ℕ) (later : List ℕ) → pairs (s ∷ e ∷ later) ≡ (s ∷ e ∷ []) ∷ pairs later
pairs-cons s e later =
    let one : length (s ∷ e ∷ later) / 2 ≡ suc (length later / 2) = omega arith in
    ap (λ k. first_chunks 2 k (s ∷ e ∷ later)) one

triples-cons : (s e k : ℕ) (later : List ℕ) → triples (s ∷ e ∷ k ∷ later) ≡ (s ∷ e ∷ k ∷ []) ∷ triples later
triples-cons s e k later =
    let one : length (s ∷ e ∷ k ∷ later) / 3 ≡ suc (length later / 3) = omega arith in
    ap (λ j. first_chunks 3 j (s ∷ e ∷ k ∷ later)) one

-- From the array at i on there are its numbers, and those of the later ones.
pub pair-front : (l : List ℕ) {w : List (List ℕ)} → w ≡ pairs l → (i : ℕ) → i < length w
    → drop (2 * i) l ≡ get_or (get_or w i []) 0 0 ∷ get_or (get_or w i []) 1 0 ∷ drop (2 * (i + 1)) l
pair-front l {w} e i h = rw e (go l i (rw e at h))
  where
    go : (l : List ℕ) (i : ℕ) → i < length (pairs l)
        → drop (2 * i) l ≡ get_or (get_or (pairs l) i []) 0 0 ∷ get_or (get_or (pairs l) i []) 1 0 ∷ drop (2 * (i + 1)) l
    go [] i h = absurd (omega arith)
    go (s ∷ []) i h = absurd (omega arith)
    go (s ∷ e ∷ later) zero h = rw (pairs-cons s e later) refl
    go (s ∷ e ∷ later) (suc i) h =
        let here : i < length (pairs later) = let all = rw (pairs-cons s e later) at h in omega (arith, all) in
        let past : 2 * suc i ≡ suc (suc (2 * i)) = omega arith in
        let past' : 2 * (suc i + 1) ≡ suc (suc (2 * (i + 1))) = omega arith in
        rw (pairs-cons s e later, past, past') (go later i here)

pub triple-front : (l : List ℕ) {w : List (List ℕ)} → w ≡ triples l → (i : ℕ) → i < length w
    → drop (3 * i) l
    ≡ get_or (get_or w i []) 0 0 ∷ get_or (get_or w i []) 1 0 ∷ get_or (get_or w i []) 2 0 ∷ drop (3 * (i + 1)) l
triple-front l {w} e i h = rw e (go l i (rw e at h))
  where
    go : (l : List ℕ) (i : ℕ) → i < length (triples l)
        → drop (3 * i) l
        ≡ get_or (get_or (triples l) i []) 0 0 ∷ get_or (get_or (triples l) i []) 1 0 ∷ get_or (get_or (triples l) i []) 2 0
        ∷ drop (3 * (i + 1)) l
    go [] i h = absurd (omega arith)
    go (s ∷ []) i h = absurd (omega arith)
    go (s ∷ e ∷ []) i h = absurd (omega arith)
    go (s ∷ e ∷ k ∷ later) zero h = rw (triples-cons s e k later) refl
    go (s ∷ e ∷ k ∷ later) (suc i) h =
        let here : i < length (triples later) = let all = rw (triples-cons s e k later) at h in omega (arith, all) in
        let past : 3 * suc i ≡ suc (suc (suc (3 * i))) = omega arith in
        let past' : 3 * (suc i + 1) ≡ suc (suc (suc (3 * (i + 1)))) = omega arith in
        rw (triples-cons s e k later, past, past') (go later i here)

module _ (m : ℕ) where
  -- Some pair of opening windows holds the minute exactly if it is open.
  pub open-pairs : (o : List ℕ) → list_any (λ w. covers (get_or w 0 0) (get_or w 1 0) m) (pairs o) ≡ is_open o m
  unfolding is_open
  open-pairs [] = refl
  open-pairs (s ∷ []) = refl
  open-pairs (s ∷ e ∷ later) =
      ap (list_any (λ w. covers (get_or w 0 0) (get_or w 1 0) m)) (pairs-cons s e later)
      ∙ ap (λ b. covers s e m || b) (open-pairs later)

  -- The soonest time, gathered from left to right; of works windows from the first two numbers of each.
  pub soonest-fold : (n : ℕ) (l : List ℕ) → fold (λ n t. sooner m t n) n l ≡ soonest m n l
  unfolding soonest
  soonest-fold n [] = refl
  soonest-fold n (t ∷ l) = soonest-fold (sooner m t n) l

  pub booked-fold : (n : ℕ) (w : List ℕ)
      → fold (λ n b. sooner m (get_or b 1 0) (sooner m (get_or b 0 0) n)) n (triples w) ≡ soonest m n (times_of w)
  unfolding soonest times_of
  booked-fold n [] = refl
  booked-fold n (s ∷ []) = refl
  booked-fold n (s ∷ e ∷ []) = refl
  booked-fold n (s ∷ e ∷ k ∷ later) =
      ap (fold (λ n b. sooner m (get_or b 1 0) (sooner m (get_or b 0 0) n)) n) (triples-cons s e k later)
      ∙ booked-fold (sooner m e (sooner m s n)) later

  -- The minutes left until a time tell which of the two is the sooner,
  nearer-sooner : (t d : ℕ) → t < 2 ^ 16 → m + 1 + d < 2 ^ 16 → m + 1 + nearer m t d ≡ sooner m t (m + 1 + d)
  unfolding nearer sooner
  nearer-sooner t d h k = go (ltb m t) refl
    where
      go : (b : Bool) → ltb m t ≡ b → m + 1 + min d ((t + (2 ^ 16 - 1 - m)) % 2 ^ 16) ≡ cond (b && ltb t (m + 1 + d)) t (m + 1 + d)
      go true e = let past = ltb-true m t e in grind (arith, nat_tests)
      go false e = let before = ltb-false m t e in omega (arith, before)

  -- and are no more than before.
  nearer-within : (t d : ℕ) → nearer m t d ≤ d
  unfolding nearer
  nearer-within t d = omega arith

  pub nearest-within : (d : ℕ) (l : List ℕ) → fold (λ d t. nearer m t d) d l ≤ d
  nearest-within d [] = omega arith
  nearest-within d (t ∷ l) =
      let first = nearer-within t d in
      let rest = nearest-within (nearer m t d) l in
      omega (arith, first, rest)

  pub booked-within : (d : ℕ) (w : List (List ℕ)) → fold (λ d b. nearer m (get_or b 1 0) (nearer m (get_or b 0 0) d)) d w ≤ d
  booked-within d [] = omega arith
  booked-within d (b ∷ w) =
      let one = nearer-within (get_or b 0 0) d in
      let two = nearer-within (get_or b 1 0) (nearer m (get_or b 0 0) d) in
      let rest = booked-within (nearer m (get_or b 1 0) (nearer m (get_or b 0 0) d)) w in
      omega (arith, one, two, rest)

  -- So the fewest minutes left, gathered likewise, tell the soonest time.
  pub nearest-fold : (d : ℕ) (l : List ℕ) → ((i : ℕ) → get_or l i 0 < 2 ^ 16) → m + 1 + d < 2 ^ 16
      → m + 1 + fold (λ d t. nearer m t d) d l ≡ soonest m (m + 1 + d) l
  unfolding soonest
  nearest-fold d [] h k = refl
  nearest-fold d (t ∷ l) h k =
      let less = nearer-within t d in
      nearest-fold (nearer m t d) l (λ i. h (suc i)) (omega (arith, less, k)) ∙ ap (λ n. soonest m n l) (nearer-sooner t d (h 0) k)

  pub nearest-booked : (d : ℕ) (w : List ℕ) → ((i : ℕ) → get_or w i 0 < 2 ^ 16) → m + 1 + d < 2 ^ 16
      → m + 1 + fold (λ d b. nearer m (get_or b 1 0) (nearer m (get_or b 0 0) d)) d (triples w) ≡ soonest m (m + 1 + d) (times_of w)
  unfolding soonest times_of
  nearest-booked d [] h k = refl
  nearest-booked d (s ∷ []) h k = refl
  nearest-booked d (s ∷ e ∷ []) h k = refl
  nearest-booked d (s ∷ e ∷ j ∷ later) h k =
      let one = nearer-within s d in
      let k' : m + 1 + nearer m s d < 2 ^ 16 = omega (arith, one, k) in
      let two = nearer-within e (nearer m s d) in
      ap (λ l. m + 1 + fold (λ d b. nearer m (get_or b 1 0) (nearer m (get_or b 0 0) d)) d l) (triples-cons s e j later)
      ∙ nearest-booked (nearer m e (nearer m s d)) later (λ i. h (suc (suc (suc i)))) (omega (arith, two, k'))
      ∙ ap (λ n. soonest m n (times_of later)) (nearer-sooner e (nearer m s d) (h 1) k' ∙ ap (sooner m e) (nearer-sooner s d (h 0) k))

  -- At the week's end, and past it, no time is sooner.
  pub soonest-past : (n : ℕ) (l : List ℕ) → n ≤ m → soonest m n l ≡ n
  unfolding soonest sooner
  soonest-past n [] h = refl
  soonest-past n (t ∷ l) h = go (soonest-past n l h) (ltb m t) (ltb t n) refl refl
    where
      go : soonest m n l ≡ n → (a b : Bool) → ltb m t ≡ a → ltb t n ≡ b → soonest m (cond (a && b) t n) l ≡ n
      go rest true true e f = let past = ltb-true m t e in let less = ltb-true t n f in absurd (omega (arith, past, less, h))
      go rest true false e f = rest
      go rest false b e f = rest
