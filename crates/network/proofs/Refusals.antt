-- The laws of `when`, `then` and `first_fault`, by which the rules are put together, and of `unless_refused`.
-- Assumes nothing.
use mathlib.Core.Bool.{Bool, true, false, ◌||◌, true≢false}
use mathlib.Core.Path.{◌≡◌, refl, sym, ap, ◌∙◌}
use mathlib.Core.List.{List, [], ◌∷◌}
use mathlib.Core.Logic.{inl, inr}
use Prim.Native.Nat.{ℕ, zero, suc, ◌+◌, ◌-◌, ◌≤◌, ◌<◌}
use native.Mathlib.Decide.{ℕ_discrete}
use native.Mathlib.Omega.{arith}
use borrow.Author.Tests.{ltb-false, leb-false, eqb-false}
use lib.Dec.{T, leb, ltb, eqb}
use Rattle.sequences.specs.Words.{range, every}
use Rattle.sequences.proofs.Tests.{T-or, T-then, T-eqb}
use Rattle.std.specs.Prelude.{Result, Ok, Err}
use Rattle.std.specs.Result.{IsErrAnd}
use Rattle.network.specs.declared.refusal.Refusal.{Refusal}
use Rattle.network.specs.declared.refusal.Refusal.TheVariants.{Truncated, UnfitCommand, TrailingByte, BadNodeCount, TerminalOutside, SameTerminals, EdgeNumberTooHigh, EdgeNumberNotRising, EndOutside, BadLength, BadEvent, NoSuchEdge, TooManyWindows, BadWindow, BadRooms, TooManySteps, RowsDiffer, TooManyCuts, AbsentEdgeNotZero, EdgeNotPresent, BufferTooShort, TooManyEvents, WorkTooShort, NotTrimmed}
use Rattle.network.specs.Refusals.{number_of, refusal_of}
use Rattle.network.specs.Record.{◌when◌, ◌then◌, first_fault, among, unless_refused, size_fault, outside_fault, terminal_fault}

-- No refusal has the number 0.
pub number-pos : (r : Refusal) → 0 < number_of r
number-pos Truncated = omega arith
number-pos UnfitCommand = omega arith
number-pos TrailingByte = omega arith
number-pos BadNodeCount = omega arith
number-pos TerminalOutside = omega arith
number-pos SameTerminals = omega arith
number-pos EdgeNumberTooHigh = omega arith
number-pos EdgeNumberNotRising = omega arith
number-pos EndOutside = omega arith
number-pos BadLength = omega arith
number-pos BadEvent = omega arith
number-pos NoSuchEdge = omega arith
number-pos TooManyWindows = omega arith
number-pos BadWindow = omega arith
number-pos BadRooms = omega arith
number-pos TooManySteps = omega arith
number-pos RowsDiffer = omega arith
number-pos TooManyCuts = omega arith
number-pos AbsentEdgeNotZero = omega arith
number-pos EdgeNotPresent = omega arith
number-pos BufferTooShort = omega arith
number-pos TooManyEvents = omega arith
number-pos WorkTooShort = omega arith
number-pos NotTrimmed = omega arith

pub number-some : (r : Refusal) → number_of r ≡ 0 → ⊥
number-some r e = omega (arith, number-pos r, e)

-- Two rules in a row find no fault exactly if neither does.
pub then-none : (r s : ℕ) → (r then s) ≡ 0 → (r ≡ 0) × (s ≡ 0)
unfolding ◌then◌
then-none zero s e = (refl, e)
then-none (suc r) s e = absurd (let bad : suc r ≡ 0 = e in omega arith)

pub none_then : {r : ℕ} (s : ℕ) → r ≡ 0 → (r then s) ≡ s
unfolding ◌then◌
none_then s e = ap (λ r. r then s) e

-- The first fault is the answer.
pub some_then : (r s : ℕ) → 0 < r → (r then s) ≡ r
unfolding ◌then◌
some_then zero s p = absurd (omega arith)
some_then (suc r) s p = refl

-- A refusal that is the answer of the first of two rules is that of both in a row.
pub refused_then : (r : Refusal) {s : ℕ} (t : ℕ) → number_of r ≡ s → number_of r ≡ (s then t)
refused_then r {s} t e = e ∙ sym (some_then s t (omega (arith, e, number-pos r)))

-- A refusal that is passed on keeps its number.
pub passed-on : {A : Type 0} (a : Result A Refusal) (r : Refusal) → IsErrAnd a (λ e. e ≡ r) → refusal_of a ≡ number_of r
passed-on (Ok x) r h = absurd h
passed-on (Err e) r h = ap number_of h

-- Where the later of two rules gives way to one that answers otherwise only where k was answered, the two do so only where they gave k.
pub then-kept : {a b : ℕ} (k r : ℕ) → ((a ≡ k → ⊥) → b ≡ a) → ((r then a) ≡ k → ⊥) → (r then b) ≡ (r then a)
unfolding ◌then◌
then-kept k zero same f = same f
then-kept k (suc r) same f = refl

-- A rule finds no fault exactly if it does not apply.
pub when-none : (r : ℕ) (b : Bool) → 0 < r → (r when b) ≡ 0 → b ≡ false
unfolding ◌when◌
when-none r true p e = absurd (let bad : r ≡ 0 = e in omega arith)
when-none r false p e = refl

pub none-when : (r : ℕ) {b : Bool} → b ≡ false → (r when b) ≡ 0
unfolding ◌when◌
none-when r e = ap (λ b. r when b) e

pub some-when : (r : ℕ) {b : Bool} → b ≡ true → (r when b) ≡ r
unfolding ◌when◌
some-when r e = ap (λ b. r when b) e

-- What neither of two rules gives, they do not give in a row.
pub then-other : (r : ℕ) {s k : ℕ} → (r ≡ k → ⊥) → (s ≡ k → ⊥) → (r then s) ≡ k → ⊥
unfolding ◌then◌
then-other zero p q e = q e
then-other (suc r) p q e = p e

-- A rule gives its own number or none.
pub when-other : (r : ℕ) (b : Bool) {k : ℕ} → (r ≡ k → ⊥) → 0 < k → (r when b) ≡ k → ⊥
unfolding ◌when◌
when-other r true p h e = p e
when-other r false p h e = omega (arith, e)

-- Without a refusal a call gives the one, with a refusal the other.
pub refused_none : {A : Type 0} {r : ℕ} (a b : A) → r ≡ 0 → unless_refused r a b ≡ a
refused_none a b e = ap (λ r. unless_refused r a b) e

pub refused-some : {A : Type 0} (r : ℕ) (a b : A) → (r ≡ 0 → ⊥) → unless_refused r a b ≡ b
refused-some zero a b d = absurd (d refl)
refused-some (suc r) a b d = refl

-- A disjunction that fails fails on both sides.
pub or-none : (a b : Bool) → (a || b) ≡ false → (a ≡ false) × (b ≡ false)
or-none true b e = absurd (true≢false e)
or-none false b e = (refl, e)

-- ---- a row of places

-- What has no fault at k, and none past it, has none from k on.
at-or-past : (f : ℕ → ℕ) (k j : ℕ) → f k ≡ 0 → (suc k ≤ j → f j ≡ 0) → k ≤ j → f j ≡ 0
at-or-past f k j z later h = go (ℕ_discrete j k)
  where
    go : Dec (j ≡ k) → f j ≡ 0
    go (yes p) = ap f p ∙ z
    go (no d) = later (omega arith)

-- The first fault of a row is none exactly if each place has none.
pub row-none : (f : ℕ → ℕ) (k n : ℕ) → first_fault f k n ≡ 0 → (j : ℕ) → k ≤ j → j < k + n → f j ≡ 0
unfolding range
row-none f k zero e j h l = absurd (omega arith)
row-none f k (suc n) e j h l =
    let parts = then-none (f k) (first_fault f (suc k) n) e in
    at-or-past f k j parts.0 (λ p. row-none f (suc k) n parts.1 j p (omega arith)) h

pub none_row : (f : ℕ → ℕ) (k n : ℕ) → ((j : ℕ) → k ≤ j → j < k + n → f j ≡ 0) → first_fault f k n ≡ 0
unfolding range
none_row f k zero z = refl
none_row f k (suc n) z = none_then _ (z k (omega arith) (omega arith)) ∙ none_row f (suc k) n (λ j h l. z j (omega arith) (omega arith))

-- Otherwise it is that of some place, and each before it has none.
pub row_first : (f : ℕ → ℕ) (k n : ℕ) → (first_fault f k n ≡ 0 → ⊥)
    → (i : ℕ) × (k ≤ i) × (i < k + n) × ((j : ℕ) → k ≤ j → j < i → f j ≡ 0) × (first_fault f k n ≡ f i)
unfolding range
row_first f k zero some = absurd (some refl)
row_first f k (suc n) some = go (row_first f (suc k) n) (ℕ_discrete (f k) 0)
  where
    go : ((first_fault f (suc k) n ≡ 0 → ⊥)
        → (i : ℕ) × (suc k ≤ i) × (i < suc k + n) × ((j : ℕ) → suc k ≤ j → j < i → f j ≡ 0) × (first_fault f (suc k) n ≡ f i))
        → Dec (f k ≡ 0)
        → (i : ℕ) × (k ≤ i) × (i < k + suc n) × ((j : ℕ) → k ≤ j → j < i → f j ≡ 0) × ((f k then first_fault f (suc k) n) ≡ f i)
    go later (no d) = (k, omega arith, omega arith, λ j h l. absurd (omega arith), some_then (f k) _ (omega arith))
    go later (yes z) =
        let on : (f k then first_fault f (suc k) n) ≡ first_fault f (suc k) n = none_then _ z in
        let (i, h, l, before, here) = later (λ e. some (on ∙ e)) in
        (i, omega arith, omega arith, λ j p q. at-or-past f k j z (λ r. before j r q) p, on ∙ here)

-- It is that of its first place, or else that of the later ones.
pub row_step : (f : ℕ → ℕ) (k n : ℕ) → k < n → first_fault f k (n - k) ≡ (f k then first_fault f (suc k) (n - suc k))
unfolding range
row_step f k n l = let more : n - k ≡ suc (n - suc k) = omega arith in ap (first_fault f k) more

-- ---- which numbers are given

-- No refusal is among all numbers.
among_none : (l : List ℕ) → T (among l 0)
unfolding among
among_none [] = tt
among_none (k ∷ l) = (T-or (eqb 0 k) (among l 0)).1 (inr (among_none l))

-- The first of two faults is among the numbers if both are.
pub then-among : (l : List ℕ) (r s : ℕ) → T (among l r) → T (among l s) → T (among l (r then s))
unfolding ◌then◌
then-among l zero s p q = q
then-among l (suc r) s p q = p

-- A rule's fault is among them if its number is.
pub when-among : (l : List ℕ) (r : ℕ) (b : Bool) → T (among l r) → T (among l (r when b))
unfolding ◌when◌
when-among l r true p = p
when-among l r false p = among_none l

-- What all numbers pass, a refusal among them passes.
pub among-every : (p : ℕ → Bool) (l : List ℕ) → T (every p l) → (r : ℕ) → 0 < r → T (among l r) → T (p r)
unfolding among every
among-every p [] t r h a = absurd (omega (arith, (T-eqb r 0).0 a))
among-every p (k ∷ l) t r h a =
    let both = (T-then (p k) (every p l)).0 t in
    elim ((T-or (eqb r k) (among l r)).0 a) [ inl e ↦ rw ((T-eqb r k).0 e) both.0 | inr c ↦ among-every p l both.1 r h c ]

-- The fault of two nodes that must be below the node count is among them if its number is.
pub outside-among : (l : List ℕ) (r n a b : ℕ) → T (among l r) → T (among l (outside_fault r n a b))
unfolding outside_fault
outside-among l r n a b p = when-among l r (leb n a || leb n b) p

-- So is that of the terminals.
pub terminals-among : (l : List ℕ) (n a b : ℕ) → T (among l 5) → T (among l 6) → T (among l (terminal_fault n a b))
terminals-among l n a b p q = then-among l (outside_fault 5 n a b) (6 when eqb a b) (outside-among l 5 n a b p) (when-among l 6 (eqb a b) q)

-- ---- what the rules say of the values that keep them

-- A size without a fault is 2 to the most.
pub size_none : (most n : ℕ) → size_fault most n ≡ 0 → (2 ≤ n) × (n ≤ most)
unfolding size_fault
size_none most n e =
    let q = or-none (ltb n 2) (ltb most n) (when-none 4 (ltb n 2 || ltb most n) (omega arith) e) in
    (ltb-false n 2 q.0, ltb-false most n q.1)

-- Two nodes without a fault are below the node count.
pub outside-none : (r n a b : ℕ) → 0 < r → outside_fault r n a b ≡ 0 → (a < n) × (b < n)
unfolding outside_fault
outside-none r n a b h e =
    let q = or-none (leb n a) (leb n b) (when-none r (leb n a || leb n b) h e) in
    (leb-false n a q.0, leb-false n b q.1)

-- Terminals without a fault are below the node count, and differ.
pub terminals-none : (n a b : ℕ) → terminal_fault n a b ≡ 0 → (a < n) × (b < n) × (a ≡ b → ⊥)
terminals-none n a b e =
    let p = then-none (outside_fault 5 n a b) (6 when eqb a b) e in
    let q = outside-none 5 n a b (omega arith) p.0 in
    (q.0, q.1, eqb-false a b (when-none 6 (eqb a b) (omega arith) p.1))
