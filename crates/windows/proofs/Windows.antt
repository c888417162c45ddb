-- Windows one by one, as the code takes them: what is out, and the faults.
-- Assumes nothing.
--
--   Gathered l m out i       before the window at i: what is gathered of the edges out in the minute m
--   WorksCase p w r  works windows and their fault r, where the edges p are present
use mathlib.Core.Bool.{Bool, true, false, not, ◌||◌}
use mathlib.Core.List.{List, [], ◌∷◌}
use mathlib.Core.Logic.{◌⊎◌, inl, inr, ◌↔◌}
use mathlib.Core.Path.{◌≡◌, refl, sym, ap, ◌∙◌}
use Prim.Native.Nat.{ℕ, zero, suc, ◌+◌, ◌*◌, ◌/◌, ◌^◌, ◌≤◌, ◌<◌}
use native.Mathlib.Decide.{ℕ_discrete}
use native.Mathlib.Omega.{arith}
use borrow.Author.Tests.{ltb-false, leb-false, le-ltb, lt-leb}
use denote.Floats.{passes, is_true}
use lib.Dec.{T, leb, ltb}
use lib.ListN.{length, get_or, drop, length-drop}
use lib.Seq.{drop-length}
use Rattle.bitset.specs.Members.{has, ◌∈◌, ◌⊆◌, add_if}
use Rattle.bitset.proofs.Sets.{not-zero, in-add_if, member-lt}
use Rattle.bitset.proofs.Subsets.{⊆-antisym}
use Rattle.network.specs.Record.{◌when◌, ◌then◌}
use Rattle.network.proofs.Refusals.{none_then, some_then, when-none, none-when, some-when, or-none}
use Rattle.windows.proofs.Chunks.{pairs, triples, pair-front, triple-front}
use Rattle.windows.specs.Windows.{week, covers, out_at, window_fault, booking_fault, openings_fault, works_fault, Window, Openings, Works, BadWindow, AbsentEdge}

-- ---- works windows

-- An edge is out by the first window or by a later one.
pub in-out : (s e k : ℕ) (later : List ℕ) (m j : ℕ) → (j ∈ out_at (s ∷ e ∷ k ∷ later) m) ↔ ((j ∈ out_at later m) ⊎ (T (covers s e m) × (j ≡ k)))
unfolding out_at
in-out s e k later m j = in-add_if (covers s e m) (out_at later m) k j

-- Before the window at i: what is out is what was gathered, and what the windows from i on take out; and these keep the rules.
pub record Gathered (l : List ℕ) (m out i : ℕ) : Type 0 where
  pub rules : (p : ℕ) × (p < 2 ^ 64) × Works p (drop (3 * i) l)
  pub members : (j : ℕ) → (j ∈ out_at l m) ↔ ((j ∈ out) ⊎ (j ∈ out_at (drop (3 * i) l) m))

module _ (l : List ℕ) (m : ℕ) where
  -- At first nothing is gathered.
  pub none-gathered : ((p : ℕ) × (p < 2 ^ 64) × Works p l) → {out : ℕ} → out ≡ 0 → Gathered l m out 0
  none-gathered rules e = record {
    rules = rules;
    members = λ j. (inr, λ c. elim c [ inl a ↦ absurd (not-zero j (rw e at a)) | inr b ↦ b ]);
  }

  module _ {out i : ℕ} (g : Gathered l m out i) where
    module _ {w : List (List ℕ)} (same : w ≡ triples l) (h : i < length w) where
      abbrev start : ℕ
      start = get_or (get_or w i []) 0 0

      abbrev end : ℕ
      end = get_or (get_or w i []) 1 0

      abbrev edge : ℕ
      edge = get_or (get_or w i []) 2 0

      -- What the rules say of the window at i, and of the later ones.
      window : (p : ℕ) × (p < 2 ^ 64) × (edge ∈ p) × Works p (drop (3 * (i + 1)) l)
      unfolding Works
      window =
          let (p, small, kept) = g.rules in
          let parts : Works p (start ∷ end ∷ edge ∷ drop (3 * (i + 1)) l) = rw (triple-front l same i h) at kept in
          (p, small, parts.1, parts.2)

      -- Its edge has a slot.
      pub edge-lt : edge < 64
      edge-lt = let (p, small, here, later) = window in member-lt 64 p edge small here

      -- Its edge is gathered if it holds the minute.
      pub more-gathered : {out' : ℕ} → out' ≡ add_if (covers start end m) out edge → Gathered l m out' (i + 1)
      more-gathered {out'} e =
          let (p, small, here, later) = window in
          record {
            rules = (p, small, later);
            members = λ j.
                let whole = g.members j in
                let put : (j ∈ out') ↔ ((j ∈ out) ⊎ (T (covers start end m) × (j ≡ edge))) = rw e (in-add_if (covers start end m) out edge j) in
                let first : (j ∈ out_at (drop (3 * i) l) m)
                ↔ ((j ∈ out_at (drop (3 * (i + 1)) l) m) ⊎ (T (covers start end m) × (j ≡ edge))) =
                rw (triple-front l same i h) (in-out start end edge (drop (3 * (i + 1)) l) m j) in (
                  λ o. elim (whole.0 o) [
                    | inl a ↦ inl (put.1 (inl a))
                    | inr b ↦ elim (first.0 b) [ inl c ↦ inr c | inr d ↦ inl (put.1 (inr d)) ]
                  ],
                  λ c. elim c [
                    | inl a ↦ elim (put.0 a) [ inl b ↦ whole.1 (inl b) | inr d ↦ whole.1 (inr (first.1 (inr d))) ]
                    | inr b ↦ whole.1 (inr (first.1 (inl b)))
                  ],
                );
          }

    -- Past the last window everything is gathered.
    pub all-gathered : length l / 3 ≤ i → out ≡ out_at l m
    unfolding out_at
    all-gathered h =
        let none : out_at (drop (3 * i) l) m ≡ 0 = go (drop (3 * i) l) (omega (arith, length-drop (3 * i) l)) in
        let over : (j : ℕ) → j ∈ out_at (drop (3 * i) l) m → ⊥ = λ j o. not-zero j (rw none at o) in
        ⊆-antisym out (out_at l m) (λ j a. (g.members j).1 (inl a))
        (λ j o. elim ((g.members j).0 o) [ inl a ↦ a | inr b ↦ absurd (over j b) ])
      where
        go : (d : List ℕ) → length d ≤ 2 → out_at d m ≡ 0
        go [] s = refl
        go (x ∷ []) s = refl
        go (x ∷ y ∷ []) s = refl
        go (x ∷ y ∷ z ∷ d) s = absurd (omega arith)

-- ---- faults

-- A window has no fault exactly if it keeps the rules; otherwise it has 24.
pub window-none : (s e : ℕ) → (window_fault s e ≡ 0) ↔ Window s e
unfolding window_fault
window-none s e = (
  λ z.
      let both = or-none (leb e s) (ltb week e) (when-none 24 _ (omega arith) z) in
      record { forward = leb-false e s both.0; within = ltb-false week e both.1 },
  λ k. none-when 24 (rw (lt-leb e s k.forward, le-ltb week e k.within) refl),
)

pub window-some : (s e : ℕ) → (window_fault s e ≡ 0 → ⊥) → window_fault s e ≡ 24
unfolding window_fault
window-some s e = go (leb e s || ltb week e)
  where
    go : (b : Bool) → ((24 when b) ≡ 0 → ⊥) → (24 when b) ≡ 24
    go true f = some-when 24 refl
    go false f = absurd (f (none-when 24 refl))

-- The fault of a window, either way.
window-case : (s e : ℕ) → ((window_fault s e ≡ 0) × Window s e) ⊎ ((window_fault s e ≡ 24) × (Window s e → ⊥))
window-case s e =
    elim (ℕ_discrete (window_fault s e) 0) [
      | yes z ↦ inl (z, (window-none s e).0 z)
      | no f ↦ inr (window-some s e f, λ k. f ((window-none s e).1 k))
    ]

-- Opening windows have no fault exactly if they keep the rules; otherwise they have 24.
pub openings-case : (o : List ℕ) → ((openings_fault o ≡ 0) × Openings o) ⊎ ((openings_fault o ≡ 24) × (Openings o → ⊥))
unfolding openings_fault Openings
openings-case [] = inl (refl, tt)
openings-case (s ∷ []) = inr (refl, λ k. k)
openings-case (s ∷ e ∷ later) = go (window-case s e) (openings-case later)
  where
    go : ((window_fault s e ≡ 0) × Window s e) ⊎ ((window_fault s e ≡ 24) × (Window s e → ⊥))
        → ((openings_fault later ≡ 0) × Openings later) ⊎ ((openings_fault later ≡ 24) × (Openings later → ⊥))
        → (((window_fault s e then openings_fault later) ≡ 0) × (Window s e × Openings later))
        ⊎ (((window_fault s e then openings_fault later) ≡ 24) × (Window s e × Openings later → ⊥))
    go (inl (z, k)) (inl (y, r)) = inl (none_then _ z ∙ y, (k, r))
    go (inl (z, k)) (inr (y, f)) = inr (none_then _ z ∙ y, λ b. f b.1)
    go (inr (z, f)) rest = inr (ap (λ r. r then openings_fault later) z ∙ some_then 24 _ (omega arith), λ b. f b.0)

pub openings-rules : (o : List ℕ) → (openings_fault o ≡ 0) ↔ Openings o
openings-rules o =
    elim (openings-case o) [
      | inl (z, r) ↦ (λ e. r, λ r. z)
      | inr (z, f) ↦ (λ e. absurd (omega (arith, z, e)), λ r. absurd (f r))
    ]

-- The three cases of works windows.
pub data WorksCase (p : ℕ) (w : List ℕ) : ℕ → Type 0 where
  good : Works p w → WorksCase p w 0
  bad : BadWindow p w → WorksCase p w 24
  absent : AbsentEdge p w → WorksCase p w 17

module _ (p s e k : ℕ) where
  -- A works window has the fault of the window, or then that of its edge, or none.
  pub booking-window : {r : ℕ} → r ≡ window_fault s e → (r ≡ 0 → ⊥) → booking_fault p s e k ≡ r
  unfolding booking_fault
  booking-window {r} here some = ap (λ x. x then 17 when not (has p k)) (sym here) ∙ some_then r _ (omega arith)

  pub booking-absent : window_fault s e ≡ 0 → has p k ≡ false → booking_fault p s e k ≡ 17
  unfolding booking_fault
  booking-absent here off = none_then _ here ∙ some-when 17 (ap not off)

  pub booking-none : window_fault s e ≡ 0 → has p k ≡ true → booking_fault p s e k ≡ 0
  unfolding booking_fault
  booking-none here there = none_then _ here ∙ none-when 17 (ap not there)

-- All works windows are one of the cases.
pub works-case : (p : ℕ) (w : List ℕ) → WorksCase p w (works_fault p w)
unfolding works_fault Works BadWindow AbsentEdge
works-case p [] = good tt
works-case p (s ∷ []) = bad tt
works-case p (s ∷ e ∷ []) = bad tt
works-case p (s ∷ e ∷ k ∷ later) = go (window-case s e) (has p k) refl (works-case p later)
  where
    on : {r : ℕ} → Window s e → k ∈ p → WorksCase p later r → WorksCase p (s ∷ e ∷ k ∷ later) r
    on here there (good g) = good (here, there, g)
    on here there (bad b) = bad (inr (here, there, b))
    on here there (absent a) = absent (here, inr (there, a))

    go : ((window_fault s e ≡ 0) × Window s e) ⊎ ((window_fault s e ≡ 24) × (Window s e → ⊥)) → (b : Bool) → has p k ≡ b
        → WorksCase p later (works_fault p later) → WorksCase p (s ∷ e ∷ k ∷ later) (booking_fault p s e k then works_fault p later)
    go (inl (z, here)) true t rest = rw (none_then (works_fault p later) (booking-none p s e k z t)) (on here (passes _ t) rest)
    go (inl (z, here)) false t rest =
        rw (booking-absent p s e k z t, some_then 17 (works_fault p later) (omega arith)) (absent (here, inl (λ m. rw t at m)))
    go (inr (z, off)) b t rest =
        rw (booking-window p s e k (sym z) (λ x. omega arith), some_then 24 (works_fault p later) (omega arith)) (bad (inl off))

-- Windows that keep the rules have no fault,
works-none : (p : ℕ) (w : List ℕ) → Works p w → works_fault p w ≡ 0
unfolding works_fault Works
works-none p [] k = refl
works-none p (s ∷ []) k = absurd k
works-none p (s ∷ e ∷ []) k = absurd k
works-none p (s ∷ e ∷ x ∷ later) k =
    none_then _ (booking-none p s e x ((window-none s e).1 k.0) (is_true (has p x) k.1)) ∙ works-none p later k.2

-- and those without fault keep the rules.
pub works-rules : (p : ℕ) (w : List ℕ) → (works_fault p w ≡ 0) ↔ Works p w
works-rules p w = (into (works-case p w), works-none p w)
  where
    into : {r : ℕ} → WorksCase p w r → r ≡ 0 → Works p w
    into (good g) e = g
    into (bad b) e = absurd (omega arith)
    into (absent a) e = absurd (omega arith)

-- Where no edge is missed, more edges make no other fault.
pub works-more : (p q : ℕ) → p ⊆ q → (w : List ℕ) → (works_fault p w ≡ 17 → ⊥) → works_fault q w ≡ works_fault p w
unfolding works_fault booking_fault ◌then◌ ◌when◌
works-more p q more [] f = refl
works-more p q more (s ∷ []) f = refl
works-more p q more (s ∷ e ∷ []) f = refl
works-more p q more (s ∷ e ∷ k ∷ later) f = go (window_fault s e) (has p k) refl (works-more p q more later) f
  where
    go : (r : ℕ) (b : Bool) → has p k ≡ b → ((works_fault p later ≡ 17 → ⊥) → works_fault q later ≡ works_fault p later)
        → (((r then 17 when not (has p k)) then works_fault p later) ≡ 17 → ⊥)
        → ((r then 17 when not (has q k)) then works_fault q later) ≡ ((r then 17 when not (has p k)) then works_fault p later)
    go zero true t rest f =
        let there : has q k ≡ true = is_true (has q k) (more k (passes _ t)) in
        rw (there, t) (rest (λ e. f (rw t e)))
    go zero false t rest f = absurd (f (rw t refl))
    go (suc r) b t rest f = refl

-- ---- faults from a window on

module _ (l : List ℕ) (i : ℕ) where
  -- The first fault from a window on is its own, or else that of the later ones;
  pub openings-step : {w : List (List ℕ)} → w ≡ pairs l → i < length w
      → openings_fault (drop (2 * i) l)
      ≡ (window_fault (get_or (get_or w i []) 0 0) (get_or (get_or w i []) 1 0) then openings_fault (drop (2 * (i + 1)) l))
  unfolding openings_fault
  openings-step e h = ap openings_fault (pair-front l e i h)

  -- of a piece it is 24, and where nothing is left none.
  pub openings-piece : i < length l → length l ≤ i + 1 → openings_fault (drop i l) ≡ 24
  unfolding openings_fault
  openings-piece some h = go (drop i l) (omega (arith, length-drop i l)) (omega (arith, length-drop i l))
    where
      go : (d : List ℕ) → 0 < length d → length d ≤ 1 → openings_fault d ≡ 24
      go [] p s = absurd (omega arith)
      go (x ∷ []) p s = refl
      go (x ∷ y ∷ d) p s = absurd (omega arith)

  pub openings-end : i ≡ length l → openings_fault (drop i l) ≡ 0
  unfolding openings_fault
  openings-end e = ap (λ j. openings_fault (drop j l)) e ∙ ap openings_fault (drop-length l)

  module _ (p : ℕ) where
    pub works-step : {w : List (List ℕ)} → w ≡ triples l → i < length w
        → works_fault p (drop (3 * i) l)
        ≡ (booking_fault p (get_or (get_or w i []) 0 0) (get_or (get_or w i []) 1 0) (get_or (get_or w i []) 2 0)
        then works_fault p (drop (3 * (i + 1)) l))
    unfolding works_fault
    works-step e h = ap (works_fault p) (triple-front l e i h)

    pub works-piece : i < length l → length l ≤ i + 2 → works_fault p (drop i l) ≡ 24
    unfolding works_fault
    works-piece some h = go (drop i l) (omega (arith, length-drop i l)) (omega (arith, length-drop i l))
      where
        go : (d : List ℕ) → 0 < length d → length d ≤ 2 → works_fault p d ≡ 24
        go [] q s = absurd (omega arith)
        go (x ∷ []) q s = refl
        go (x ∷ y ∷ []) q s = refl
        go (x ∷ y ∷ z ∷ d) q s = absurd (omega arith)

    pub works-end : i ≡ length l → works_fault p (drop i l) ≡ 0
    unfolding works_fault
    works-end e = ap (λ j. works_fault p (drop j l)) e ∙ ap (works_fault p) (drop-length l)
