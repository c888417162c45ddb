-- What each answer of a step tells of the bytes, and which bytes give it.
-- Assumes nothing.
--
--   command c k s values     the refusal of the command c with k bytes, from that of its values
--   SizeView most s          the answer of the command 50, with what it tells of the bytes
--   TerminalsView n s        that of 53
--   EdgeView n next s        that of 43, or of 45
--   LengthView before s      that of 4D, straight after the edge `before`
--   LengthRead k m s         a length of m metres for edge k, nothing if m is 0, stands in front of s
use mathlib.Core.Bool.{Bool, true, false, cond, not, ◌||◌}
use mathlib.Core.List.{List, [], ◌∷◌, ◌++◌}
use mathlib.Core.Path.{◌≡◌, refl, ap, ap₂, sym, subst, ◌∙◌}
use Prim.Native.Nat.{ℕ, zero, suc, ◌+◌, ◌*◌, ◌/◌, ◌%◌, ◌≤◌, ◌<◌}
use native.Mathlib.Decide.{ℕ_discrete}
use native.Mathlib.Nat.{add-zero, div-add-mod', div-eq_of_lt, mod-eq_of_lt, mul-add-div_right, mul-add-mod_self_right}
use native.Mathlib.Omega.{arith}
use lib.Dec.{T, ltb, eqb}
use lib.ListN.{length, drop}
use borrow.Author.Tests.{lt-ltb, le-ltb, eq-eqb, ne_eqb, ltb-false, eqb-true, eqb-false, not-false}
use Rattle.network.specs.Record.{among, ◌when◌, ◌then◌, size_fault, terminal_fault, end_fault}
use Rattle.network.proofs.Refusals.{then-none, none_then, some_then, when-none, none-when, some-when, or-none, then-among, when-among, outside-among, terminals-among}
use Rattle.format.specs.Format.{Outcome, reader_refusals, at, Bytes, missing, unfit, number_fault, size_refusal, terminals_refusal, edge_refusal, end_refusal, length_fault, metres_in, length_size, length_refusal, length_command, size_step, terminals_step, edge_step, length_step}

-- ---- the rules that every command shares

-- No byte is missing exactly if there are enough.
pub missing-none : (n : ℕ) (s : List ℕ) → missing n s ≡ 0 → n ≤ length s
missing-none n s e = ltb-false (length s) n (when-none 1 (ltb (length s) n) (omega arith) e)

pub none-missing : (n : ℕ) (s : List ℕ) → n ≤ length s → missing n s ≡ 0
none-missing n s h = none-when 1 (le-ltb (length s) n h)

-- The command fits exactly if it is the one of its place.
pub unfit-none : (c : ℕ) (s : List ℕ) → unfit c s ≡ 0 → at s 0 ≡ c
unfit-none c s e = eqb-true (at s 0) c (not-false (eqb (at s 0) c) (when-none 2 (not (eqb (at s 0) c)) (omega arith) e))

pub none-unfit : (c : ℕ) (s : List ℕ) → at s 0 ≡ c → unfit c s ≡ 0
none-unfit c s e = none-when 2 (ap not (eq-eqb (at s 0) c e))

-- The refusal of the command c with k bytes, from that of its values.
abbrev pub command : ℕ → ℕ → List ℕ → ℕ → ℕ
command c k s values = missing 1 s then unfit c s then missing k s then values

-- A command's refusal is among the reader's if that of its values is.
command-among : (c k : ℕ) (s : List ℕ) (values : ℕ) → T (among reader_refusals values) → T (among reader_refusals (command c k s values))
unfolding among
command-among c k s values v =
    then-among reader_refusals _ _ (when-among reader_refusals 1 _ tt)
    (then-among reader_refusals _ _ (when-among reader_refusals 2 _ tt) (then-among reader_refusals _ _ (when-among reader_refusals 1 _ tt) v))

-- A command finds no fault exactly if it fits, its operands are there and its values have none.
command-none : (c k : ℕ) (s : List ℕ) (values : ℕ) → command c k s values ≡ 0
    → (at s 0 ≡ c) × ((k ≤ length s) × (values ≡ 0))
command-none c k s values e =
    let a = then-none (missing 1 s) (unfit c s then missing k s then values) e in
    let b = then-none (unfit c s) (missing k s then values) a.1 in
    let d = then-none (missing k s) values b.1 in
    (unfit-none c s b.0, (missing-none k s d.0, d.1))

-- A command byte that is another one decides, whatever the operands.
pub command-unfit : (c k : ℕ) (s : List ℕ) (values : ℕ) → 0 < length s → (at s 0 ≡ c → ⊥) → command c k s values ≡ 2
command-unfit c k s values h d =
    none_then _ (none-missing 1 s h)
    ∙ ap (λ r. r then missing k s then values) (some-when 2 (ap not (ne_eqb (at s 0) c d)))
    ∙ some_then 2 _ (omega arith)

-- A command that fits and is whole is decided by its values.
pub command-values : (c k : ℕ) (s : List ℕ) (values : ℕ) → at s 0 ≡ c → 0 < k → k ≤ length s → command c k s values ≡ values
command-values c k s values f p h =
    none_then _ (none-missing 1 s (omega arith)) ∙ none_then _ (none-unfit c s f) ∙ none_then _ (none-missing k s h)

-- ---- the size

two : (s : List ℕ) → 2 ≤ length s → s ≡ at s 0 ∷ at s 1 ∷ drop 2 s
two [] h = absurd (omega arith)
two (c ∷ []) h = absurd (omega arith)
two (c ∷ n ∷ s) h = refl

pub data SizeView (most : ℕ) (s : List ℕ) : Type 0 where
  size : (n : ℕ) (rest : List ℕ) → size_step most s ≡ Outcome.Size n → s ≡ 0x50 ∷ n ∷ rest → size_fault most n ≡ 0 → SizeView most s
  refused : (r : ℕ) → size_step most s ≡ Outcome.Refused r → 0 < r → T (among reader_refusals r) → SizeView most s

pub size-view : (most : ℕ) (s : List ℕ) → SizeView most s
unfolding among size_step size_refusal size_fault
size-view most s = go (size_refusal most s) refl
  where
    go : (r : ℕ) → size_refusal most s ≡ r → SizeView most s
    go zero e =
        let f = command-none 0x50 2 s (size_fault most (at s 1)) e in
        size (at s 1) (drop 2 s) (rw e) (two s f.1.0 ∙ ap (λ c. c ∷ at s 1 ∷ drop 2 s) f.0) f.1.1
    go (suc r) e =
        refused (suc r) (rw e) (omega arith)
        (rw e at (command-among 0x50 2 s (size_fault most (at s 1)) (when-among reader_refusals 4 _ tt)))

pub size-taken : (most n : ℕ) (s : List ℕ) → size_fault most n ≡ 0 → size_step most (0x50 ∷ n ∷ s) ≡ Outcome.Size n
unfolding size_step size_refusal
size-taken most n s e = rw (command-values 0x50 2 (0x50 ∷ n ∷ s) (size_fault most n) refl (omega arith) (omega arith) ∙ e)

-- ---- source and sink

three : (s : List ℕ) → 3 ≤ length s → s ≡ at s 0 ∷ at s 1 ∷ at s 2 ∷ drop 3 s
three [] h = absurd (omega arith)
three (c ∷ []) h = absurd (omega arith)
three (c ∷ a ∷ []) h = absurd (omega arith)
three (c ∷ a ∷ b ∷ s) h = refl

pub data TerminalsView (n : ℕ) (s : List ℕ) : Type 0 where
  terminals : (a b : ℕ) (rest : List ℕ) → terminals_step n s ≡ Outcome.Terminals a b → s ≡ 0x53 ∷ a ∷ b ∷ rest
      → terminal_fault n a b ≡ 0 → TerminalsView n s
  refused : (r : ℕ) → terminals_step n s ≡ Outcome.Refused r → 0 < r → T (among reader_refusals r) → TerminalsView n s

pub terminals-view : (n : ℕ) (s : List ℕ) → TerminalsView n s
unfolding among terminals_step terminals_refusal
terminals-view n s = go (terminals_refusal n s) refl
  where
    go : (r : ℕ) → terminals_refusal n s ≡ r → TerminalsView n s
    go zero e =
        let f = command-none 0x53 3 s (terminal_fault n (at s 1) (at s 2)) e in
        terminals (at s 1) (at s 2) (drop 3 s) (rw e)
        (three s f.1.0 ∙ ap (λ c. c ∷ at s 1 ∷ at s 2 ∷ drop 3 s) f.0) f.1.1
    go (suc r) e =
        TerminalsView.refused (suc r) (rw e) (omega arith)
        (rw e at (command-among 0x53 3 s (terminal_fault n (at s 1) (at s 2)) (terminals-among reader_refusals n (at s 1) (at s 2) tt tt)))

pub terminals-taken : (n a b : ℕ) (s : List ℕ) → terminal_fault n a b ≡ 0
    → terminals_step n (0x53 ∷ a ∷ b ∷ s) ≡ Outcome.Terminals a b
unfolding terminals_step terminals_refusal
terminals-taken n a b s e =
    rw (command-values 0x53 3 (0x53 ∷ a ∷ b ∷ s) (terminal_fault n a b) refl (omega arith) (omega arith) ∙ e)

-- ---- the edges and the end

four : (s : List ℕ) → 4 ≤ length s → s ≡ at s 0 ∷ at s 1 ∷ at s 2 ∷ at s 3 ∷ drop 4 s
four [] h = absurd (omega arith)
four (c ∷ []) h = absurd (omega arith)
four (c ∷ k ∷ []) h = absurd (omega arith)
four (c ∷ k ∷ a ∷ []) h = absurd (omega arith)
four (c ∷ k ∷ a ∷ b ∷ s) h = refl

pub data EdgeView (n next : ℕ) (s : List ℕ) : Type 0 where
  edge : (k a b : ℕ) (rest : List ℕ) → edge_step n next s ≡ Outcome.Edge k a b → s ≡ 0x43 ∷ k ∷ a ∷ b ∷ rest
      → next ≤ k → k < 64 → end_fault n a b ≡ 0 → EdgeView n next s
  end : edge_step n next s ≡ Outcome.End → s ≡ 0x45 ∷ [] → EdgeView n next s
  refused : (r : ℕ) → edge_step n next s ≡ Outcome.Refused r → 0 < r → T (among reader_refusals r) → EdgeView n next s

-- A number is free of faults exactly if it is not below the next one and below 64.
number-none : (next k : ℕ) → number_fault next k ≡ 0 → (next ≤ k) × (k < 64)
unfolding number_fault
number-none next k e =
    let f = then-none (7 when ltb 63 k) (8 when ltb k next) e in
    let above = ltb-false 63 k (when-none 7 (ltb 63 k) (omega arith) f.0) in
    (ltb-false k next (when-none 8 (ltb k next) (omega arith) f.1), omega arith)

none_number : (next k : ℕ) → next ≤ k → k < 64 → number_fault next k ≡ 0
unfolding number_fault
none_number next k h l = none_then _ (none-when 7 (le-ltb 63 k (omega arith))) ∙ none-when 8 (le-ltb k next h)

-- The only plan's end without a fault is 45 alone.
end_none : (s : List ℕ) → at s 0 ≡ 0x45 → end_refusal s ≡ 0 → s ≡ 0x45 ∷ []
unfolding end_refusal
end_none [] c e = absurd (let bad : ◌≡◌ {A = ℕ} 0 69 = c in omega arith)
end_none (x ∷ []) c e = ap (λ y. y ∷ []) c
end_none (x ∷ y ∷ s) c e =
    absurd (let short = ltb-false 1 (length (x ∷ y ∷ s)) (when-none 3 (ltb 1 (length (x ∷ y ∷ s))) (omega arith) e) in omega arith)

pub edge_view : (n next : ℕ) (s : List ℕ) → EdgeView n next s
unfolding among edge_step edge_refusal end_refusal number_fault
edge_view n next s = go (eqb (at s 0) 0x45) refl
  where
    at-end : eqb (at s 0) 0x45 ≡ true → (r : ℕ) → end_refusal s ≡ r → EdgeView n next s
    at-end c zero e = end (rw (c, e)) (end_none s (eqb-true (at s 0) 0x45 c) e)
    at-end c (suc r) e = EdgeView.refused (suc r) (rw (c, e)) (omega arith) (rw e at (when-among reader_refusals 3 (ltb 1 (length s)) tt))

    at_edge : eqb (at s 0) 0x45 ≡ false → (r : ℕ) → edge_refusal n next s ≡ r → EdgeView n next s
    at_edge c zero e =
        let f = command-none 0x43 4 s (number_fault next (at s 1) then end_fault n (at s 2) (at s 3)) e in
        let g = then-none (number_fault next (at s 1)) (end_fault n (at s 2) (at s 3)) f.1.1 in
        let h = number-none next (at s 1) g.0 in
        edge (at s 1) (at s 2) (at s 3) (drop 4 s) (rw (c, e))
        (four s f.1.0 ∙ ap (λ c. c ∷ at s 1 ∷ at s 2 ∷ at s 3 ∷ drop 4 s) f.0) h.0 h.1 g.1
    at_edge c (suc r) e =
        EdgeView.refused (suc r) (rw (c, e)) (omega arith)
        (rw e at (command-among 0x43 4 s (number_fault next (at s 1) then end_fault n (at s 2) (at s 3))
        (then-among reader_refusals _ _ (then-among reader_refusals _ _ (when-among reader_refusals 7 _ tt) (when-among reader_refusals 8 _ tt))
        (outside-among reader_refusals 9 n (at s 2) (at s 3) tt))))

    go : (b : Bool) → eqb (at s 0) 0x45 ≡ b → EdgeView n next s
    go true c = at-end c (end_refusal s) refl
    go false c = at_edge c (edge_refusal n next s) refl

pub edge-taken : (n next k a b : ℕ) (s : List ℕ) → next ≤ k → k < 64 → end_fault n a b ≡ 0
    → edge_step n next (0x43 ∷ k ∷ a ∷ b ∷ s) ≡ Outcome.Edge k a b
unfolding edge_step edge_refusal
edge-taken n next k a b s h l e =
    rw (command-values 0x43 4 (0x43 ∷ k ∷ a ∷ b ∷ s) (number_fault next k then end_fault n a b) refl (omega arith) (omega arith)
    ∙ none_then _ (none_number next k h l) ∙ e)

pub end-taken : (n next : ℕ) → edge_step n next (0x45 ∷ []) ≡ Outcome.End
unfolding edge_step end_refusal ◌when◌
end-taken n next = refl

-- After the end no byte is fit.
pub end_refused : (n next x : ℕ) (s : List ℕ) → edge_step n next (0x45 ∷ x ∷ s) ≡ Outcome.Refused 3
unfolding edge_step end_refusal
end_refused n next x s = rw (some-when 3 (lt-ltb 1 (length (0x45 ∷ x ∷ s)) (omega arith)))

-- A length is fit for no other command's place.
module _ (s : List ℕ) (e : at s 0 ≡ 0x4D) where
  some_byte : (s : List ℕ) → at s 0 ≡ 0x4D → 0 < length s
  some_byte [] e = absurd (let bad : ◌≡◌ {A = ℕ} 0 0x4D = e in omega arith)
  some_byte (x ∷ s) e = omega arith

  not-length : (c k values : ℕ) → (0x4D ≡ c → ⊥) → command c k s values ≡ 2
  not-length c k values d = command-unfit c k s values (some_byte s e) (λ f. d (sym e ∙ f))

  pub size-unfit : (most : ℕ) → size_step most s ≡ Outcome.Refused 2
  unfolding size_step size_refusal
  size-unfit most = rw (not-length 0x50 2 (size_fault most (at s 1)) (λ z. let bad : ◌≡◌ {A = ℕ} 0x4D 0x50 = z in omega arith))

  pub terminals-unfit : (n : ℕ) → terminals_step n s ≡ Outcome.Refused 2
  unfolding terminals_step terminals_refusal
  terminals-unfit n = rw (not-length 0x53 3 (terminal_fault n (at s 1) (at s 2)) (λ z. let bad : ◌≡◌ {A = ℕ} 0x4D 0x53 = z in omega arith))

  pub edge-unfit : (n next : ℕ) → edge_step n next s ≡ Outcome.Refused 2
  unfolding edge_step edge_refusal
  edge-unfit n next =
      rw (
        ne_eqb (at s 0) 0x45 (λ f. let bad : ◌≡◌ {A = ℕ} 0x4D 0x45 = sym e ∙ f in omega arith),
        not-length 0x43 4 (number_fault next (at s 1) then end_fault n (at s 2) (at s 3)) (λ z. let bad : ◌≡◌ {A = ℕ} 0x4D 0x43 = z in omega arith),
      )

-- ---- a length

pub data LengthView (before : ℕ) (s : List ℕ) : Type 0 where
  measured : (high low : ℕ) (rest : List ℕ) → length_step before s ≡ Outcome.Length (high * 256 + low) → s ≡ 0x4D ∷ before ∷ high ∷ low ∷ rest
      → (high * 256 + low ≡ 0 → ⊥) → LengthView before s
  unmeasured : length_step before s ≡ Outcome.Length 0 → (at s 0 ≡ 0x4D → ⊥) → LengthView before s
  refused : (r : ℕ) → length_step before s ≡ Outcome.Refused r → 0 < r → T (among reader_refusals r) → at s 0 ≡ 0x4D → LengthView before s

-- A length is free of faults exactly if it is of the edge just before, and not of 0 metres.
length_none : (before k m : ℕ) → length_fault before k m ≡ 0 → (k ≡ before) × (m ≡ 0 → ⊥)
unfolding length_fault
length_none before k m e =
    let f = or-none (not (eqb k before)) (eqb m 0) (when-none 28 (not (eqb k before) || eqb m 0) (omega arith) e) in
    (eqb-true k before (not-false (eqb k before) f.0), eqb-false m 0 f.1)

none-length : (k m : ℕ) → (m ≡ 0 → ⊥) → length_fault k k m ≡ 0
unfolding length_fault
none-length k m some = none-when 28 (ap₂ (λ a b. not a || b) (eq-eqb k k refl) (ne_eqb m 0 some))

pub length-view : (before : ℕ) (s : List ℕ) → LengthView before s
unfolding among length_step length_refusal length_fault
length-view before s = go (eqb (at s 0) 0x4D) refl
  where
    at_length : eqb (at s 0) 0x4D ≡ true → (r : ℕ) → length_refusal before s ≡ r → LengthView before s
    at_length c zero e =
        let f = then-none (missing 4 s) (length_fault before (at s 1) (metres_in s)) e in
        let g = length_none before (at s 1) (metres_in s) f.1 in
        measured (at s 2) (at s 3) (drop 4 s) (rw (c, e))
        (four s (missing-none 4 s f.0) ∙ ap₂ (λ x y. x ∷ y ∷ at s 2 ∷ at s 3 ∷ drop 4 s) (eqb-true (at s 0) 0x4D c) g.0) g.1
    at_length c (suc r) e =
        LengthView.refused (suc r) (rw (c, e)) (omega arith)
        (rw e at (then-among reader_refusals (missing 4 s) (length_fault before (at s 1) (metres_in s)) (when-among reader_refusals 1 _ tt)
        (when-among reader_refusals 28 (not (eqb (at s 1) before) || eqb (metres_in s) 0) tt)))
        (eqb-true (at s 0) 0x4D c)

    go : (b : Bool) → eqb (at s 0) 0x4D ≡ b → LengthView before s
    go true c = at_length c (length_refusal before s) refl
    go false c = unmeasured (rw c) (eqb-false (at s 0) 0x4D c)

-- What the writer makes of a length is read back, whatever follows, if that is no length.
pub length_taken : (k m : ℕ) (s : List ℕ) → (at s 0 ≡ 0x4D → ⊥) → length_step k (length_command k m ++ s) ≡ Outcome.Length m
unfolding length_command length_step length_refusal ◌then◌
length_taken k m s none = go (ℕ_discrete m 0)
  where
    go : Dec (m ≡ 0) → length_step k (cond (eqb m 0) [] (0x4D ∷ k ∷ m / 256 ∷ m % 256 ∷ []) ++ s) ≡ Outcome.Length m
    go (yes z) = rw (eq-eqb m 0 z, ne_eqb (at s 0) 0x4D none) (ap Outcome.Length (sym z))
    go (no some) =
        let whole : m / 256 * 256 + m % 256 ≡ m = div-add-mod' m 256 in
        rw (ne_eqb m 0 some) (rw (whole, none-missing 4 (0x4D ∷ k ∷ m / 256 ∷ m % 256 ∷ s) (omega arith), none-length k m some))

-- Behind it stands what followed.
pub length-left : (k m : ℕ) (s : List ℕ) → drop (length_size m) (length_command k m ++ s) ≡ s
unfolding length_size length_command
length-left k m s = go (eqb m 0)
  where
    go : (b : Bool) → drop (cond b 0 4) (cond b [] (0x4D ∷ k ∷ m / 256 ∷ m % 256 ∷ []) ++ s) ≡ s
    go true = refl
    go false = refl

-- A length of m metres for edge k, nothing if m is 0, stands in front of s.
pub record LengthRead (k m : ℕ) (s : List ℕ) : Type 0 where
  pub size : length s ≡ length (length_command k m) + length (drop (length_size m) s)
  pub bytes : Bytes s → s ≡ length_command k m ++ drop (length_size m) s

-- Two bytes are those of the number that they make.
two_bytes : (high low : ℕ) → low < 256 → ((high * 256 + low) / 256 ≡ high) × ((high * 256 + low) % 256 ≡ low)
two_bytes high low l = (
  mul-add-div_right (omega arith) high low ∙ ap (λ x. high + x) (div-eq_of_lt l) ∙ add-zero high,
  mul-add-mod_self_right high 256 low ∙ mod-eq_of_lt l,
)

unmeasured-read : (k : ℕ) (s : List ℕ) → LengthRead k 0 s
unfolding length_size length_command
unmeasured-read k s = record { size = omega arith; bytes = λ _. refl }

measured-read : (k high low : ℕ) (rest : List ℕ) → (high * 256 + low ≡ 0 → ⊥) → LengthRead k (high * 256 + low) (0x4D ∷ k ∷ high ∷ low ∷ rest)
unfolding length_size length_command
measured-read k high low rest some = record {
  size = rw (ne_eqb (high * 256 + low) 0 some) (omega arith);
  bytes = λ b.
      let both = two_bytes high low (b 3) in
      rw (ne_eqb (high * 256 + low) 0 some) (ap₂ (λ x y. 0x4D ∷ k ∷ x ∷ y ∷ rest) (sym both.0) (sym both.1));
}

-- The answer of a length tells that it stands there.
pub length-read : (k m : ℕ) (s : List ℕ) → length_step k s ≡ Outcome.Length m → LengthRead k m s
length-read k m s e = go (length-view k s)
  where
    go : LengthView k s → LengthRead k m s
    go (measured high low rest step p some) =
        let same : high * 256 + low ≡ m = cc in
        subst (λ n. LengthRead k n s) same (subst (LengthRead k (high * 256 + low)) (sym p) (measured-read k high low rest some))
    go (unmeasured step none) = let same : 0 ≡ m = cc in subst (λ n. LengthRead k n s) same (unmeasured-read k s)
    go (LengthView.refused r step p b c) = absurd (let z : ◌≡◌ {A = ℕ} 0 1 = cc in omega arith)
