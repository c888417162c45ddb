-- The walk over the commands, a command at a time: the only laws of `edges` that other proofs use.
-- Assumes nothing.
--
--   Stops t d        the answer t is a refusal, and the reader gives d by it
--   Tagged ks t      the step t of the code has one of the tags ks
--   HeaderView s     what the first two commands tell of the bytes: the values that they have, or the refusal
--   EdgeRead k a b m s rest      the edge k from a to b with its length of m metres stands in front of s, and then `rest`
--   TurnView N next s    what a turn of the walk tells of the bytes: an edge with its length, the end, or the refusal
use mathlib.Core.Bool.{Bool, true, false, cond, not}
use mathlib.Core.List.{List, [], ◌∷◌, ◌++◌}
use mathlib.Core.Path.{◌≡◌, refl, ap, sym, subst, ◌∙◌}
use Prim.Native.Nat.{ℕ, zero, suc, ◌+◌, ◌*◌, ◌/◌, ◌%◌, ◌≤◌, ◌<◌}
use native.Mathlib.Nat.{le_refl}
use native.Mathlib.Omega.{arith}
use lib.Dec.{T, eqb}
use lib.ListN.{length, drop, length-drop}
use lib.Seq.{get_or-drop}
use mir.Val.{has_key}
use types.Run.{OneOf, miss}
use denote.Enum.Declared.{tag_of}
use Rattle.node_set.specs.Width.{node_width}
use Rattle.network.specs.declared.Network.{Network}
use Rattle.network.specs.Record.{among, ◌when◌, ◌then◌, size_fault, terminal_fault, end_fault, bare, with_edge}
use Rattle.network.proofs.Refusals.{refused-some}
use Rattle.format.specs.declared.Step.{Step}
use Rattle.format.specs.Format.{Outcome, Decoded, reader_refusals, at, Bytes, size_step, terminals_step, edge_step, edge_refusal, length_step, length_size, length_command, command_of, told, accept, refuse, if_taken, edges, walk, decode_up_to, decode_of}
use Rattle.format.specs.contracts.Step as step-type
use Rattle.format.proofs.Steps.{SizeView, size, size-view, TerminalsView, terminals, terminals-view, EdgeView, edge, end, edge_view, LengthView, measured, unmeasured, length-view, length-read}

-- The answer t is a refusal, and the reader gives d by it.
pub record Stops (t : Outcome) (d : Decoded) : Type 0 where
  pub number : ℕ
  pub refused : t ≡ Outcome.Refused number
  pub decides : refuse (told t).number ≡ d

-- The step t of the code has one of the tags ks, which number the cases of `Step` from 0.
abbrev pub Tagged : List ℕ → Step → Type 0
Tagged ks t = OneOf ks (tag_of step-type.the_type t)

-- Then it is none with another tag.
other_tag : (ks : List ℕ) (t u : Step) → Tagged ks t → T (not (has_key ks (tag_of step-type.the_type u))) → t ≡ u → ⊥
other_tag ks t u h n e = miss ks (tag_of step-type.the_type u) n (subst (Tagged ks) e h)

-- A refusal decides.
pub refusal-decides : {t : Outcome} {r : ℕ} (go_on : List ℕ → Decoded) → t ≡ Outcome.Refused r → 0 < r → if_taken t go_on ≡ refuse r
unfolding if_taken
refusal-decides {t} {r} go_on e p = rw e (refused-some r (go_on []) (refuse r) (λ z. omega arith))

-- So a refusal stops the reader where it is what decides.
stopped : {t : Outcome} {r : ℕ} {d : Decoded} → t ≡ Outcome.Refused r → d ≡ refuse r → Stops t d
stopped {r = r} e f = record { number = r; refused = e; decides = ap (λ x. refuse (told x).number) e ∙ sym f }

-- ---- the size, source and sink

-- The answer to the first command: a size goes on, and any other stops the reader.
module _ (s : List ℕ) {t : Outcome} (e : t ≡ size_step node_width s) where
  pub size-stops : ((n : ℕ) → t ≡ Outcome.Size n → ⊥) → Stops t (decode_of s)
  unfolding decode_up_to
  size-stops other = go (size-view node_width s)
    where
      go : SizeView node_width s → Stops t (decode_of s)
      go (size n rest step p f) = absurd (other n (e ∙ step))
      go (SizeView.refused r step p b) = stopped (e ∙ step) (refusal-decides _ step p)

  -- The same of the second.
  module _ {n : ℕ} (taken : t ≡ Outcome.Size n) {u : Outcome} (f : u ≡ terminals_step n (drop 2 s)) where
    pub size-goes : decode_of s ≡ if_taken u (λ v. walk (bare n (at v 0) (at v 1)) 0 (drop 5 s))
    unfolding decode_up_to if_taken
    size-goes = rw (sym e ∙ taken, f)

    pub terminals-goes : {a b : ℕ} → u ≡ Outcome.Terminals a b → decode_of s ≡ walk (bare n a b) 0 (drop 5 s)
    unfolding if_taken
    terminals-goes g = size-goes ∙ rw g

    pub terminals-stops : ((a b : ℕ) → u ≡ Outcome.Terminals a b → ⊥) → Stops u (decode_of s)
    terminals-stops other = go (terminals-view n (drop 2 s))
      where
        go : TerminalsView n (drop 2 s) → Stops u (decode_of s)
        go (terminals a b rest step p g) = absurd (other a b (f ∙ step))
        go (TerminalsView.refused r step p b) = stopped (f ∙ step) (size-goes ∙ refusal-decides _ (f ∙ step) p)

-- What the first two commands tell of the bytes: the values that they have, or the refusal.
pub data HeaderView (s : List ℕ) : Type 0 where
  header : (n a b : ℕ) (rest : List ℕ) → decode_of s ≡ walk (bare n a b) 0 rest → s ≡ 0x50 ∷ n ∷ 0x53 ∷ a ∷ b ∷ rest
      → size_fault node_width n ≡ 0 → terminal_fault n a b ≡ 0 → HeaderView s
  refused : (r : ℕ) → decode_of s ≡ refuse r → 0 < r → T (among reader_refusals r) → HeaderView s

pub header-view : (s : List ℕ) → HeaderView s
unfolding decode_up_to
header-view s = go (size-view node_width s)
  where
    on : (n : ℕ) (rest : List ℕ) → size_step node_width s ≡ Outcome.Size n → s ≡ 0x50 ∷ n ∷ rest → size_fault node_width n ≡ 0 → TerminalsView n (drop 2 s) → HeaderView s
    on n rest step p f (terminals a b rest' step' p' g) =
        let bytes : s ≡ 0x50 ∷ n ∷ 0x53 ∷ a ∷ b ∷ rest' = p ∙ ap (λ x. 0x50 ∷ n ∷ x) (sym (ap (drop 2) p) ∙ p') in
        header n a b rest' (terminals-goes s refl step refl step' ∙ ap (λ x. walk (bare n a b) 0 (drop 5 x)) bytes) bytes f g
    on n rest step p f (TerminalsView.refused r step' l b) =
        HeaderView.refused r (size-goes s refl step refl ∙ refusal-decides _ step' l) l b

    go : SizeView node_width s → HeaderView s
    go (size n rest step p f) = on n rest step p f (terminals-view n (drop 2 s))
    go (SizeView.refused r step l b) = HeaderView.refused r (refusal-decides _ step l) l b

-- ---- the edges and the end

-- A turn, by the answers of its steps.
module _ (turns : ℕ) (N : Network) (next : ℕ) (s : List ℕ) where
  pub edges-edge : {k a b m : ℕ} → edge_step N.nodes next s ≡ Outcome.Edge k a b → length_step k (drop 4 s) ≡ Outcome.Length m
      → edges (suc turns) N next s ≡ edges turns (with_edge N k a b m) (suc k) (drop (length_size m) (drop 4 s))
  unfolding edges if_taken
  edges-edge e f = rw (e, f)

  pub edges-length-refused : {k a b r : ℕ} → edge_step N.nodes next s ≡ Outcome.Edge k a b → length_step k (drop 4 s) ≡ Outcome.Refused r → 0 < r
      → edges (suc turns) N next s ≡ refuse r
  unfolding edges if_taken
  edges-length-refused {r = r} e f p = rw (e, f) (refused-some r _ (refuse r) (λ z. omega arith))

  pub edges-end : edge_step N.nodes next s ≡ Outcome.End → edges (suc turns) N next s ≡ accept N
  unfolding edges if_taken
  edges-end e = rw e

  pub edges-refused : {r : ℕ} → edge_step N.nodes next s ≡ Outcome.Refused r → 0 < r → edges (suc turns) N next s ≡ refuse r
  unfolding edges
  edges-refused e p = refusal-decides _ e p

-- An edge with its length stands in front of the rest of s.
pub record EdgeRead (k a b m : ℕ) (s rest : List ℕ) : Type 0 where
  pub size : length s ≡ length (command_of k (true, a, b, m)) + length rest
  pub bytes : Bytes s → s ≡ command_of k (true, a, b, m) ++ rest
  pub left : Bytes s → Bytes rest

-- What a turn tells of the bytes: an edge with its length, the end, or the refusal.
pub data TurnView (N : Network) (next : ℕ) (s : List ℕ) : Type 0 where
  turn : (k a b m : ℕ) (rest : List ℕ) → ((turns : ℕ) → edges (suc turns) N next s ≡ edges turns (with_edge N k a b m) (suc k) rest)
      → EdgeRead k a b m s rest → next ≤ k → k < 64 → end_fault N.nodes a b ≡ 0 → TurnView N next s
  last : ((turns : ℕ) → edges (suc turns) N next s ≡ accept N) → s ≡ 0x45 ∷ [] → TurnView N next s
  refused : (r : ℕ) → ((turns : ℕ) → edges (suc turns) N next s ≡ refuse r) → 0 < r → T (among reader_refusals r) → TurnView N next s

-- Bytes that are dropped leave bytes.
pub bytes_drop : (n : ℕ) (s : List ℕ) → Bytes s → Bytes (drop n s)
bytes_drop n s b i = rw (get_or-drop n s i 0) (b (n + i))

pub turn-view : (N : Network) (next : ℕ) (s : List ℕ) → TurnView N next s
turn-view N next s = go (edge_view N.nodes next s)
  where
    on : (k a b : ℕ) (rest : List ℕ) → edge_step N.nodes next s ≡ Outcome.Edge k a b → s ≡ 0x43 ∷ k ∷ a ∷ b ∷ rest → next ≤ k → k < 64
        → end_fault N.nodes a b ≡ 0 → (m : ℕ) → length_step k (drop 4 s) ≡ Outcome.Length m → TurnView N next s
    on k a b rest step p h l f m step' =
        let there : drop 4 s ≡ rest = ap (drop 4) p in
        let read = length-read k m rest (rw there at step') in
        turn k a b m (drop (length_size m) rest)
        (λ turns. edges-edge turns N next s step step' ∙ ap (λ x. edges turns (with_edge N k a b m) (suc k) (drop (length_size m) x)) there)
        (record {
          size = omega (arith, ap length p, read.size);
          bytes = λ c. p ∙ ap (λ x. 0x43 ∷ k ∷ a ∷ b ∷ x) (read.bytes (rw there at (bytes_drop 4 s c)));
          left = λ c. bytes_drop (length_size m) rest (rw there at (bytes_drop 4 s c));
        }) h l f

    go : EdgeView N.nodes next s → TurnView N next s
    go (edge k a b rest step p h l f) = after (length-view k (drop 4 s))
      where
        after : LengthView k (drop 4 s) → TurnView N next s
        after (measured high low rest' step' p' some) = on k a b rest step p h l f (high * 256 + low) step'
        after (unmeasured step' none) = on k a b rest step p h l f 0 step'
        after (LengthView.refused r step' q c d) = TurnView.refused r (λ turns. edges-length-refused turns N next s step step' q) q c
    go (end step p) = last (λ turns. edges-end turns N next s step) p
    go (EdgeView.refused r step q c) = TurnView.refused r (λ turns. edges-refused turns N next s step q) q c

-- More turns than bytes change nothing.
edges-nothing : (turns : ℕ) (N : Network) (next : ℕ) → edges turns N next [] ≡ refuse 1
unfolding edges edge_step edge_refusal if_taken ◌when◌ ◌then◌
edges-nothing zero N next = refl
edges-nothing (suc turns) N next = refl

pub edges-turns : (t u : ℕ) (N : Network) (next : ℕ) (s : List ℕ) → length s ≤ t → length s ≤ u → edges t N next s ≡ edges u N next s
edges-turns zero u N next [] h h' = edges-nothing 0 N next ∙ sym (edges-nothing u N next)
edges-turns zero u N next (x ∷ s) h h' = absurd (omega arith)
edges-turns (suc t) zero N next [] h h' = edges-nothing (suc t) N next ∙ sym (edges-nothing 0 N next)
edges-turns (suc t) zero N next (x ∷ s) h h' = absurd (omega arith)
edges-turns (suc t) (suc u) N next s h h' =
    go (λ k a b m rest p q. edges-turns t u (with_edge N k a b m) (suc k) rest p q) (turn-view N next s)
  where
    go : ((k a b m : ℕ) (rest : List ℕ) → length rest ≤ t → length rest ≤ u
        → edges t (with_edge N k a b m) (suc k) rest ≡ edges u (with_edge N k a b m) (suc k) rest)
        → TurnView N next s → edges (suc t) N next s ≡ edges (suc u) N next s
    go later (turn k a b m rest goes read n l f) =
        goes t ∙ later k a b m rest (omega (arith, read.size)) (omega (arith, read.size)) ∙ sym (goes u)
    go later (last goes p) = goes t ∙ sym (goes u)
    go later (TurnView.refused r goes p b) = goes t ∙ sym (goes u)

-- An edge's step tells its number's range and that its bytes are there.
pub edge-known : (n next : ℕ) (s : List ℕ) {k a b : ℕ} → edge_step n next s ≡ Outcome.Edge k a b → (k < 64) × (4 ≤ length s)
edge-known n next s {k} {a} {b} e = go (edge_view n next s)
  where
    go : EdgeView n next s → (k < 64) × (4 ≤ length s)
    go (edge k' a' b' rest step p h l f) = let same : k' ≡ k = cc in let long = ap length p in (omega arith, omega arith)
    go (end step p) = absurd (let z : ◌≡◌ {A = ℕ} 0 1 = cc in omega arith)
    go (EdgeView.refused r step p q) = absurd (let z : ◌≡◌ {A = ℕ} 0 1 = cc in omega arith)

-- So does that of a length.
command-size : (k m : ℕ) → length (length_command k m) ≡ length_size m
unfolding length_command length_size
command-size k m = go (eqb m 0)
  where
    go : (b : Bool) → length (cond b [] (0x4D ∷ k ∷ m / 256 ∷ m % 256 ∷ [])) ≡ cond b 0 4
    go true = refl
    go false = refl

pub length-known : (k m : ℕ) (s : List ℕ) → length_step k s ≡ Outcome.Length m → length_size m ≤ length s
length-known k m s e = omega (arith, (length-read k m s e).size, command-size k m)

-- The walk goes on after an edge and its length, and any other answer of a step ends it.
module _ (N : Network) (next : ℕ) (s : List ℕ) where
  walk_turn : walk N next s ≡ edges (suc (length s)) N next s
  walk_turn = edges-turns (length s) (suc (length s)) N next s (le_refl _) (omega arith)

  module _ {t : Outcome} (e : t ≡ edge_step N.nodes next s) where
    pub walk-ends : t ≡ Outcome.End → accept N ≡ walk N next s
    walk-ends f = sym (walk_turn ∙ edges-end (length s) N next s (sym e ∙ f))

    pub walk-stops : ((k a b : ℕ) → t ≡ Outcome.Edge k a b → ⊥) → (t ≡ Outcome.End → ⊥) → Stops t (walk N next s)
    walk-stops no_edge no_end = go (edge_view N.nodes next s)
      where
        go : EdgeView N.nodes next s → Stops t (walk N next s)
        go (edge k a b rest step p n l f) = absurd (no_edge k a b (e ∙ step))
        go (end step p) = absurd (no_end (e ∙ step))
        go (EdgeView.refused r step p q) = stopped (e ∙ step) (walk_turn ∙ edges-refused (length s) N next s step p)

  module _ {k a b : ℕ} (taken : edge_step N.nodes next s ≡ Outcome.Edge k a b) where
    pub walk-edge : {m : ℕ} → length_step k (drop 4 s) ≡ Outcome.Length m
        → walk N next s ≡ walk (with_edge N k a b m) (suc k) (drop (length_size m) (drop 4 s))
    walk-edge {m} f =
        let rest : List ℕ = drop (length_size m) (drop 4 s) in
        let shorter : length rest ≤ length s = simp length-drop (omega arith) in
        walk_turn ∙ edges-edge (length s) N next s taken f
        ∙ edges-turns (length s) (length rest) (with_edge N k a b m) (suc k) rest shorter (le_refl _)

    pub length-stops : {t : Outcome} → t ≡ length_step k (drop 4 s) → ((m : ℕ) → t ≡ Outcome.Length m → ⊥) → Stops t (walk N next s)
    length-stops {t} e other = go (length-view k (drop 4 s))
      where
        go : LengthView k (drop 4 s) → Stops t (walk N next s)
        go (measured high low rest step p some) = absurd (other (high * 256 + low) (e ∙ step))
        go (unmeasured step none) = absurd (other 0 (e ∙ step))
        go (LengthView.refused r step p c d) = stopped (e ∙ step) (walk_turn ∙ edges-length-refused (length s) N next s taken step p)
