-- The first 521 bytes decide.
-- Assumes nothing.
use mathlib.Core.Bool.{Bool, true, false, cond}
use mathlib.Core.List.{List, [], ◌∷◌}
use mathlib.Core.Path.{◌≡◌, refl, ap, sym, ◌∙◌}
use Prim.Native.Nat.{ℕ, zero, suc, ◌+◌, ◌-◌, ◌*◌, ◌≤◌, ◌<◌}
use native.Mathlib.Nat.{le_refl}
use native.Mathlib.Decide.{dec_lt}
use native.Mathlib.Omega.{arith}
use lib.Dec.{ltb, eqb}
use lib.ListN.{length, take, drop, length-take}
use lib.Seq.{get_or-take, take-nil}
use borrow.Author.Tests.{lt-ltb, le-ltb}
use Rattle.node_set.specs.Width.{node_width}
use Rattle.network.specs.declared.Network.{Network}
use Rattle.network.specs.Record.{with_edge, bare}
use Rattle.format.specs.Format.{Outcome, at, size_refusal, terminals_refusal, edge_refusal, end_refusal, length_refusal, size_step, terminals_step, edge_step, length_step, length_size, if_taken, edges, walk, decode_up_to, decode_of}
use Rattle.format.proofs.Steps.{EdgeView, edge, end, edge_view, LengthView, measured, unmeasured, length-view}
use Rattle.format.proofs.Walk.{edges-edge, edges-length-refused, edges-end, edges-refused, edges-turns}

module _ (m : ℕ) (s : List ℕ) where
  -- The first m bytes show whether there are j bytes, for any j up to m, or more than j, for any j below m.
  shorter-take : (j : ℕ) → j ≤ m → ltb (length (take m s)) j ≡ ltb (length s) j
  shorter-take j h = go (dec_lt (length s) j)
    where
      go : Dec (length s < j) → ltb (length (take m s)) j ≡ ltb (length s) j
      go (yes l) = lt-ltb _ j (omega (arith, length-take m s)) ∙ sym (lt-ltb (length s) j l)
      go (no l) = le-ltb _ j (omega (arith, length-take m s)) ∙ sym (le-ltb (length s) j (omega arith))

  longer-take : (j : ℕ) → j < m → ltb j (length (take m s)) ≡ ltb j (length s)
  longer-take j h = go (dec_lt j (length s))
    where
      go : Dec (j < length s) → ltb j (length (take m s)) ≡ ltb j (length s)
      go (yes l) = lt-ltb j _ (omega (arith, length-take m s)) ∙ sym (lt-ltb j (length s) l)
      go (no l) = le-ltb j _ (omega (arith, length-take m s)) ∙ sym (le-ltb j (length s) (omega arith))

  -- So a command's answer is decided by as many bytes as it has.
  size-take : (most : ℕ) → 2 ≤ m → size_step most (take m s) ≡ size_step most s
  unfolding size_step size_refusal
  size-take most h =
      simp (get_or-take m s 0 0 (omega arith), get_or-take m s 1 0 (omega arith), shorter-take 1 (omega arith), shorter-take 2 h)

  terminals-take : (n : ℕ) → 3 ≤ m → terminals_step n (take m s) ≡ terminals_step n s
  unfolding terminals_step terminals_refusal
  terminals-take n h =
      simp (get_or-take m s 0 0 (omega arith), get_or-take m s 1 0 (omega arith), get_or-take m s 2 0 (omega arith), shorter-take 1 (omega arith), shorter-take 3 h)

  edge-take : (n next : ℕ) → 4 ≤ m → edge_step n next (take m s) ≡ edge_step n next s
  unfolding edge_step edge_refusal end_refusal
  edge-take n next h =
      simp (
        get_or-take m s 0 0 (omega arith),
        get_or-take m s 1 0 (omega arith),
        get_or-take m s 2 0 (omega arith),
        get_or-take m s 3 0 (omega arith),
        shorter-take 1 (omega arith),
        shorter-take 4 h,
        longer-take 1 (omega arith),
      )

  length-take-step : (k : ℕ) → 4 ≤ m → length_step k (take m s) ≡ length_step k s
  unfolding length_step length_refusal
  length-take-step k h =
      simp (
        get_or-take m s 0 0 (omega arith),
        get_or-take m s 1 0 (omega arith),
        get_or-take m s 2 0 (omega arith),
        get_or-take m s 3 0 (omega arith),
        shorter-take 4 h,
      )

-- Dropping from the first m is taking the first of what is left.
drop-take : (j m : ℕ) (l : List ℕ) → j ≤ m → drop j (take m l) ≡ take (m - j) (drop j l)
drop-take zero m l h = let e : m ≡ m - 0 = omega arith in ap (λ n. take n l) e
drop-take (suc j) zero l h = absurd (omega arith)
drop-take (suc j) (suc m) [] h = sym (take-nil (suc m - suc j))
drop-take (suc j) (suc m) (x ∷ l) h =
    let e : m - j ≡ suc m - suc j = omega arith in
    drop-take j m l (omega arith) ∙ ap (λ n. take n (drop j l)) e

-- A length has four bytes or none.
length-size : (m : ℕ) → length_size m ≤ 4
unfolding length_size
length-size m = go (eqb m 0)
  where
    go : (b : Bool) → cond b 0 4 ≤ 4
    go true = omega arith
    go false = omega arith

-- Of a walk that expects edges from `next` on, the bytes of the edges that can still come, with their lengths, and one command more decide.
edges-take : (turns : ℕ) (N : Network) (next m : ℕ) (s : List ℕ) → next ≤ 64 → 8 * (64 - next) + 4 ≤ m
    → edges turns N next (take m s) ≡ edges turns N next s
unfolding edges
edges-take zero N next m s h d = refl
edges-take (suc turns) N next m s h d =
    go (λ k a b x n l p. edges-take turns (with_edge N k a b x) (suc k) n (drop (length_size x) (drop 4 s)) l p) (edge_view N.nodes next s)
  where
    same : edge_step N.nodes next (take m s) ≡ edge_step N.nodes next s
    same = edge-take m s N.nodes next (omega arith)

    -- After an edge.
    left : 8 ≤ m → drop 4 (take m s) ≡ take (m - 4) (drop 4 s)
    left e = drop-take 4 m s (omega arith)

    same_length : 8 ≤ m → (k : ℕ) → length_step k (drop 4 (take m s)) ≡ length_step k (drop 4 s)
    same_length e k = ap (length_step k) (left e) ∙ length-take-step (m - 4) (drop 4 s) k (omega arith)

    go : ((k a b x n : ℕ) → suc k ≤ 64 → 8 * (64 - suc k) + 4 ≤ n
        → edges turns (with_edge N k a b x) (suc k) (take n (drop (length_size x) (drop 4 s)))
        ≡ edges turns (with_edge N k a b x) (suc k) (drop (length_size x) (drop 4 s)))
        → EdgeView N.nodes next s → edges (suc turns) N next (take m s) ≡ edges (suc turns) N next s
    go later (edge k a b rest step p n l f) = after (length-view k (drop 4 s))
      where
        enough : 8 ≤ m
        enough = omega arith

        on : (x : ℕ) → length_step k (drop 4 s) ≡ Outcome.Length x → edges (suc turns) N next (take m s) ≡ edges (suc turns) N next s
        on x step' =
            edges-edge turns N next (take m s) (same ∙ step) (same_length enough k ∙ step')
            ∙ ap (λ y. edges turns (with_edge N k a b x) (suc k) (drop (length_size x) y)) (left enough)
            ∙ ap (edges turns (with_edge N k a b x) (suc k)) (drop-take (length_size x) (m - 4) (drop 4 s) (omega (arith, length-size x)))
            ∙ later k a b x (m - 4 - length_size x) l (omega (arith, length-size x))
            ∙ sym (edges-edge turns N next s step step')

        after : LengthView k (drop 4 s) → edges (suc turns) N next (take m s) ≡ edges (suc turns) N next s
        after (measured high low rest' step' p' some) = on (high * 256 + low) step'
        after (unmeasured step' none) = on 0 step'
        after (LengthView.refused r step' q c d) =
            edges-length-refused turns N next (take m s) (same ∙ step) (same_length enough k ∙ step') q
            ∙ sym (edges-length-refused turns N next s step step' q)
    go later (end step p) = edges-end turns N next (take m s) (same ∙ step) ∙ sym (edges-end turns N next s step)
    go later (EdgeView.refused r step p b) = edges-refused turns N next (take m s) (same ∙ step) p ∙ sym (edges-refused turns N next s step p)

-- The same of the whole walk.
walk-prefix : (N : Network) (s : List ℕ) → walk N 0 (take 516 s) ≡ walk N 0 s
walk-prefix N s =
    edges-turns (length (take 516 s)) (length s) N 0 (take 516 s) (le_refl _) (omega (arith, length-take 516 s))
    ∙ edges-take (length s) N 0 516 s (omega arith) (omega arith)

-- Reading any bytes and reading their first 521 give the same answer.
pub decode-prefix : (s : List ℕ) → decode_of (take 521 s) ≡ decode_of s
unfolding decode_up_to
decode-prefix s =
    let first : size_step node_width (take 521 s) ≡ size_step node_width s = size-take 521 s node_width (omega arith) in
    let second : (n : ℕ) → terminals_step n (drop 2 (take 521 s)) ≡ terminals_step n (drop 2 s) =
    λ n. ap (terminals_step n) (drop-take 2 521 s (omega arith)) ∙ terminals-take 519 (drop 2 s) n (omega arith) in
    let later : (N : Network) → walk N 0 (drop 5 (take 521 s)) ≡ walk N 0 (drop 5 s) =
    λ N. ap (walk N 0) (drop-take 5 521 s (omega arith)) ∙ walk-prefix N (drop 5 s) in
    λ i. if_taken (first i) (λ v. if_taken (second (at v 0) i) (λ w. later (bare (at v 0) (at w 0) (at w 1)) i))
