-- Reading what was written gives the same record, and how long a plan can be.
-- Assumes nothing.
use mathlib.Core.Bool.{Bool, true, false, cond, ◌&&◌, ◌||◌, or-false, or-true, and-false}
use mathlib.Core.List.{List, [], ◌∷◌, ◌++◌, append-nil}
use mathlib.Core.Logic.{◌⊎◌, inl, inr}
use mathlib.Core.Path.{◌≡◌, refl, ap, ap₂, sym, ◌∙◌}
use Prim.Native.Nat.{ℕ, zero, suc, ◌+◌, ◌-◌, ◌*◌, ◌/◌, ◌%◌, ◌^◌, ◌≤◌, ◌<◌, zero-le}
use native.Mathlib.Nat.{mod-eq_of_lt, mod-one, le_refl}
use native.Mathlib.Decide.{ℕ_discrete, dec_lt}
use native.Mathlib.Omega.{arith}
use lib.Dec.{ltb, eqb}
use lib.ListN.{length, get_or, take, drop, set, replicate, length-append, length-drop}
use lib.Seq.{take-suc, take_all, length-take-le, set_at, append_snoc, sets, sets-eq, drop-drop, drop_at, take_at, take-add, take-append_seam, drop-append_seam}
use borrow.Author.Tests.{lt-ltb, le-ltb, eq-eqb, ne_eqb}
use Rattle.bitset.specs.Members.{has, insert}
use Rattle.bitset.proofs.Members.{has-insert, has-mod, same-members}
use Rattle.node_set.specs.Width.{node_width}
use Rattle.network.specs.declared.Network.{Network}
use Rattle.network.specs.Record.{rewired, Stored, Slot, slot, slot_fault, end_fault, fault_of, bare, with_edge, has_edge, first_end, second_end, metres_of, present}
use Rattle.network.proofs.Rules.{absent_none}
use Rattle.network.proofs.Slots.{empty, accepted}
use Rattle.format.specs.Format.{at, accept, edges, decode_of, length_command, edge_command, encode_of, WrittenTo}
use Rattle.format.proofs.Steps.{size-taken, terminals-taken, edge-taken, end-taken, length_taken, length-left}
use Rattle.format.proofs.Walk.{terminals-goes, edges-edge, edges-end}
use Rattle.format.proofs.Commands.{command-of, command-absent, rest, rest-first, rest-none, encode-header, encode-size}

-- The first k of 64 ends, the others 0.
prefix : ℕ → List ℕ → List ℕ
prefix k l = take k l ++ replicate (64 - k) 0

-- One more end goes to the first place after the prefix.
prefix-set : (k : ℕ) (l : List ℕ) → k < 64 → length l ≡ 64 → set (prefix k l) k (get_or l k 0) ≡ prefix (suc k) l
unfolding prefix
prefix-set k l h e =
    let more : 64 - k ≡ suc (64 - suc k) = omega arith in
    let full : length (take k l) ≡ k = length-take-le k l (omega arith) in
    ap (λ n. set (take k l ++ replicate n 0) k (get_or l k 0)) more
    ∙ set_at (take k l) 0 (replicate (64 - suc k) 0) (get_or l k 0) k full
    ∙ sym (append_snoc (take k l) (get_or l k 0) (replicate (64 - suc k) 0))
    ∙ ap (λ t. t ++ replicate (64 - suc k) 0) (sym (take-suc l k 0 (omega arith)))

-- An end that is 0 was there already.
prefix-zero : (k : ℕ) (l : List ℕ) → k < 64 → length l ≡ 64 → get_or l k 0 ≡ 0 → prefix (suc k) l ≡ prefix k l
unfolding prefix
prefix-zero k l h e z =
    let more : 64 - k ≡ suc (64 - suc k) = omega arith in
    ap (λ t. t ++ replicate (64 - suc k) 0) (take-suc l k 0 (omega arith) ∙ ap (λ x. take k l ++ (x ∷ [])) z)
    ∙ append_snoc (take k l) 0 (replicate (64 - suc k) 0)
    ∙ ap (λ n. take k l ++ replicate n 0) (sym more)

prefix-all : (l : List ℕ) → length l ≡ 64 → prefix 64 l ≡ l
unfolding prefix
prefix-all l e = append-nil (take 64 l) ∙ take_all 64 l (omega arith)

-- Below k + 1 is below k, but for k itself.
ltb-step : (j k : ℕ) → (j ≡ k → ⊥) → ltb j (suc k) ≡ ltb j k
ltb-step j k d = go (dec_lt j k)
  where
    go : Dec (j < k) → ltb j (suc k) ≡ ltb j k
    go (yes l) = lt-ltb j (suc k) (omega arith) ∙ sym (lt-ltb j k l)
    go (no l) = le-ltb j (suc k) (omega arith) ∙ sym (le-ltb j k (omega arith))

-- The members below k + 1 are those below k, with k if it is one.
below_more : (s k : ℕ) → has s k ≡ true → insert (s % 2 ^ k) k ≡ s % 2 ^ suc k
below_more s k e = same-members _ _ (λ j. has-insert (s % 2 ^ k) k j ∙ ap (λ x. x || eqb j k) (has-mod k s j) ∙ at j (ℕ_discrete j k) ∙ sym (has-mod (suc k) s j))
  where
    at : (j : ℕ) → Dec (j ≡ k) → ((ltb j k && has s j) || eqb j k) ≡ (ltb j (suc k) && has s j)
    at j (yes p) =
        ap (λ x. (ltb j k && has s j) || x) (eq-eqb j k p) ∙ or-true (ltb j k && has s j)
        ∙ sym (ap₂ ◌&&◌ (lt-ltb j (suc k) (omega arith)) (ap (has s) p ∙ e))
    at j (no d) =
        ap (λ x. (ltb j k && has s j) || x) (ne_eqb j k d) ∙ or-false (ltb j k && has s j)
        ∙ ap (λ x. x && has s j) (sym (ltb-step j k d))

below-same : (s k : ℕ) → has s k ≡ false → s % 2 ^ suc k ≡ s % 2 ^ k
below-same s k e = same-members _ _ (λ j. has-mod (suc k) s j ∙ at j (ℕ_discrete j k) ∙ sym (has-mod k s j))
  where
    at : (j : ℕ) → Dec (j ≡ k) → (ltb j (suc k) && has s j) ≡ (ltb j k && has s j)
    at j (yes p) =
        let none : has s j ≡ false = ap (has s) p ∙ e in
        ap (λ x. ltb j (suc k) && x) none ∙ and-false (ltb j (suc k)) ∙ sym (ap (λ x. ltb j k && x) none ∙ and-false (ltb j k))
    at j (no d) = ap (λ x. x && has s j) (ltb-step j k d)

-- N with its edges below k alone.
below : Network → ℕ → Network
below N k = rewired N (present N % 2 ^ k) (prefix k N.first) (prefix k N.second) (prefix k N.metres)

-- Two networks with the same nodes and terminals are equal if their edges, ends and metres are.
rewired-equal : (N : Network) {p p' : ℕ} {f f' g g' h h' : List ℕ} → p ≡ p' → f ≡ f' → g ≡ g' → h ≡ h' → rewired N p f g h ≡ rewired N p' f' g' h'
rewired-equal N a b c d = λ i. rewired N (a i) (b i) (c i) (d i)

module _ (N : Network) (stored : Stored N) where
  below_none : bare N.nodes N.source N.sink ≡ below N 0
  unfolding below bare prefix
  below_none = rewired-equal N (sym (mod-one (present N))) refl refl refl

  below_all : below N 64 ≡ N
  unfolding below
  below_all =
      rewired-equal N (mod-eq_of_lt stored.edges) (prefix-all N.first stored.firsts) (prefix-all N.second stored.seconds)
      (prefix-all N.metres stored.lengths)

  below-edge : (k : ℕ) → k < 64 → has_edge N k ≡ true → with_edge (below N k) k (first_end N k) (second_end N k) (metres_of N k) ≡ below N (suc k)
  unfolding below with_edge
  below-edge k l e =
      rewired-equal N (below_more (present N) k e) (prefix-set k N.first l stored.firsts)
      (prefix-set k N.second l stored.seconds) (prefix-set k N.metres l stored.lengths)

  below-absent : (k : ℕ) → k < 64 → slot N k ≡ empty → below N (suc k) ≡ below N k
  unfolding below
  below-absent k l e =
      rewired-equal N (below-same (present N) k (ap (λ (x : Slot). x.0) e))
      (prefix-zero k N.first l stored.firsts (ap (λ (x : Slot). x.1) e))
      (prefix-zero k N.second l stored.seconds (ap (λ (x : Slot). x.2) e))
      (prefix-zero k N.metres l stored.lengths (ap (λ (x : Slot). x.3) e))

-- A slot without a fault holds an edge with good ends, or nothing.
slot_cases : (N : Network) (k : ℕ) → slot_fault N k ≡ 0 → (b : Bool) → has_edge N k ≡ b
    → ((b ≡ true) × (end_fault N.nodes (first_end N k) (second_end N k) ≡ 0)) ⊎ (slot N k ≡ empty)
unfolding slot_fault
slot_cases N k z true e = inl (refl, (rw e at z))
slot_cases N k z false e =
    let zeros = absent_none (first_end N k) (second_end N k) (metres_of N k) (rw e at z) in
    inr (λ i. (e i, zeros.0 i, zeros.1 i, zeros.2 i))

rest-edge : (N : Network) (k n : ℕ) → has_edge N k ≡ true
    → rest N k (suc n) ≡ 0x43 ∷ k ∷ first_end N k ∷ second_end N k ∷ (length_command k (metres_of N k) ++ rest N (suc k) n)
rest-edge N k n e =
    let here : slot N k ≡ (true, first_end N k, second_end N k, metres_of N k) = λ i. (e i, first_end N k, second_end N k, metres_of N k) in
    rest-first N k n ∙ ap (λ c. c ++ rest N (suc k) n) (command-of N k here)

rest-absent : (N : Network) (k n : ℕ) → has_edge N k ≡ false → rest N k (suc n) ≡ rest N (suc k) n
rest-absent N k n e = rest-first N k n ∙ ap (λ c. c ++ rest N (suc k) n) (command-absent N k e)

-- No length comes first.
rest-start : (N : Network) (n k : ℕ) → at (rest N k n) 0 ≡ 0x4D → ⊥
rest-start N zero k e = let bad : ◌≡◌ {A = ℕ} 0x45 0x4D = sym (ap (λ s. at s 0) (rest-none N k)) ∙ e in omega arith
rest-start N (suc n) k e = go (rest-start N n (suc k)) (has_edge N k) refl
  where
    go : (at (rest N (suc k) n) 0 ≡ 0x4D → ⊥) → (b : Bool) → has_edge N k ≡ b → ⊥
    go later true p = let bad : ◌≡◌ {A = ℕ} 0x43 0x4D = sym (ap (λ s. at s 0) (rest-edge N k n p)) ∙ e in omega arith
    go later false p = later (sym (ap (λ s. at s 0) (rest-absent N k n p)) ∙ e)

module _ (N : Network) (stored : Stored N) (sound : (k : ℕ) → k < 64 → slot_fault N k ≡ 0) where
  -- The commands of N from slot k on, read into the edges below k, give N.
  abbrev ReadFrom : ℕ → Type 0
  ReadFrom left =
      (k next turns : ℕ) → k + left ≡ 64 → next ≤ k → length (rest N k left) ≤ turns → edges turns (below N k) next (rest N k left) ≡ accept N

  read_none : ReadFrom 0
  read_none k next zero e h t = absurd (omega (arith, ap length (rest-none N k)))
  read_none k next (suc turns) e h t =
      let all : k ≡ 64 = omega arith in
      ap (edges (suc turns) (below N k) next) (rest-none N k)
      ∙ edges-end turns (below N k) next (0x45 ∷ []) (end-taken (below N k).nodes next) ∙ ap accept (ap (below N) all ∙ below_all N stored)

  read_more : (left : ℕ) → ReadFrom left → ReadFrom (suc left)
  unfolding below
  read_more left later k next turns e h t = go (slot_cases N k (sound k (omega arith)) (has_edge N k) refl)
    where
      -- An edge takes a turn.
      edge-read : (turns : ℕ) → length (rest N k (suc left)) ≤ turns → has_edge N k ≡ true
          → end_fault N.nodes (first_end N k) (second_end N k) ≡ 0 → edges turns (below N k) next (rest N k (suc left)) ≡ accept N
      edge-read zero t p f = absurd (omega (arith, ap length (rest-edge N k left p)))
      edge-read (suc turns) t p f =
          let m : ℕ = metres_of N k in
          let after : List ℕ = rest N (suc k) left in
          let bytes = rest-edge N k left p in
          let l : k < 64 = omega arith in
          let shorter : length after ≤ turns = omega (arith, ap length bytes, length-append (length_command k m) after) in
          ap (edges (suc turns) (below N k) next) bytes
          ∙ edges-edge turns (below N k) next (0x43 ∷ k ∷ first_end N k ∷ second_end N k ∷ (length_command k m ++ after))
          (edge-taken N.nodes next k (first_end N k) (second_end N k) (length_command k m ++ after) h l f)
          (length_taken k m after (rest-start N left (suc k)))
          ∙ ap₂ (λ x y. edges turns x (suc k) y) (below-edge N stored k l p) (length-left k m after)
          ∙ later (suc k) (suc k) turns (omega arith) (omega arith) shorter

      go : ((has_edge N k ≡ true) × (end_fault N.nodes (first_end N k) (second_end N k) ≡ 0)) ⊎ (slot N k ≡ empty)
          → edges turns (below N k) next (rest N k (suc left)) ≡ accept N
      go (inl p) = edge-read turns t p.0 p.1
      go (inr p) =
          let bytes = rest-absent N k left (ap (λ (x : Slot). x.0) p) in
          let same : length (rest N (suc k) left) ≤ turns = omega (arith, ap length bytes) in
          ap₂ (λ x y. edges turns x next y) (sym (below-absent N stored k (omega arith) p)) bytes
          ∙ later (suc k) next turns (omega arith) (omega arith) same

  read-from : (left : ℕ) → ReadFrom left
  read-from zero = read_none
  read-from (suc left) = read_more left (read-from left)

-- Reading what was written gives the same record, for every accepted record.
pub encode-decode : (N : Network) → Stored N → fault_of N ≡ 0 → decode_of (encode_of N) ≡ accept N
encode-decode N stored z =
    let a = accepted N z in
    ap decode_of (encode-header N)
    ∙ terminals-goes (0x50 ∷ N.nodes ∷ 0x53 ∷ N.source ∷ N.sink ∷ rest N 0 64) refl (size-taken node_width N.nodes _ a.size) refl
    (terminals-taken N.nodes N.source N.sink _ a.terminals)
    ∙ ap (λ x. edges (length (rest N 0 64)) x 0 (rest N 0 64)) (below_none N stored)
    ∙ read-from N stored a.slot-none 64 0 0 (length (rest N 0 64)) refl zero-le (le_refl _)

-- ---- the longest plan

-- A slot has at most eight bytes.
command-length : (N : Network) (k : ℕ) → length (edge_command N k) ≤ 8
unfolding edge_command length_command
command-length N k = go (has_edge N k) (eqb (metres_of N k) 0)
  where
    go : (b z : Bool)
        → length (cond b (0x43 ∷ k ∷ first_end N k ∷ second_end N k ∷ cond z [] (0x4D ∷ k ∷ metres_of N k / 256 ∷ metres_of N k % 256 ∷ [])) []) ≤ 8
    go true true = omega arith
    go true false = omega arith
    go false z = omega arith

commands-length : (N : Network) (n k : ℕ) → length (rest N k n) ≤ 8 * n + 1
commands-length N zero k = omega (arith, ap length (rest-none N k))
commands-length N (suc n) k =
    let more : length (rest N k (suc n)) ≡ length (edge_command N k) + length (rest N (suc k) n) =
    ap length (rest-first N k n) ∙ length-append (edge_command N k) (rest N (suc k) n) in
    omega (arith, command-length N k, commands-length N n (suc k))

-- A plan has at most 518 bytes.
pub encode-length : (N : Network) → length (encode_of N) ≤ 518
encode-length N = omega (arith, encode-size N, commands-length N 64 0)

-- ---- the writer's steps

-- A buffer keeps its length.
pub written-length : (e l : List ℕ) (n : ℕ) (p : List ℕ) → WrittenTo e l n p → length p ≡ length l
written-length e l n p w =
    ap length w.bytes ∙ length-append (take n e) (drop n l)
    ∙ omega (arith, length-take-le n e w.within, length-drop n l, w.within, w.room)

-- The bytes vs that come next in the plan are stored, and then more of it is written.
module _ (e l p : List ℕ) (at : ℕ) (vs later : List ℕ) (w : WrittenTo e l at p) (r : drop at e ≡ vs ++ later) where
  -- They fit.
  next_fits : at + length vs ≤ length e
  next_fits = omega (arith, w.within, sym (length-drop at e) ∙ ap length r ∙ length-append vs later)

  full : length (take at e) ≡ at
  full = length-take-le at e w.within

  longer : length p ≡ length l
  longer = written-length e l at p w

  pub next-room : at + length vs ≤ length p
  next-room = omega (arith, longer, next_fits, w.room)

  past : drop (at + length vs) p ≡ drop (at + length vs) l
  past =
      sym (drop-drop (length vs) at p)
      ∙ ap (drop (length vs)) (ap (drop at) w.bytes ∙ drop_at (take at e) (drop at l) at full)
      ∙ drop-drop (length vs) at l

  pub written_next : WrittenTo e l (at + length vs) (sets p at vs)
  written_next = record {
    within = next_fits;
    room = w.room;
    bytes =
        sets-eq vs p at next-room
        ∙ ap₂ (λ x y. x ++ vs ++ y) (ap (take at) w.bytes ∙ take_at (take at e) (drop at l) at full) past
        ∙ ap (λ x. x ++ drop (at + length vs) l)
        (sym (take-add at (length vs) e ∙ ap (λ x. take at e ++ x) (ap (take (length vs)) r ∙ take-append_seam vs later)));
  }

  pub left-next : drop (at + length vs) e ≡ later
  left-next = sym (drop-drop (length vs) at e) ∙ ap (drop (length vs)) r ∙ drop-append_seam vs later
