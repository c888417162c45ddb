-- What the reader accepts: the bytes are the record's own, and the record passes its test.
-- Assumes nothing.
--
--   Plan s N         what a plan's bytes say of the record that was read from them
--   Answer d         a refusal is one of the reader's, and beside it stands the all-zero record
use mathlib.Core.Bool.{true, false}
use mathlib.Core.List.{List, [], ◌∷◌, ◌++◌}
use mathlib.Core.Path.{◌≡◌, refl, ap, ap₂, sym, subst, ◌∙◌}
use Prim.Native.Nat.{ℕ, zero, suc, ◌+◌, ◌-◌, ◌≤◌, ◌<◌}
use native.Mathlib.Nat.{le_refl}
use native.Mathlib.Decide.{ℕ_discrete}
use native.Mathlib.Omega.{arith}
use lib.Dec.{T}
use lib.ListN.{length, drop, get_or-replicate, length-append}
use Rattle.bitset.proofs.Members.{has-zero}
use Rattle.network.specs.declared.Network.{Network}
use Rattle.network.specs.Record.{among, Stored, Slot, slot, slot_fault, end_fault, absent_fault, fault_of, bare, with_edge, has_edge, first_end, second_end, metres_of, no_network}
use Rattle.network.proofs.Rules.{fault-rules}
use Rattle.network.proofs.Slots.{empty, slot_fault-of, with_edge-same, with_edge-other, with_edge-stored, with_edge-faultless, accepted-none}
use Rattle.format.specs.Format.{Decoded, reader_refusals, at, Bytes, accept, refuse, edges, decode_of, command_of, encode_of}
use Rattle.format.specs.Meaning.{ReadMeans}
use Rattle.format.proofs.Walk.{HeaderView, header, header-view, EdgeRead, TurnView, turn, last, turn-view, bytes_drop}
use Rattle.format.proofs.Commands.{command-of, rest, rest-first, rest-skip, rest-none, encode-header, encode-size}

-- The slots of N from `next` on are empty.
abbrev EmptyFrom : Network → ℕ → Type 0
EmptyFrom N next = (j : ℕ) → next ≤ j → j < 64 → slot N j ≡ empty

-- An answer that is accepted is no refusal, and tells its record.
accept-network : {N M : Network} → accept N ≡ accept M → N ≡ M
accept-network e = ap (λ (d : Decoded). d.network) e

not-refused : {M : Network} {r : ℕ} → 0 < r → refuse r ≡ accept M → ⊥
not-refused {M} {r} p e = let z : r ≡ 0 = ap (λ (d : Decoded). d.refusal) e in omega arith

-- What the walk reads into N leaves the slots before `next` as they are.
pub edges-keep : (turns : ℕ) (N M : Network) (next : ℕ) (s : List ℕ) → Stored N → edges turns N next s ≡ accept M
    → (j : ℕ) → j < next → slot M j ≡ slot N j
unfolding edges
edges-keep zero N M next s stored q j h = absurd (not-refused (omega arith) q)
edges-keep (suc turns) N M next s stored q j h =
    go (λ k a b m s' l e p. edges-keep turns (with_edge N k a b m) M (suc k) s' (with_edge-stored N stored k a b m l) e j p) (turn-view N next s)
  where
    go : ((k a b m : ℕ) (s' : List ℕ) → k < 64 → edges turns (with_edge N k a b m) (suc k) s' ≡ accept M → j < suc k
        → slot M j ≡ slot (with_edge N k a b m) j)
        → TurnView N next s → slot M j ≡ slot N j
    go later (turn k a b m s' goes read n l f) =
        later k a b m s' l (sym (goes turns) ∙ q) (omega arith) ∙ with_edge-other N stored k a b m l j (λ e. omega arith)
    go later (last goes p) = ap (λ (x : Network). slot x j) (sym (accept-network (sym (goes turns) ∙ q)))
    go later (TurnView.refused r goes p b) = absurd (not-refused p (sym (goes turns) ∙ q))

-- So the edge that it read last is there at the end.
module _ (turns : ℕ) (N : Network) (stored : Stored N) (k a b m : ℕ) (s : List ℕ) (l : k < 64) where
  abbrev answer : Decoded
  answer = edges turns (with_edge N k a b m) (suc k) s

  pub edge_kept : answer.refusal ≡ 0 → slot answer.network k ≡ (true, a, b, m)
  edge_kept ok =
      edges-keep turns (with_edge N k a b m) answer.network (suc k) s (with_edge-stored N stored k a b m l)
      (λ i. record { refusal = ok i; network = answer.network }) k (omega arith)
      ∙ with_edge-same N stored k a b m l

-- What it means that M was read into N from the bytes s, which held the slots from `next` on, `left` of them.
record Read (N M : Network) (next left : ℕ) (s : List ℕ) : Type 0 where
  size : length s ≡ length (rest M next left)
  bytes : Bytes s → s ≡ rest M next left
  nodes : M.nodes ≡ N.nodes
  source : M.source ≡ N.source
  sink : M.sink ≡ N.sink
  stored : Stored M
  sound : ((j : ℕ) → j < 64 → slot_fault N j ≡ 0) → (j : ℕ) → j < 64 → slot_fault M j ≡ 0

-- At the end nothing more is read.
read-end : (N : Network) (next left : ℕ) → next + left ≡ 64 → Stored N → EmptyFrom N next → Read N N next left (0x45 ∷ [])
read-end N next left e stored none =
    let all : 0x45 ∷ [] ≡ rest N next left =
    sym (rest-skip N next left 64 0 (omega arith) (omega arith) (λ j h l. ap (λ (x : Slot). x.0) (none j h l)) ∙ rest-none N 64) in
    record {
      size = ap length all;
      bytes = λ c. all;
      nodes = refl;
      source = refl;
      sink = refl;
      stored = stored;
      sound = λ z. z;
    }

-- An edge that is put in leaves the later slots empty.
empty-later : (N : Network) (stored : Stored N) (next k a b m : ℕ) → next ≤ k → k < 64 → EmptyFrom N next → EmptyFrom (with_edge N k a b m) (suc k)
empty-later N stored next k a b m h l none j p q = with_edge-other N stored k a b m l j (λ e. omega arith) ∙ none j (omega arith) q

-- An edge is read with its length, and then the rest.
read-edge : (N M : Network) (next left k a b m left' : ℕ) (s s' : List ℕ) → next + left ≡ 64 → suc k + left' ≡ 64 → Stored N → EmptyFrom N next
    → next ≤ k → k < 64 → end_fault N.nodes a b ≡ 0 → ((j : ℕ) → j < suc k → slot M j ≡ slot (with_edge N k a b m) j)
    → EdgeRead k a b m s s' → Read (with_edge N k a b m) M (suc k) left' s' → Read N M next left s
unfolding with_edge slot_fault
read-edge N M next left k a b m left' s s' e e' stored none h l f kept read r =
    let here : slot M k ≡ (true, a, b, m) = kept k (omega arith) ∙ with_edge-same N stored k a b m l in
    let between : (j : ℕ) → next ≤ j → j < k → has_edge M j ≡ false =
    λ j p q. ap (λ (x : Slot). x.0) (kept j (omega arith) ∙ with_edge-other N stored k a b m l j (λ e. omega arith) ∙ none j p (omega arith)) in
    let all : rest M next left ≡ command_of k (true, a, b, m) ++ rest M (suc k) left' =
    rest-skip M next left k (suc left') h (omega arith) between ∙ rest-first M k left'
    ∙ ap (λ c. c ++ rest M (suc k) left') (command-of M k here) in
    record {
      size =
          read.size ∙ ap (λ n. length (command_of k (true, a, b, m)) + n) r.size
          ∙ sym (ap length all ∙ length-append (command_of k (true, a, b, m)) (rest M (suc k) left'));
      bytes = λ c. read.bytes c ∙ ap (λ x. command_of k (true, a, b, m) ++ x) (r.bytes (read.left c)) ∙ sym all;
      nodes = r.nodes;
      source = r.source;
      sink = r.sink;
      stored = r.stored;
      sound = λ z. r.sound (with_edge-faultless N stored k a b m l f z);
    }

-- Whatever the walk accepts in so many turns was read from its own bytes.
abbrev Reads : ℕ → Network → Type 0
Reads turns M =
    (N : Network) (next left : ℕ) (s : List ℕ) → length s ≤ turns → next + left ≡ 64 → Stored N → EmptyFrom N next
    → edges turns N next s ≡ accept M → Read N M next left s

reads_more : (turns : ℕ) (M : Network) → Reads turns M → Reads (suc turns) M
reads_more turns M before N next left s t e stored none q = go (turn-view N next s)
  where
    go : TurnView N next s → Read N M next left s
    go (turn k a b m s' goes read h l f) =
        let later : edges turns (with_edge N k a b m) (suc k) s' ≡ accept M = sym (goes turns) ∙ q in
        let stored' = with_edge-stored N stored k a b m l in
        read-edge N M next left k a b m (63 - k) s s' e (omega arith) stored none h l f
        (edges-keep turns (with_edge N k a b m) M (suc k) s' stored' later) read
        (before (with_edge N k a b m) (suc k) (63 - k) s' (omega (arith, read.size)) (omega arith) stored' (empty-later N stored next k a b m h l none) later)
    go (last goes p) =
        rw p (subst (λ (x : Network). Read N x next left (0x45 ∷ [])) (accept-network (sym (goes turns) ∙ q)) (read-end N next left e stored none))
    go (TurnView.refused r goes p b) = absurd (not-refused p (sym (goes turns) ∙ q))

edges-read : (turns : ℕ) (M : Network) → Reads turns M
unfolding edges
edges-read zero M N next left s t e stored none q = absurd (not-refused (omega arith) q)
edges-read (suc turns) M N next left s t e stored none q =
    reads_more turns M (λ N' next' left' s'. edges-read turns M N' next' left' s') N next left s t e stored none q

-- ---- the whole plan

-- A network without edges has empty slots, and none of them has a fault.
bare-empty : (n s t j : ℕ) → j < 64 → slot (bare n s t) j ≡ empty
unfolding bare
bare-empty n s t j l =
    let p : has_edge (bare n s t) j ≡ false = has-zero j in
    let f : first_end (bare n s t) j ≡ 0 = get_or-replicate 64 j 0 0 l in
    let g : second_end (bare n s t) j ≡ 0 = get_or-replicate 64 j 0 0 l in
    let h : metres_of (bare n s t) j ≡ 0 = get_or-replicate 64 j 0 0 l in
    λ i. (p i, f i, g i, h i)

pub bare-stored : (n s t : ℕ) → Stored (bare n s t)
unfolding bare
bare-stored n s t = record { firsts = refl; seconds = refl; lengths = refl; edges = omega arith }

bare-sound : (n s t j : ℕ) → j < 64 → slot_fault (bare n s t) j ≡ 0
unfolding absent_fault Rattle.network.specs.Record.◌when◌
bare-sound n s t j l = slot_fault-of (bare n s t) j (bare-empty n s t j l)

-- What a plan's bytes say of the record that was read from them.
pub record Plan (s : List ℕ) (N : Network) : Type 0 where
  pub size : length (encode_of N) ≡ length s
  pub bytes : Bytes s → encode_of N ≡ s
  pub points : N.nodes ≡ at s 1
  pub accepted : fault_of N ≡ 0
  pub stored : Stored N

-- Bytes that are accepted are the bytes of the record read, and it passes the record test.
pub decode-plan : (s : List ℕ) (N : Network) → decode_of s ≡ accept N → Plan s N
unfolding bare
decode-plan s N q = go (header-view s)
  where
    go : HeaderView s → Plan s N
    go (header n a b s' on p f g) =
        let r = edges-read (length s') N (bare n a b) 0 64 s' (le_refl (length s')) refl (bare-stored n a b) (λ j h l. bare-empty n a b j l) (sym on ∙ q) in
        let left : drop 5 s ≡ s' = ap (drop 5) p in
        record {
          size = encode-size N ∙ omega (arith, r.size, ap length p);
          bytes = λ c.
              let after : Bytes s' = rw left at (bytes_drop 5 s c) in
              encode-header N
              ∙ ap₂ (λ x y. 0x50 ∷ x ∷ 0x53 ∷ N.source ∷ N.sink ∷ y) r.nodes (sym (r.bytes after))
              ∙ ap₂ (λ x y. 0x50 ∷ n ∷ 0x53 ∷ x ∷ y ∷ s') r.source r.sink
              ∙ sym p;
          points = r.nodes ∙ sym (ap (λ x. at x 1) p);
          accepted =
              accepted-none N (record {
                size = rw r.nodes f;
                terminals = rw (r.nodes, r.source, r.sink) g;
                slot-none = r.sound (λ j l. bare-sound n a b j l);
              });
          stored = r.stored;
        }
    go (HeaderView.refused r e p b) = absurd (not-refused p (sym e ∙ q))

-- The refusal's number alone says whether the bytes are accepted.
pub accepts : (s : List ℕ) → (decode_of s).refusal ≡ 0 → decode_of s ≡ accept (decode_of s).network
accepts s e = λ i. record { refusal = e i; network = (decode_of s).network }

-- ---- refusals

-- A refusal is one of the reader's, and beside it stands the all-zero record.
pub record Answer (d : Decoded) : Type 0 where
  pub number : T (among reader_refusals d.refusal)
  pub zeroed : (d.refusal ≡ 0 → ⊥) → d.network ≡ no_network

accept-answer : (N : Network) → Answer (accept N)
unfolding among
accept-answer N = record { number = tt; zeroed = λ h. absurd (h refl) }

refuse-answer : (r : ℕ) → T (among reader_refusals r) → Answer (refuse r)
refuse-answer r b = record { number = b; zeroed = λ h. refl }

edges-answer : (turns : ℕ) (N : Network) (next : ℕ) (s : List ℕ) → Answer (edges turns N next s)
unfolding among edges
edges-answer zero N next s = refuse-answer 1 tt
edges-answer (suc turns) N next s = go (λ k a b m s'. edges-answer turns (with_edge N k a b m) (suc k) s') (turn-view N next s)
  where
    go : ((k a b m : ℕ) (s' : List ℕ) → Answer (edges turns (with_edge N k a b m) (suc k) s')) → TurnView N next s
        → Answer (edges (suc turns) N next s)
    go later (turn k a b m s' goes read h l f) = subst Answer (sym (goes turns)) (later k a b m s')
    go later (last goes p) = subst Answer (sym (goes turns)) (accept-answer N)
    go later (TurnView.refused r goes p b) = subst Answer (sym (goes turns)) (refuse-answer r b)

pub decode-answer : (s : List ℕ) → Answer (decode_of s)
decode-answer s = go (header-view s)
  where
    go : HeaderView s → Answer (decode_of s)
    go (header n a b rest on p f g) = subst Answer (sym on) (edges-answer (length rest) (bare n a b) 0 rest)
    go (HeaderView.refused r e p b) = subst Answer (sym e) (refuse-answer r b)

-- ---- what the answer means

-- Beside the answer stands what it means.
pub read-means : (s : List ℕ) → Bytes s → {d : Decoded} → d ≡ decode_of s → (d ≡ decode_of s) × ReadMeans s d.refusal d.network
read-means s given e = (e, rw e (go (ℕ_discrete (decode_of s).refusal 0)))
  where
    go : Dec ((decode_of s).refusal ≡ 0) → ReadMeans s (decode_of s).refusal (decode_of s).network
    go (yes none) =
        let plan = decode-plan s (decode_of s).network (accepts s none) in
        record { given = given; stored = plan.stored; rules = λ z. (fault-rules (decode_of s).network).0 plan.accepted; bytes = λ z. plan.bytes given }
    go (no some) =
        record { given = given; stored = rw ((decode-answer s).zeroed some) (bare-stored 0 0 0); rules = λ z. absurd (some z); bytes = λ z. absurd (some z) }
