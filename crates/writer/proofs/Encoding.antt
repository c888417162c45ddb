-- The writer as a whole: what it answers and leaves in the buffer on each way out.
-- Assumes nothing.
--
--   Answered N l answer after     for N and the buffer l the writer gives this answer and leaves `after`
use mathlib.Core.List.{List, [], ◌∷◌, ◌++◌, append_assoc}
use mathlib.Core.Path.{◌≡◌, refl, ap, ap₂, sym, ◌∙◌}
use Prim.Native.Nat.{ℕ, ◌+◌, ◌-◌, ◌≤◌, zero-le}
use native.Mathlib.Omega.{arith}
use lib.ListN.{length, take, drop, set, length-drop}
use lib.Seq.{sets, sets-eq, take_at, take-length, drop-drop, drop_at, length-take-le, length-sets}
use borrow.Rule.Slice.PartMut.{put_mid}
use Rattle.std.specs.Prelude.{Result, Ok, Err}
use Rattle.std.specs.Result.{IsErrAnd}
use Rattle.network.specs.declared.Network.{Network}
use Rattle.network.specs.Record.{fault_of, Stored}
use Rattle.network.specs.declared.refusal.Refusal.{Refusal}
use Rattle.network.specs.Refusals.{number_of}
use Rattle.network.proofs.Refusals.{then-none, number-some, refused-some}
use Rattle.format.specs.Format.{Encoded, encoded, accept, decode_of, encode_of, encode_refusal, encoded_by, bytes_after, WrittenTo}
use Rattle.format.specs.Meaning.{WrittenMeans}
use Rattle.format.proofs.Commands.{rest, rest_some, encode-header, encode-size}
use Rattle.format.proofs.Writing.{encode-decode, written_next, next-room}

-- What the writer answers and leaves.
abbrev pub Answered : Network → List ℕ → Encoded → List ℕ → Type 0
Answered N l answer after = (answer ≡ encoded_by N l) × (after ≡ bytes_after N l)

-- A refusal leaves the buffer as it was.
pub encode-refused : (N : Network) (l : List ℕ) (r : ℕ) → r ≡ encode_refusal N l → (r ≡ 0 → ⊥) → Answered N l (record { refusal = r; count = 0 }) l
unfolding encoded_by bytes_after
encode-refused N l r e some = rw (← e, refused-some r (length (encode_of N)) 0 some, refused-some r (encode_of N ++ drop (length (encode_of N)) l) l some) (refl, refl)

-- So does one that is passed on.
pub encode-passed : (N : Network) (l : List ℕ) (a : Result ℕ Refusal) (r : Refusal) → IsErrAnd a (λ e. e ≡ r) → number_of r ≡ encode_refusal N l
    → Answered N l (encoded a) l
encode-passed N l (Ok n) r h e = absurd h
encode-passed N l (Err q) r h e = encode-refused N l (number_of q) (ap number_of h ∙ e) (number-some q)

-- Without one the plan stands in it.
pub encode-written : (N : Network) (l : List ℕ) (n : ℕ) (after : List ℕ) → encode_refusal N l ≡ 0 → n ≡ length (encode_of N)
    → after ≡ encode_of N ++ drop (length (encode_of N)) l → Answered N l (record { refusal = 0; count = n }) after
unfolding encoded_by bytes_after
encode-written N l n after e count bytes = rw e (ap (λ (k : ℕ). record { refusal = 0; count = k }) count, bytes)

-- ---- what the answer means

-- A call that gave the refusal 0 was made on an accepted record, and has written its plan.
pub written-call : (N : Network) (l : List ℕ) → (encoded_by N l).refusal ≡ 0
    → (fault_of N ≡ 0)
    × Answered N l (record { refusal = 0; count = length (encode_of N) }) (encode_of N ++ drop (length (encode_of N)) l)
unfolding encode_refusal encoded_by
written-call N l e =
    ((then-none (fault_of N) _ e).0, encode-written N l (length (encode_of N)) _ e refl refl)

-- The plan that was written reads back as the record.
pub reads-back : (N : Network) → Stored N → (l : List ℕ) → (encoded_by N l).refusal ≡ 0
    → decode_of (take (encoded_by N l).count (bytes_after N l)) ≡ accept N
reads-back N stored l e =
    let (ok, left) = written-call N l e in
    rw (← left.0, ← left.1, take_at (encode_of N) (drop (length (encode_of N)) l) (length (encode_of N)) refl) (encode-decode N stored ok)

-- Beside the answer stands what it means.
pub written-means : (N : Network) → Stored N → (l : List ℕ) {answer : Encoded} {after : List ℕ} → Answered N l answer after
    → Answered N l answer after × WrittenMeans N answer.refusal answer.count after
written-means N stored l a =
    (a, record { stored = stored; reads-back = λ none. rw (a.0, a.1) (reads-back N stored l (sym (ap (λ (x : Encoded). x.refusal) a.0) ∙ none)) })

-- ---- the steps of the writer

-- To write over a part of the buffer is to store the bytes one after the other.
pub put-part : (at n : ℕ) (p bytes q : List ℕ) → length bytes ≡ n → at + n ≤ length p → q ≡ bytes → put_mid at (at + n - at) p q ≡ sets p at bytes
put-part at n p bytes q whole room e =
    let size : at + (at + n - at) ≡ at + length bytes = omega arith in
    ap₂ (λ x y. take at p ++ (x ++ y)) e (drop-drop (at + n - at) at p ∙ ap (λ k. drop k p) size)
    ∙ sym (append_assoc (take at p) bytes (drop (at + length bytes) p))
    ∙ sym (sets-eq bytes p at (omega arith))

-- What stands past the written bytes is what stood there.
past-written : (e l : List ℕ) (n : ℕ) (p : List ℕ) → WrittenTo e l n p → (m : ℕ) → n ≤ m → drop m p ≡ drop m l
past-written e l n p w m h =
    let k : n + (m - n) ≡ m = omega arith in
    let here : drop n p ≡ drop n l = ap (drop n) w.bytes ∙ drop_at (take n e) (drop n l) n (length-take-le n e w.within) in
    ap (λ x. drop x p) (sym k) ∙ sym (drop-drop (m - n) n p) ∙ ap (drop (m - n)) here ∙ drop-drop (m - n) n l ∙ ap (λ x. drop x l) k

module _ (N : Network) (l : List ℕ) (room : length (encode_of N) ≤ length l) where
  abbrev header : List ℕ
  header = 0x50 ∷ N.nodes ∷ 0x53 ∷ N.source ∷ N.sink ∷ []

  nothing_written : WrittenTo (encode_of N) l 0 l
  nothing_written = record { within = zero-le; room = room; bytes = refl }

  -- The plan begins with the header.
  header-first : drop 0 (encode_of N) ≡ header ++ rest N 0 64
  header-first = encode-header N

  pub header-room : 5 ≤ length l
  header-room = next-room (encode_of N) l l 0 header (rest N 0 64) nothing_written header-first

  abbrev headed : List ℕ
  headed = sets l 0 header

  header-written : WrittenTo (encode_of N) l 5 headed
  header-written = written_next (encode_of N) l l 0 header (rest N 0 64) nothing_written header-first

  -- The slots are written on top of what the header left.
  pub header-kept : WrittenTo (encode_of N) headed 5 headed
  header-kept = record {
    within = header-written.within;
    room = omega (arith, room, length-sets l 0 header);
    bytes =
        header-written.bytes
        ∙ ap (λ x. take 5 (encode_of N) ++ x) (sym (past-written (encode_of N) l 5 headed header-written 5 (omega arith)));
  }

  module _ (r : ℕ) (p : List ℕ) (w : WrittenTo (encode_of N) headed r p) (left : drop r (encode_of N) ≡ 0x45 ∷ []) where
    -- One byte is left.
    last_byte : length (encode_of N) ≡ r + 1
    last_byte = omega (arith, sym (length-drop r (encode_of N)) ∙ ap length left, w.within)

    slots-written : WrittenTo (encode_of N) l r p
    slots-written = record {
      within = w.within;
      room = room;
      bytes =
          w.bytes
          ∙ ap (λ x. take r (encode_of N) ++ x)
          (past-written (encode_of N) l 5 headed header-written r (omega (arith, last_byte, encode-size N, rest_some N 0 64)));
    }

    all-written : WrittenTo (encode_of N) l (r + 1) (set p r 0x45)
    all-written = written_next (encode_of N) l p r (0x45 ∷ []) [] slots-written left

    pub end-bytes : set p r 0x45 ≡ encode_of N ++ drop (length (encode_of N)) l
    end-bytes =
        all-written.bytes ∙ ap (λ n. take n (encode_of N) ++ drop n l) (sym last_byte)
        ∙ ap (λ x. x ++ drop (length (encode_of N)) l) (take-length (encode_of N))
