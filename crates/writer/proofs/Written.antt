-- What has been written, some bytes after others.
-- Assumes nothing.
use mathlib.Core.Path.{◌≡◌, ap, ◌∙◌}
use mathlib.Core.List.{List, ◌++◌}
use Prim.Native.Nat.{ℕ, ◌+◌}
use native.Mathlib.Omega.{arith}
use lib.ListN.{length, length-append}
use lib.Seq.{length-sets}
use Rattle.sequences.proofs.Stores.{sets-append}
use Rattle.writer.specs.declared.Plan.{Plan}
use Rattle.writer.specs.Written.{HasRoom, Appended}

-- Bytes written behind others are the two written joined.
pub appended-bytes : {p q r : Plan} {c d : List ℕ} → Appended p c q → Appended q d r → Appended p (c ++ d) r
appended-bytes {p} {q} {r} {c} {d} v w = record {
  same_memory = w.same_memory ∙ v.same_memory;
  len = rw length-append (omega (arith, v.len, w.len));
  bytes = rw (w.bytes, v.bytes, v.len) (sets-append p.bytes.now p.len c d);
}

-- Where there is room for bytes, there is for their front.
pub room-front : {p : Plan} {c : List ℕ} (d : List ℕ) → HasRoom p (c ++ d) → HasRoom p c
room-front {p} {c} d h = record { within = omega (arith, h.within, length-append c d) }

-- Writing leaves the buffer as long as it was.
pub appended-length : {p q : Plan} {c : List ℕ} → Appended p c q → length q.bytes.now ≡ length p.bytes.now
appended-length {p} {q} {c} w = ap length w.bytes ∙ length-sets p.bytes.now p.len c

-- When as much as the front is written, there is room for the rest.
pub room-after : {p q : Plan} (c d : List ℕ) → HasRoom p (c ++ d) → q.len ≡ p.len + length c → length q.bytes.now ≡ length p.bytes.now
    → HasRoom q d
room-after {p} {q} c d h at same = record { within = omega (arith, h.within, length-append c d, at, same) }

-- When the front is written, there is room for the rest.
pub room-rest : {p q : Plan} {c d : List ℕ} → HasRoom p (c ++ d) → Appended p c q → HasRoom q d
room-rest {p} {q} {c} {d} h w = room-after c d h w.len (appended-length w)
