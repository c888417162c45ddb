-- Demand 2: a set of cables stands in a complete list exactly if it is a minimal cut, once and in rising order, and beside it stand exactly
-- the useful points still on the server's side; what was written reads back, and what was read is written again unchanged.
-- Assumes what the code's types say of the records.
use mathlib.Core.Path.{◌≡◌, refl, sym, ap, ◌∙◌}
use mathlib.Core.List.{List, ◌++◌}
use Prim.Native.Nat.{ℕ, ◌≤◌}
use borrow.Author.Tests.{le-ltb}
use lib.ListN.{length, drop}
use Rattle.network.specs.declared.Network.{Network}
use Rattle.network.specs.Record.{Stored}
use Rattle.network.proofs.Refusals.{none_then, none-when}
use Rattle.format.specs.Format.{Bytes, decode_of, encode_of, encode_refusal, encoded_by, bytes_after}
use Rattle.format.proofs.Reading.{accepts, decode-plan}
use Rattle.writer.proofs.Encoding.{encode-written, reads-back}
use Rattle.graph.specs.Lists.{CompleteList}
use Rattle.listing.specs.List.{listed_by, cut_rows_after, side_rows_after}
use Rattle.listing.proofs.Meaning.{call-complete}
use Rattle.demands.specs.Demands.{DemandTwo}

-- Every list call that gave the refusal 0 left the complete list.
list : (N : Network) → Stored N → (cuts sides : List ℕ) → (listed_by N cuts sides).refusal ≡ 0
    → CompleteList N (listed_by N cuts sides).count (cut_rows_after N cuts sides) (side_rows_after N cuts sides)
list N stored cuts sides = call-complete N stored cuts sides (refl, refl, refl)

-- The record of a plan that the reader accepted has 64 slots.
pub read-stored : (s : List ℕ) → (decode_of s).refusal ≡ 0 → Stored (decode_of s).network
read-stored s e = (decode-plan s (decode_of s).network (accepts s e)).stored

-- Accepted bytes are written again unchanged.
writes_again : (s : List ℕ) → Bytes s → (decode_of s).refusal ≡ 0 → (lent : List ℕ) → length s ≤ length lent
    → (encoded_by (decode_of s).network lent ≡ record { refusal = 0; count = length s })
    × (bytes_after (decode_of s).network lent ≡ s ++ drop (length s) lent)
unfolding encode_refusal
writes_again s given e lent room =
    let N : Network = (decode_of s).network in
    let plan = decode-plan s N (accepts s e) in
    let same : encode_of N ≡ s = plan.bytes given in
    let fits : length (encode_of N) ≤ length lent = rw same room in
    let left = encode-written N lent (length s) (s ++ drop (length s) lent) (none_then _ plan.accepted ∙ none-when 15 (le-ltb _ _ fits))
    (ap length (sym same)) (ap (λ (b : List ℕ). b ++ drop (length b) lent) (sym same)) in
    (sym left.0, sym left.1)

pub demand-two : DemandTwo
demand-two = record {
  list = list;
  list-bytes = λ s e. list (decode_of s).network (read-stored s e);
  reads-back = reads-back;
  writes_again = writes_again;
}
