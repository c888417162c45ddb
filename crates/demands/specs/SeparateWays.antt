-- Separate ways (02): the fewest cables in any row of a complete list are as many as the most routes of which no two share a cable.
-- To believe.
--
--   Matched N n cuts     the two are one number: the fewest edges in any of the first n rows, and the most minpaths of which no two share an
--                        edge; it is 0 exactly if there is no minpath
--   SeparateWays         after every complete list call they are; and what shows the number without a list
use Rattle.std.specs.Prelude.{List, ◌↔◌, ◌≡◌, ℕ, ◌≤◌, length}
use Rattle.sequences.specs.Distinct.{Distinct}
use Rattle.bitset.specs.Members.{size}
use Rattle.network.specs.declared.Network.{Network}
use Rattle.network.specs.Record.{Stored, fault_of}
use Rattle.format.specs.Format.{decode_of}
use Rattle.graph.specs.Paths.{Minpath}
use Rattle.graph.specs.Cuts.{Cut, Mincut}
use Rattle.menger.specs.Separate.{Apart, Most, Fewest}
use Rattle.listing.specs.List.{listed_by, cut_rows_after}
use Rattle.listing.specs.Trimmed.{trimmed_listed_by, trimmed_cut_rows}

pub record Matched (N : Network) (n : ℕ) (cuts : List ℕ) : Type 0 where
  pub number : ℕ
  pub fewest : Fewest n cuts number
  pub most : Most N number
  -- No number is one of the two and not the other.
  pub same : (k : ℕ) → Fewest n cuts k ↔ Most N k
  pub no-route : ((r : ℕ) → Minpath N r → ⊥) ↔ (number ≡ 0)

pub record SeparateWays : Type 0 where
  pub lists : (N : Network) → Stored N → (cuts sides : List ℕ) → (listed_by N cuts sides).refusal ≡ 0
      → Matched N (listed_by N cuts sides).count (cut_rows_after N cuts sides)
  -- The same of a plan in bytes that the reader accepted: its list is that of the record read.
  pub lists-bytes : (s : List ℕ) → (decode_of s).refusal ≡ 0 → (cuts sides : List ℕ) → (listed_by (decode_of s).network cuts sides).refusal ≡ 0
      → Matched (decode_of s).network (listed_by (decode_of s).network cuts sides).count (cut_rows_after (decode_of s).network cuts sides)
  -- And of a plan that was trimmed already, by the call that lists it as such.
  pub trimmed : (N : Network) → Stored N → (cuts sides : List ℕ) → (trimmed_listed_by N cuts sides).refusal ≡ 0
      → Matched N (trimmed_listed_by N cuts sides).count (trimmed_cut_rows N cuts sides)
  -- No route stands among separate ways twice.
  pub different : (N : Network) → Stored N → fault_of N ≡ 0 → (l : List ℕ) → Apart N l → Distinct l
  -- However long the list is: separate ways and a cut with as many cables show that no more ways are apart, that no cut has fewer cables,
  -- and that this one is minimal, and so a row of every complete list.
  pub shown : (N : Network) → Stored N → fault_of N ≡ 0 → (l : List ℕ) → Apart N l → (c : ℕ) → Cut N c → length l ≡ size 64 c
      → Most N (length l) × Mincut N c × ((d : ℕ) → Cut N d → size 64 c ≤ size 64 d)
