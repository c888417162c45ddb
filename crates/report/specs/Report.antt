-- What the list program prints (the paper's section "The list program").
-- To believe.
--
--   list_report N    of a network: its list, or the refusal 12 if it has more minimal cuts than rows are lent
--   report_of s      of the bytes s: the reader's refusal, or the report of the network read
--   Reported plan read b a r     for every input s whose first bytes, as many as the plan has room for, are the plan's first `read`:
--                    the bytes b of a page have become a, the report of all of s in front, and r is its length
use Rattle.std.specs.Prelude.{◌≡◌, true, false, List, ℕ, ltb, length, take}
use Rattle.network.specs.declared.Network.{Network}
use Rattle.network.specs.Record.{unless_refused}
use Rattle.format.specs.Format.{decode_of}
use Rattle.text.specs.Text.{refusal_line, list_text, max_rows}
use Rattle.text.specs.Written.{Printed}
use Rattle.listing.specs.List.{mincuts, source_sides}

unfoldable pub list_report : Network → List ℕ
list_report N =
    elim (ltb max_rows (length (mincuts N))) [ true ↦ refusal_line 12 | false ↦ list_text (mincuts N) (source_sides N) ]

unfoldable pub report_of : List ℕ → List ℕ
report_of s = let d = decode_of s in unless_refused d.refusal (list_report d.network) (refusal_line d.refusal)

pub record Reported (plan : List ℕ) (read : ℕ) (b a : List ℕ) (r : ℕ) : Type 0 where
  pub printed : (s : List ℕ) → take read plan ≡ take (length plan) s → Printed (report_of s) b a r
