-- Text in lent memory.
-- To believe.
--
--   HasRoom p t            the page p has room for the text t behind what is written  [working]
--   Appended p t q         the page p has become q by writing t, byte by byte, behind what was written  [working]
--   Printed t b a r        the bytes b have become a: t stands in front, what comes after it is as it was, and r is the length of t
use Rattle.std.specs.Prelude.{◌≡◌, List, ◌++◌, ℕ, ◌+◌, ◌≤◌, length, drop}
use Rattle.std.proofs.lemmas.List.Edits.{sets}
use Rattle.text.specs.declared.Page.{Page}

pub record HasRoom (p : Page) (t : List ℕ) : Type 0 where
  pub within : p.len + length t ≤ length p.bytes.now

pub record Appended (p : Page) (t : List ℕ) (q : Page) : Type 0 where
  pub same_memory : q.bytes.ghost_name ≡ p.bytes.ghost_name
  pub len : q.len ≡ p.len + length t
  pub bytes : q.bytes.now ≡ sets p.bytes.now p.len t

pub record Printed (t b a : List ℕ) (r : ℕ) : Type 0 where
  pub count : r ≡ length t
  pub bytes : a ≡ t ++ drop (length t) b
