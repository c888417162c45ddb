-- `put` meets its contract: a word is stored into each area, past the end of which a store changes nothing.
-- Assumes nothing.
use native.Mathlib.Omega.{arith}
use Rattle.enumeration.proofs.rows.Rows.put.Goals as goal

pub returns-clause-put : goal.returns-clause-put
returns-clause-put c = record { count = omega arith; put-cuts = c.put_word.ensures; put_sides = c.put_word-2.ensures }
