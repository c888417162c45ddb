-- Commands in lent memory.
-- To believe.
--
--   HasRoom p c            the plan p has room for the bytes c behind what is written  [working]
--   Appended p c q         the plan p has become q by writing c, byte by byte, behind what was written  [working]
--   EdgesAppended N p q    the plan p holds the header, and has become q by writing all of N's plan but the end  [working]
use Rattle.std.specs.Prelude.{◌≡◌, List, [], ◌∷◌, ℕ, ◌+◌, ◌≤◌, length, drop}
use Rattle.std.proofs.lemmas.List.Edits.{sets}
use Rattle.network.specs.declared.Network.{Network}
use Rattle.format.specs.Format.{encode_of, WrittenTo}
use Rattle.writer.specs.declared.Plan.{Plan}

pub record HasRoom (p : Plan) (c : List ℕ) : Type 0 where
  pub within : p.len + length c ≤ length p.bytes.now

pub record Appended (p : Plan) (c : List ℕ) (q : Plan) : Type 0 where
  pub same_memory : q.bytes.ghost_name ≡ p.bytes.ghost_name
  pub len : q.len ≡ p.len + length c
  pub bytes : q.bytes.now ≡ sets p.bytes.now p.len c

pub record EdgesAppended (N : Network) (p q : Plan) : Type 0 where
  pub same_memory : q.bytes.ghost_name ≡ p.bytes.ghost_name
  pub written : WrittenTo (encode_of N) p.bytes.now q.len q.bytes.now
  pub end_left : drop q.len (encode_of N) ≡ 0x45 ∷ []
