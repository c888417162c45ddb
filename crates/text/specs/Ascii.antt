-- Quoted texts as bytes.
-- To believe.
--
--   bytes t          the codes of the characters of t, each a byte
use Rattle.std.specs.Prelude.{List, [] as []ᴸ, ◌∷◌ as ◌∷ᴸ◌, ℕ}
use Prim.Native.Char.{code}
use Prim.Native.String.{String, [], ◌∷◌}

abbrev pub bytes : String → List ℕ
bytes [] = []ᴸ
bytes (c ∷ t) = code c ∷ᴸ bytes t
