-- What reading came to.
-- To believe.
--
--   input_of got n   what a read into n bytes came to that answered got: it failed if that is an error
--   Counted n r      the answer r counts at most n bytes, or says that a read failed
use Rattle.std.specs.Prelude.{ℕ, ◌≤◌, min, Result, Ok, Err}

abbrev pub input_of : {E : Type 0} → Result ℕ E → ℕ → Result ℕ E
input_of (Ok k) n = Ok (min k n)
input_of (Err e) n = Err e

abbrev pub Counted : {E : Type 0} → ℕ → Result ℕ E → Type 0
Counted n (Ok count) = count ≤ n
Counted n (Err e) = Unit {0}
