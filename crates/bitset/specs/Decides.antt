-- Answers to questions.
-- Working.
--
--   Decides r P      the answer r is true exactly if P holds
use Rattle.std.specs.Prelude.{◌≡◌, Bool, true, false}

pub record Decides (r : Bool) (P : Type 0) : Type 0 where
  pub holds : r ≡ true → P
  pub fails : r ≡ false → ¬ P
