-- Drawn numbers: each follows from the one before, so that a start number fixes all of them. A linear congruential generator.
-- To believe.
--
--   advanced n       the number that comes after n
--   draw_of n        what is drawn with the number n: its top 8 bits, so 0 to 255
--   number_after s k  the number after k draws from the start number s on
use Rattle.std.specs.Prelude.{ℕ, zero, suc, ◌+◌, ◌*◌, ◌/◌, ◌%◌, ◌^◌}

abbrev pub advanced : ℕ → ℕ
advanced n = (n * 6364136223846793005 + 1442695040888963407) % 2 ^ 64

-- Of 64 bits.
abbrev pub draw_of : ℕ → ℕ
draw_of n = n / 2 ^ 56

unfoldable pub number_after : ℕ → ℕ → ℕ
number_after s zero = s
number_after s (suc k) = advanced (number_after s k)
