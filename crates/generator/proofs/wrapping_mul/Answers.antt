-- `wrapping_mul` meets its contract: the halves of both numbers are their digits to the base 2 ^ 32.
-- Assumes nothing.
use Rattle.std.proofs.Common.{ℕ, ◌*◌, ◌/◌, ◌%◌, ◌^◌, ◌∙◌, ap₂, div-add-mod', arith}
use Rattle.generator.proofs.Halves.{product-halves, half-fits}
use Rattle.generator.proofs.wrapping_mul.Goals as goal

pub overflow_mul-cross : goal.overflow_mul-cross
overflow_mul-cross c = record { fits = half-fits _ _ (omega arith) (omega arith) }

pub overflow_mul-cross-2 : goal.overflow_mul-cross-2
overflow_mul-cross-2 c = record { fits = half-fits _ _ (omega arith) (omega arith) }

pub overflow_mul-result : goal.overflow_mul-result
overflow_mul-result c = record { fits = half-fits _ _ (omega arith) (omega arith) }

pub returns : goal.returns
returns c =
    let a = c.args.a in
    let b = c.args.b in
    let w : ℕ = 2 ^ 32 in
    product-halves w (a / w) (a % w) (b / w) (b % w)
    ∙ ap₂ (λ (x y : ℕ). x * y % 2 ^ 64) (div-add-mod' a w) (div-add-mod' b w)
