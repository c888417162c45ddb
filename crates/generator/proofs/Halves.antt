-- A product by halves: of two numbers of two digits each, to a base w, the remainder by w * w.
-- Assumes nothing.
use Rattle.std.proofs.Common.{◌≡◌, ℕ, ◌+◌, ◌*◌, ◌/◌, ◌%◌, ◌^◌, ◌<◌, ◌≤◌, sym, ap, ◌∙◌, ap₂, mul_assoc, add-mul, mul-le-mul, div-add-mod', mul-add, mul_right_comm, arith}
use native.Mathlib.Nat.{mul-mul-mul_comm, add-mul-mod_self_right, mod-mod_of_dvd, dvd-mul_right}

module _ (w a₁ a₀ b₁ b₀ : ℕ) where
  -- The two products of a high and a low digit.
  abbrev cross : ℕ
  cross = a₁ * b₀ + a₀ * b₁

  -- Multiplied out.
  spread-out : (a₁ * w + a₀) * (b₁ * w + b₀) ≡ a₀ * b₀ + cross * w + a₁ * b₁ * (w * w)
  spread-out =
      let top : a₁ * w * (b₁ * w) ≡ a₁ * b₁ * (w * w) = mul-mul-mul_comm a₁ w b₁ w in
      let one : a₁ * w * b₀ ≡ a₁ * b₀ * w = mul_right_comm a₁ w b₀ in
      let two : a₀ * (b₁ * w) ≡ a₀ * b₁ * w = sym (mul_assoc a₀ b₁ w) in
      let both = add-mul (a₁ * b₀) (a₀ * b₁) w in
      add-mul (a₁ * w) a₀ (b₁ * w + b₀)
      ∙ ap₂ ◌+◌ (mul-add (a₁ * w) (b₁ * w) b₀) (mul-add a₀ (b₁ * w) b₀)
      ∙ omega (arith, top, one, two, both)

  -- Of the products of a high and a low digit the low digit decides, and that of the high digits leaves no remainder.
  pub product-halves : (a₀ * b₀ + cross % (w * w) % w * w) % (w * w) ≡ (a₁ * w + a₀) * (b₁ * w + b₀) % (w * w)
  product-halves =
      let digit : cross % (w * w) % w ≡ cross % w = mod-mod_of_dvd w cross (dvd-mul_right w w) in
      let whole : cross / w * w + cross % w ≡ cross = div-add-mod' cross w in
      let apart : cross * w ≡ cross / w * (w * w) + cross % w * w =
      ap (λ x. x * w) (sym whole) ∙ add-mul (cross / w * w) (cross % w) w ∙ ap (λ x. x + cross % w * w) (mul_assoc (cross / w) w w) in
      let more : a₀ * b₀ + cross % w * w + cross / w * (w * w) ≡ a₀ * b₀ + cross * w = omega (arith, apart) in
      ap (λ x. (a₀ * b₀ + x * w) % (w * w)) digit
      ∙ sym (add-mul-mod_self_right (a₀ * b₀ + cross % w * w) (cross / w) (w * w))
      ∙ ap (λ x. x % (w * w)) more
      ∙ sym (add-mul-mod_self_right (a₀ * b₀ + cross * w) (a₁ * b₁) (w * w))
      ∙ ap (λ x. x % (w * w)) (sym spread-out)

-- No product of two halves is past 64 bits.
pub half-fits : (a b : ℕ) → a < 2 ^ 32 → b < 2 ^ 32 → a * b < 2 ^ 64
half-fits a b h k =
    let most : a * b ≤ 4294967295 * 4294967295 = mul-le-mul {n₂ = 4294967295} {m₂ = 4294967295} (omega arith) (omega arith) in
    omega (arith, most)
