-- The weights of a kind as the code works them out, and that they fit. Assumes nothing.
use Rattle.std.proofs.Common.{◌≡◌, ℕ, suc, ◌+◌, ◌-◌, ◌*◌, ◌%◌, ◌^◌, ◌<◌, ◌≤◌, ap, ◌∙◌, le_trans, le_of_eq, mul-le-mul_right, mod-eq_of_lt, mul_comm, mul-le-mul_left, one-mul, arith, pow_mono}
use native.Mathlib.Nat.{le-suc}
use lib.Pow.{pow-lt}
use Rattle.rounding.specs.Kind.{kind}
use Rattle.rounding.specs.Bits.{hidden, full, signed}

pub weight_is : (p : ℕ) → p ≤ 64 → 1 * 2 ^ (p - 1) % 2 ^ 64 ≡ 2 ^ (p - 1)
weight_is p h = ap (λ (x : ℕ). x % 2 ^ 64) (one-mul (2 ^ (p - 1))) ∙ mod-eq_of_lt (let l : p - 1 < 64 = omega arith in pow-lt l)

module _ (p r : ℕ) where
  pub infinity_is : {w : ℕ} → w ≡ 2 ^ (p - 1) → w * (2 * r + 1) ≡ full (kind p r) * hidden (kind p r)
  infinity_is e = ap (λ (x : ℕ). x * (2 * r + 1)) e ∙ mul_comm (2 ^ (p - 1)) (2 * r + 1)

  pub sign_is : {w : ℕ} → w ≡ 2 ^ (p - 1) → w * (2 * r + 2) ≡ signed (kind p r)
  sign_is e = ap (λ (x : ℕ). x * (2 * r + 2)) e ∙ ap (λ (x : ℕ). 2 ^ (p - 1) * x) (next (2 * r))
    where
      next : (x : ℕ) → x + 2 ≡ suc (x + 1)
      next x = omega arith

  -- in F64 and in every kind with no more digits and no more reach
  pub sign_small : p ≤ 53 → r ≤ 1023 → signed (kind p r) ≤ 2 ^ 63
  sign_small h l = le_trans (mul-le-mul_left (2 ^ (p - 1)) (most r l)) (mul-le-mul_right 2048 (pow_mono (less p h)))
    where
      most : (r : ℕ) → r ≤ 1023 → suc (2 * r + 1) ≤ 2048
      most r l = omega arith

      less : (p : ℕ) → p ≤ 53 → p - 1 ≤ 52
      less p h = omega arith

  pub infinity_small : p ≤ 53 → r ≤ 1023 → full (kind p r) * hidden (kind p r) ≤ 2 ^ 63
  infinity_small h l =
      le_trans (mul-le-mul_right (hidden (kind p r)) (le-suc (full (kind p r)))) (le_trans (le_of_eq (mul_comm (suc (full (kind p r))) (hidden (kind p r)))) (sign_small h l))
