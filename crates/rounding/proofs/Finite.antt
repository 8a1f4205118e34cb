-- Finite is, by the bits without the sign, below the infinity's. Assumes nothing.
use Rattle.std.proofs.Common.{◌≡◌, ℕ, suc, ◌+◌, ◌-◌, ◌*◌, ◌/◌, ◌%◌, ◌<◌, ◌≤◌, Bool, true, false, eqb, ltb, leb, sym, refl, ap, ◌∙◌, le_of_eq, lt_of_lt_of_le, mod-lt, zero-lt-suc, mul_comm, div-lt_iff_lt-mul, mul-pos, le-div_iff_mul-le, arith, pow_pos, ltb-false, ltb-true, eqb-true}
use lib.Ieee.{Float, nan, inf, fin}
use Rattle.std.specs.Float.{float_is_finite}
use borrow.Author.Tests.{eqb-false}
use Rattle.rounding.specs.Kind.{Kind, least}
use Rattle.rounding.specs.Bits.{finite, of_bits, of_fields, hidden, full, signed}
use Rattle.rounding.proofs.Units.{odd_finite}
use Rattle.rounding.proofs.Fields.{read, fields_low, fields_mid, fields_inf, fields_nan}

-- the library's own test tells it
pub finite_is : (x : Float) → float_is_finite x ≡ finite x
unfolding float_is_finite
finite_is nan = refl
finite_is (inf s) = refl
finite_is (fin s m e) = refl

-- ---- by the bits
module _ (k : Kind) (s : Bool) (x t : ℕ) where
  fields_under : x < full k → finite (of_fields k s x t) ≡ true
  fields_under h = go (eqb x 0) refl
    where
      go : (z : Bool) → eqb x 0 ≡ z → finite (of_fields k s x t) ≡ true
      go true e = ap finite (fields_low k s x t (eqb-true x 0 e)) ∙ odd_finite k.digits s t 0 (least k)
      go false e = ap finite (fields_mid k s x t (eqb-false x 0 e) (λ f. omega arith)) ∙ odd_finite k.digits s (hidden k + t) (x - 1) (least k)

  fields_full : x ≡ full k → finite (of_fields k s x t) ≡ false
  fields_full h = go (eqb t 0) refl
    where
      go : (z : Bool) → eqb t 0 ≡ z → finite (of_fields k s x t) ≡ false
      go true e = ap finite (fields_inf k s x t h (eqb-true t 0 e))
      go false e = ap finite (fields_nan k s x t h (eqb-false t 0 e))

-- the exponent's field is below the infinity's exactly where the bits without the sign are
pub finite_read : (k : Kind) (b : ℕ) → ltb (b % signed k) (full k * hidden k) ≡ finite (of_bits k b)
finite_read k b = go (ltb (b % signed k) (full k * hidden k)) refl
  where
    at_full : b % signed k / hidden k < suc (full k) → full k ≤ b % signed k / hidden k → b % signed k / hidden k ≡ full k
    at_full h l = omega arith

    go : (z : Bool) → ltb (b % signed k) (full k * hidden k) ≡ z → z ≡ finite (of_bits k b)
    go true e =
        sym (ap finite (read k b) ∙ fields_under k (leb (signed k) b) (b % signed k / hidden k) (b % hidden k)
        ((div-lt_iff_lt-mul (pow_pos (k.digits - 1))).1 (ltb-true (b % signed k) (full k * hidden k) e)))
    go false e =
        sym (ap finite (read k b) ∙ fields_full k (leb (signed k) b) (b % signed k / hidden k) (b % hidden k)
        (at_full ((div-lt_iff_lt-mul (pow_pos (k.digits - 1))).1 (lt_of_lt_of_le (mod-lt b (mul-pos (pow_pos (k.digits - 1)) (zero-lt-suc (full k)))) (le_of_eq (mul_comm (hidden k) (suc (full k))))))
        ((le-div_iff_mul-le (pow_pos (k.digits - 1))).1 (ltb-false (b % signed k) (full k * hidden k) e))))
