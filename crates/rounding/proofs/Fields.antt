-- What a sign, an exponent's field and digits are read as, in any format. Assumes nothing.
use Rattle.std.proofs.Common.{◌≡◌, ℕ, zero, suc, ◌+◌, ◌-◌, ◌*◌, ◌/◌, ◌%◌, Bool, cond, eqb, leb, sym, refl, ap, ◌∙◌, div-add-mod', arith, eq-eqb, ne_eqb}
use native.Mathlib.Nat.{mod-mod_of_dvd, dvd-mul_right}
use lib.Ieee.{nan, inf, odd}
use Rattle.rounding.specs.Kind.{Kind, least}
use Rattle.rounding.specs.Bits.{hidden, full, signed, of_bits, of_fields}

pub read : (k : Kind) (b : ℕ) → of_bits k b ≡ of_fields k (leb (signed k) b) (b % signed k / hidden k) (b % hidden k)
unfolding of_bits
read k b = refl

-- a pattern without its sign is its field and its digits
pub field_and_digits : (k : Kind) (b : ℕ) → b % signed k / hidden k * hidden k + b % hidden k ≡ b % signed k
field_and_digits k b =
    ap (λ (y : ℕ). b % signed k / hidden k * hidden k + y) (sym (mod-mod_of_dvd (hidden k) b (dvd-mul_right (hidden k) (suc (full k)))))
    ∙ div-add-mod' (b % signed k) (hidden k)

module _ (k : Kind) (s : Bool) where
  pub fields_low : (x t : ℕ) → x ≡ 0 → of_fields k s x t ≡ odd k.digits s t 0 (least k)
  unfolding of_fields
  fields_low zero t e = refl
  fields_low (suc x) t e = absurd (omega arith)

  pub fields_mid : (x t : ℕ) → (x ≡ 0 → ⊥) → (x ≡ full k → ⊥) → of_fields k s x t ≡ odd k.digits s (hidden k + t) (x - 1) (least k)
  unfolding of_fields
  fields_mid zero t a b = absurd (a refl)
  fields_mid (suc x) t a b =
      ap (λ (e : Bool). cond e (cond (eqb t 0) (inf s) nan) (odd k.digits s (hidden k + t) x (least k))) (ne_eqb (suc x) (full k) b)
      ∙ ap (λ (y : ℕ). odd k.digits s (hidden k + t) y (least k)) (pred x)
    where
      pred : (x : ℕ) → x ≡ suc x - 1
      pred x = omega arith

  full_at : (x t : ℕ) → x ≡ full k → of_fields k s x t ≡ cond (eqb t 0) (inf s) nan
  unfolding of_fields
  full_at zero t e = absurd (omega arith)
  full_at (suc x) t e = ap (λ (y : Bool). cond y (cond (eqb t 0) (inf s) nan) (odd k.digits s (hidden k + t) x (least k))) (eq-eqb (suc x) (full k) e)

  pub fields_inf : (x t : ℕ) → x ≡ full k → t ≡ 0 → of_fields k s x t ≡ inf s
  fields_inf x t e z = full_at x t e ∙ ap (λ (y : Bool). cond y (inf s) nan) (eq-eqb t 0 z)

  pub fields_nan : (x t : ℕ) → x ≡ full k → (t ≡ 0 → ⊥) → of_fields k s x t ≡ nan
  fields_nan x t e z = full_at x t e ∙ ap (λ (y : Bool). cond y (inf s) nan) (ne_eqb t 0 z)
