-- Negation and the sign's bit, over the kind; and the NaNs of F16. Assumes nothing.
use Prim.Native.Nat.{ℕ, zero, suc, ◌+◌, ◌-◌, ◌*◌, ◌/◌, ◌%◌, ◌≤◌, ◌<◌}
use mathlib.Core.Path.{◌≡◌, refl, sym, ap, ap₂, ◌∙◌}
use mathlib.Core.Bool.{Bool, true, false, cond, not}
use native.Mathlib.Nat.{add-mod_right, add-mul-mod_self_left}
use native.Mathlib.Omega.{arith}
use lib.Dec.{leb, eqb}
use lib.Ieee.{Float, nan, inf, fin, neg, odd}
use borrow.Author.Tests.{le-leb, lt-leb}
use Rattle.rounding.specs.Kind.{Kind, half, least}
use Rattle.rounding.specs.Bits.{to_bits, of_bits, of_fields, hidden, full, signed}
use Rattle.rounding.proofs.Fields.{read, fields_nan}
use Rattle.rounding.proofs.Units.{Sized, half_sized}
use Rattle.rounding.proofs.Back.{read_back}

neg_odd : (d : ℕ) (s : Bool) (q a l : ℕ) → neg (odd d s q a l) ≡ odd d (not s) q a l
unfolding odd neg
neg_odd d s zero a l = refl
neg_odd d s (suc q) a l = refl

neg_top : (s t : Bool) → neg (cond t (inf s) nan) ≡ cond t (inf (not s)) nan
unfolding neg
neg_top s true = refl
neg_top s false = refl

neg_either : (t : Bool) (x y : Float) → neg (cond t x y) ≡ cond t (neg x) (neg y)
neg_either true x y = refl
neg_either false x y = refl

-- the other sign, the same field and digits
neg_fields : (k : Kind) (s : Bool) (x t : ℕ) → neg (of_fields k s x t) ≡ of_fields k (not s) x t
unfolding of_fields
neg_fields k s zero t = neg_odd k.digits s t 0 (least k)
neg_fields k s (suc x) t =
    neg_either (eqb (suc x) (full k)) (cond (eqb t 0) (inf s) nan) (odd k.digits s (hidden k + t) x (least k))
    ∙ ap₂ (cond (eqb (suc x) (full k))) (neg_top s (eqb t 0)) (neg_odd k.digits s (hidden k + t) x (least k))

neg_neg : (x : Float) → neg (neg x) ≡ x
unfolding neg
neg_neg nan = refl
neg_neg (inf true) = refl
neg_neg (inf false) = refl
neg_neg (fin true m e) = refl
neg_neg (fin false m e) = refl

module _ (k : Kind) (b : ℕ) (h : b < signed k) where
  same_rest : (b + signed k) % signed k ≡ b % signed k
  same_rest = add-mod_right b (signed k)

  same_digits : (b + signed k) % hidden k ≡ b % hidden k
  same_digits = add-mul-mod_self_left b (hidden k) (suc (full k))

  neg_read : neg (of_bits k b) ≡ of_bits k (b + signed k)
  neg_read =
      ap neg (read k b ∙ ap (λ (s : Bool). of_fields k s (b % signed k / hidden k) (b % hidden k)) (lt-leb (signed k) b h))
      ∙ neg_fields k false (b % signed k / hidden k) (b % hidden k)
      ∙ ap₂ (λ (r t : ℕ). of_fields k true (r / hidden k) t) (sym same_rest) (sym same_digits)
      ∙ ap (λ (s : Bool). of_fields k s ((b + signed k) % signed k / hidden k) ((b + signed k) % hidden k)) (sym (le-leb (signed k) (b + signed k) sign_set))
      ∙ sym (read k (b + signed k))
    where
      sign_set : signed k ≤ b + signed k
      sign_set = omega arith

  -- bits that are no NaN's, and the same with the sign's
  module _ (z : Sized k) (n : b % signed k ≤ full k * hidden k) where
    pub sign_set : b + signed k ≡ to_bits k (neg (of_bits k b))
    sign_set = sym (ap (to_bits k) neg_read ∙ read_back k z (b + signed k) (omega arith) (rw same_rest n))

    pub sign_cleared : b ≡ to_bits k (neg (of_bits k (b + signed k)))
    sign_cleared = sym (ap (λ (x : Float). to_bits k (neg x)) (sym neg_read) ∙ ap (to_bits k) (neg_neg (of_bits k b)) ∙ read_back k z b (omega arith) n)

-- a NaN's pattern is read as the NaN, and stays as it is kept
pub half_reads : (b : ℕ) → 31744 < b % 32768 → of_bits half b ≡ nan
half_reads b h = read half b ∙ fields_nan half (leb 32768 b) (b % 32768 / 1024) (b % 1024) field digits
  where
    field : b % 32768 / 1024 ≡ 31
    field = omega arith

    digits : b % 1024 ≡ 0 → ⊥
    digits e = omega arith

pub half_nan : (b : ℕ) → 31744 < b % 32768 → 32256 ≡ to_bits half (neg (of_bits half b))
unfolding neg to_bits
half_nan b h = sym (ap (λ (x : Float). to_bits half (neg x)) (half_reads b h))

-- the sign's bit taken off, as the code has it
pub half_cleared : (b : ℕ) → 32768 ≤ b → b < 65536 → b % 32768 ≤ 31744 → b - 32768 ≡ to_bits half (neg (of_bits half b))
half_cleared b h l n =
    sign_cleared half (b - 32768) (omega arith) half_sized (omega arith) ∙ ap (λ (c : ℕ). to_bits half (neg (of_bits half c))) back
  where
    back : b - 32768 + 32768 ≡ b
    back = omega arith
