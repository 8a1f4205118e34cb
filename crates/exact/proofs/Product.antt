-- Products: where an unsigned one is in the range, and the signed one by sign and size. Assumes nothing.
use mathlib.Core.Path.{◌≡◌, refl, sym, ap, ap₂, subst, ◌∙◌}
use mathlib.Core.Bool.{Bool, true, false, cond, not, beq}
use Prim.Native.Nat.{ℕ, zero, suc, ◌-◌, ◌*◌, ◌/◌, ◌^◌, ◌≤◌, ◌<◌, zero-le}
use native.Mathlib.Omega.{arith}
use borrow.Author.Tests.{lt-ltb, le-ltb, ltb-true, ltb-false, not-true, not-false}
use lib.Dec.{ltb}
use lib.IntN.{ℤ, pos, negsuc, neg_ℤ, nat_abs, ◌*ℤ◌}
use lib.Signed.{mag, lt_z}
use mir.Syntax.{Width, w64}
use mir.Val.{Fits, SFits, bits, hbits, to_z, of_z}
use mir.ValLaws.{to_z-of_z, to_z-neg, pow-bits}
use Rattle.std.proofs.Common.{Some, None, div-lt_iff_lt-mul, le-div_iff_mul-le, pow_pos}
use Rattle.integer.specs.Range.{in_unsigned, whole_of}
use Rattle.integer.proofs.Range.{in_yes, whole_out}

product_past : (w : Width) (a b : ℕ) → zero < b → (2 ^ bits w - 1) / b < a → 2 ^ bits w ≤ a * b
product_past w a b h k = omega (arith, (div-lt_iff_lt-mul h).0 k)

product_within : (w : Width) (a b : ℕ) → zero < b → a ≤ (2 ^ bits w - 1) / b → a * b < 2 ^ bits w
product_within w a b h k = omega (arith, (le-div_iff_mul-le h).0 k, pow_pos (bits w))

-- the test `MAX / b < a`
pub product_test : (w : Width) (a b : ℕ) → zero < b → ltb ((2 ^ bits w - 1) / b) a ≡ not (in_unsigned w (a * b))
product_test w a b h = go (ltb ((2 ^ bits w - 1) / b) a) refl
  where
    go : (t : Bool) → ltb ((2 ^ bits w - 1) / b) a ≡ t → t ≡ not (in_unsigned w (a * b))
    go true e = rw (le-ltb (a * b) (2 ^ bits w) (product_past w a b h (ltb-true ((2 ^ bits w - 1) / b) a e)))
    go false e = rw (lt-ltb (a * b) (2 ^ bits w) (product_within w a b h (ltb-false ((2 ^ bits w - 1) / b) a e)))

pub product_fits : (w : Width) (a b : ℕ) {t : Bool} → t ≡ not (in_unsigned w (a * b)) → t ≡ false → Fits w (a * b)
product_fits w a b e q = record { fits = ltb-true (a * b) (2 ^ bits w) (not-false (in_unsigned w (a * b)) (sym e ∙ q)) }

-- ---- sign and size
abbrev signed_by : Bool → ℕ → ℤ
signed_by t m = cond t (neg_ℤ (pos m)) (pos m)

pub by_sign : (x y : ℤ) → x *ℤ y ≡ signed_by (not (beq (lt_z x (pos 0)) (lt_z y (pos 0)))) (nat_abs x * nat_abs y)
by_sign (pos a) (pos b) = rw (le-ltb a 0 zero-le, le-ltb b 0 zero-le)
by_sign (pos a) (negsuc b) = rw (le-ltb a 0 zero-le)
by_sign (negsuc a) (pos b) = rw (le-ltb b 0 zero-le)
by_sign (negsuc a) (negsuc b) = refl

far : (w : Width) (t : Bool) (n : ℕ) → 2 ^ bits w ≤ n → 2 ^ hbits w ≤ mag (signed_by t n)
far w true zero h = omega (arith, pow-bits w)
far w true (suc n) h = omega (arith, pow-bits w)
far w false n h = omega (arith, pow-bits w)

-- a and b are the sizes of x and y, as a function's needs have it
module _ (w : Width) (x y : ℤ) (f : SFits w x) (g : SFits w y) (a b : ℕ) (p : a ≡ nat_abs (to_z w (of_z w x))) (q : b ≡ nat_abs (to_z w (of_z w y))) where
  sizes : a * b ≡ nat_abs x * nat_abs y
  sizes = ap₂ (λ (u v : ℕ). u * v) (p ∙ ap nat_abs (to_z-of_z w x f)) (q ∙ ap nat_abs (to_z-of_z w y g))

  product_out : {t : Bool} → t ≡ not (in_unsigned w (a * b)) → t ≡ true → 2 ^ hbits w ≤ mag (x *ℤ y)
  product_out e k =
      subst (λ (z : ℤ). 2 ^ hbits w ≤ mag z) (sym (by_sign x y))
      (far w (not (beq (lt_z x (pos 0)) (lt_z y (pos 0)))) (nat_abs x * nat_abs y)
      (subst (λ (n : ℕ). 2 ^ bits w ≤ n) sizes (ltb-false (a * b) (2 ^ bits w) (not-true (in_unsigned w (a * b)) (sym e ∙ k)))))

  pub product_is : signed_by (not (beq (lt_z (to_z w (of_z w x)) (pos 0)) (lt_z (to_z w (of_z w y)) (pos 0)))) (a * b) ≡ x *ℤ y
  product_is = rw (to_z-of_z w x f, to_z-of_z w y g, sizes) (sym (by_sign x y))

pub product_refused : {x y : ℤ} {a b : ℕ} {t : Bool} → SFits w64 x → SFits w64 y → a ≡ nat_abs (to_z w64 (of_z w64 x)) → b ≡ nat_abs (to_z w64 (of_z w64 y))
    → t ≡ not (in_unsigned w64 (a * b)) → t ≡ true → None ≡ whole_of (x *ℤ y)
product_refused {x} {y} {a} {b} f g p q e k = whole_out (x *ℤ y) (product_out w64 x y f g a b p q e k)

-- ---- a size with a sign, as an exact 64-bit answer
pub whole_zero : (t : Bool) (m : ℕ) → m ≡ 0 → Some (pos 0) ≡ whole_of (signed_by t m)
whole_zero true m e = rw e
whole_zero false m e = rw e

pub whole_neg : (t : Bool) (m : ℕ) → t ≡ true → (m ≡ 0 → ⊥) → m - 1 < 2 ^ 63 → Some (to_z w64 (18446744073709551615 - (m - 1))) ≡ whole_of (signed_by t m)
whole_neg t zero e n h = absurd (n refl)
whole_neg t (suc k) e n h = rw (e, in_yes w64 (negsuc k) (record { sfits = less k h })) (ap Some (ap (to_z w64) (turn k) ∙ to_z-neg w64 k (less k h)))
  where
    turn : (k : ℕ) → 18446744073709551615 - (suc k - 1) ≡ 2 ^ 64 - suc k
    turn k = omega arith

    less : (k : ℕ) → suc k - 1 < 2 ^ 63 → k < 2 ^ 63
    less k h = omega arith

pub whole_neg_over : (t : Bool) (m : ℕ) → t ≡ true → (m ≡ 0 → ⊥) → 2 ^ 63 ≤ m - 1 → None ≡ whole_of (signed_by t m)
whole_neg_over t zero e n h = absurd (n refl)
whole_neg_over t (suc k) e n h = rw e (whole_out (negsuc k) (more k h))
  where
    more : (k : ℕ) → 2 ^ 63 ≤ suc k - 1 → 2 ^ 63 ≤ k
    more k h = omega arith

pub whole_pos : (t : Bool) (m : ℕ) → t ≡ false → m < 2 ^ 63 → Some (to_z w64 m) ≡ whole_of (signed_by t m)
whole_pos t m e h = rw (e, in_yes w64 (pos m) (record { sfits = h }))

pub whole_pos_over : (t : Bool) (m : ℕ) → t ≡ false → 2 ^ 63 ≤ m → None ≡ whole_of (signed_by t m)
whole_pos_over t m e h = rw e (whole_out (pos m) h)
