-- The value of an F16 with no leading digit as an F32: a whole number below 1024 times 2 ^ -24, which F32 multiplies exactly. Assumes nothing.
use Rattle.std.proofs.Common.{◌≡◌, ℕ, zero, suc, ◌+◌, ◌*◌, ◌^◌, ◌<◌, Bool, true, false, cond, T, pos, sym, refl, ap, ◌∙◌, subst, le_trans, lt_of_lt_of_le, le_of_lt, mul_assoc, mul_comm, mul-pos, mul_left_comm, lit<, lit≤, pow_pos, shl_lt}
use lib.Ieee as Ieee
use lib.Ieee.{Float, Format, fin, binary32, low, up, down, unlike, odd, fits, neg}
use lib.Ieee.Fits.{odd-fits, mul-fits, down_pos}
use lib.Ieee.Exact.{HasValue, odd_sign, round_exact}
use lib.Ieee.Back.{round_whole}
use lib.Ieee.Bits.{of_bits-to_bits}
use lib.Ieee.Scale.{round_same}
use Rattle.rounding.specs.Bits.{signed}
use Rattle.rounding.proofs.Same.{of, to_bits_is}
use Rattle.rounding.proofs.Units.{bits_of}
use Rattle.rounding.proofs.Digits.{field}
use Rattle.rounding.proofs.Wider.{odd_lift}

-- ---- two values of a format that are the same number of its smallest values, with the same sign, are one
bits_at : (f : Format) (x : Float) (s : Bool) (a : ℕ) → HasValue x s a (2 ^ low f) → Ieee.to_bits f x ≡ cond s (signed (of f)) 0 + field (Ieee.prec f) a
bits_at f (fin t m e) s a v = to_bits_is f (fin t m e) ∙ bits_of (of f) t m e a v.1 ∙ ap (λ (b : Bool). cond b (signed (of f)) 0 + field (Ieee.prec f) a) v.0
bits_at f Ieee.nan s a v = elim v [ ]
bits_at f (Ieee.inf _) s a v = elim v [ ]

pub units_unique : (f : Format) (x y : Float) (s : Bool) (a : ℕ) → T (fits f x) → T (fits f y) → HasValue x s a (2 ^ low f) → HasValue y s a (2 ^ low f) → x ≡ y
units_unique f x y s a p q v w = sym (of_bits-to_bits f x p) ∙ ap (Ieee.of_bits f) (bits_at f x s a v ∙ sym (bits_at f y s a w)) ∙ of_bits-to_bits f y q

-- ---- a product is the product of the values, rounded
pub mul_value : (f : Format) (x y : Float) (s t : Bool) (a b c d : ℕ) → 0 < b → 0 < d → HasValue x s a b → HasValue y t c d → Ieee.mul f x y ≡ Ieee.round f (unlike s t) (a * c) (b * d)
unfolding Ieee.mul
mul_value f (fin s' m e) (fin t' n g) s t a b c d B D v w =
    round_same f (unlike s' t') (m * up e * (n * up g)) (down e * down g) (a * c) (b * d) (mul-pos (down_pos e) (down_pos g)) (mul-pos B D)
    (swap (m * up e) (n * up g) b d ∙ ap (λ (z : ℕ). z * (n * up g * d)) v.1 ∙ ap (λ (z : ℕ). a * down e * z) w.1 ∙ swap a (down e) c (down g) ∙ refl)
    ∙ (λ i. Ieee.round f (unlike (v.0 i) (w.0 i)) (a * c) (b * d))
  where
    swap : (p q r u : ℕ) → p * q * (r * u) ≡ p * r * (q * u)
    swap p q r u = simp (mul_assoc, mul_comm, mul_left_comm)
mul_value f Ieee.nan y s t a b c d B D v w = elim v [ ]
mul_value f (Ieee.inf _) y s t a b c d B D v w = elim v [ ]
mul_value f (fin s' m e) Ieee.nan s t a b c d B D v w = elim w [ ]
mul_value f (fin s' m e) (Ieee.inf _) s t a b c d B D v w = elim w [ ]

-- ---- m times 2 ^ -24, which is 2 ^ 125 smallest values of F32
module _ (m : ℕ) (M : m < 2 ^ 10) (x : Float) (v : HasValue x false (2 ^ 125) (2 ^ 149)) where
  product : Ieee.mul binary32 (Ieee.of_int binary32 (pos m)) x ≡ Ieee.round binary32 false (m * 2 ^ 125) (2 ^ 149)
  unfolding Ieee.of_int
  product =
      mul_value binary32 (Ieee.round binary32 false m 1) x false false m 1 (2 ^ 125) (2 ^ 149) (lit< tt) (pow_pos 149)
      (round_whole binary32 false m (le_trans (le_of_lt M) (lit≤ tt))) v

  in_range : m * 2 ^ 125 < 2 ^ 277
  in_range = lt_of_lt_of_le (shl_lt 10 125 M) (lit≤ tt)

  product_value : HasValue (Ieee.round binary32 false (m * 2 ^ 125) (2 ^ 149)) false (m * 2 ^ 125) (2 ^ 149)
  product_value = round_exact binary32 false (m * 2 ^ 125) (2 ^ 149) m 125 (pow_pos 149) (lt_of_lt_of_le M (lit≤ tt)) in_range refl

  pub widened : Ieee.mul binary32 (Ieee.of_int binary32 (pos m)) x ≡ odd 11 false m 0 24
  widened =
      units_unique binary32 (Ieee.mul binary32 (Ieee.of_int binary32 (pos m)) x) (odd 11 false m 125 149) false (m * 2 ^ 125)
      (mul-fits binary32 (Ieee.of_int binary32 (pos m)) x)
      (odd-fits binary32 11 false m 125 (lt_of_lt_of_le M (lit≤ tt)) (le_trans (le_of_lt M) (lit≤ tt)) in_range)
      (subst (λ (y : Float). HasValue y false (m * 2 ^ 125) (2 ^ 149)) (sym product) product_value)
      (odd_sign 11 false m 125 149)
      ∙ odd_lift 11 false m 0 24 125

pub neg_odd : (d q a l : ℕ) → neg (odd d false q a l) ≡ odd d true q a l
unfolding odd neg
neg_odd d zero a l = refl
neg_odd d (suc q) a l = refl
