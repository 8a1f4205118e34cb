-- Where a kind and a narrower one both have a leading digit: the narrower one's bits are the wider one's less the difference of the fields, rounded by the
-- difference of the digits; and past the narrower one's largest value. Assumes nothing.
use Rattle.std.proofs.Common.{◌≡◌, ℕ, suc, ◌+◌, ◌-◌, ◌*◌, ◌/◌, ◌%◌, ◌^◌, ◌<◌, ◌≤◌, min, Bool, true, false, cond, eqb, leb, sym, refl, ap, ◌∙◌, inr, le_trans, le_of_eq, le-add_right, add_assoc, mul-le-mul_right, mod-lt, mul_assoc, suc-mul, div-lt_iff_lt-mul, add-mul, one-mul, le-div_iff_mul-le, mul_left_comm, arith, pow_pos, pow-add, eqb-true}
use Prim.Native.Nat.{compare}
use native.Mathlib.Nat.{min-eq_left, min-eq_right}
use lib.Ieee.{nan}
use lib.Ieee.Fits.{nearest-le}
use lib.Ieee.Nearest.{closest, nearest-ge}
use borrow.Author.Tests.{eqb-false}
use Rattle.rounding.specs.Kind.{Kind, least, convert}
use Rattle.rounding.specs.Bits.{hidden, full, signed, to_bits, of_bits}
use Rattle.rounding.specs.Pack.{pack}
use Rattle.rounding.proofs.Fields.{read, field_and_digits, fields_nan}
use Rattle.rounding.proofs.Digits.{twice}
use Rattle.rounding.proofs.Units.{Sized}
use Rattle.rounding.proofs.Closest.{closest_above}
use Rattle.rounding.proofs.Pack.{pack_as}
use Rattle.rounding.proofs.FromBits.{bits_mid, bits_inf}

-- ---- in plain numbers: w is the wider kind's weight of a field, t its digits below the leading one, p the narrower kind's digits, d the digits cut off
module _ (p d t w : ℕ) (two : 2 ≤ p) (weight : w ≡ 2 ^ (p - 1) * 2 ^ d) (below : t < w) where
  P : 0 < p
  P = omega arith

  -- the digits that are kept are all that the narrower kind has
  kept_hi : (w + t) / 2 ^ d < 2 ^ p
  kept_hi =
      let e : 2 ^ p * 2 ^ d ≡ 2 * w = ap (λ (x : ℕ). x * 2 ^ d) (twice p P) ∙ mul_assoc 2 (2 ^ (p - 1)) (2 ^ d) ∙ ap (λ (x : ℕ). 2 * x) (sym weight) in
      (div-lt_iff_lt-mul (pow_pos d)).1 (omega arith)

  kept_lo : 2 ^ (p - 1) ≤ (w + t) / 2 ^ d
  kept_lo = (le-div_iff_mul-le (pow_pos d)).1 (le_trans (le_of_eq (sym weight)) (le-add_right w t))

  -- j fields on top stay as they are
  fields_above : (j : ℕ) → closest (j * w + (w + t)) (2 ^ d) ≡ j * 2 ^ (p - 1) + closest (w + t) (2 ^ d)
  fields_above j =
      ap (λ (x : ℕ). closest (x + (w + t)) (2 ^ d)) (ap (λ (x : ℕ). j * x) weight ∙ sym (mul_assoc j (2 ^ (p - 1)) (2 ^ d)))
      ∙ closest_above (j * 2 ^ (p - 1)) (w + t) (2 ^ d) (pow_pos d) even
    where
      even : j * 2 ^ (p - 1) % 2 ≡ 0
      even =
          let some : 0 < p - 1 = omega arith in
          let e : j * 2 ^ (p - 1) ≡ 2 * (j * 2 ^ (p - 1 - 1)) = ap (λ (x : ℕ). j * x) (twice (p - 1) some) ∙ mul_left_comm j 2 (2 ^ (p - 1 - 1)) in
          omega arith

  -- of a field of j + g + 1 in the wider kind, g come off, and what is left is rounded as one number
  packs : (j g : ℕ) → pack p ((w + t) * 2 ^ (j + g)) (2 ^ (g + d)) ≡ closest (j * w + (w + t)) (2 ^ d)
  packs j g =
      pack_as p ((w + t) * 2 ^ (j + g)) (2 ^ (g + d)) (w + t) d j P (pow_pos (g + d))
      (mul_assoc (w + t) (2 ^ (j + g)) (2 ^ d)
      ∙ ap (λ (x : ℕ). (w + t) * x) (sym (pow-add 2 (j + g) d) ∙ ap (λ (x : ℕ). 2 ^ x) (add_assoc j g d) ∙ pow-add 2 j (g + d))
      ∙ sym (mul_assoc (w + t) (2 ^ j) (2 ^ (g + d))))
      (kept_hi, inr kept_lo)
      ∙ sym (fields_above j)

  -- with fewer than 2 * r fields on top the answer is at most the infinity's bits
  in_reach : (j r : ℕ) → j < 2 * r → closest (j * w + (w + t)) (2 ^ d) ≤ (2 * r + 1) * 2 ^ (p - 1)
  in_reach j r h =
      let q : closest (w + t) (2 ^ d) ≤ 2 ^ p = le_trans (nearest-le ((w + t) / 2 ^ d) (compare ((w + t) % 2 ^ d * 2) (2 ^ d))) kept_hi in
      let a : suc j * 2 ^ (p - 1) ≤ 2 * r * 2 ^ (p - 1) = mul-le-mul_right (2 ^ (p - 1)) h in
      omega (arith, fields_above j, twice p P, suc-mul j (2 ^ (p - 1)), add-mul (2 * r) 1 (2 ^ (p - 1)))

  -- with 2 * r fields or more it has reached them
  past_reach : (j r : ℕ) → 2 * r ≤ j → (2 * r + 1) * 2 ^ (p - 1) ≤ closest (j * w + (w + t)) (2 ^ d)
  past_reach j r h =
      let n = j * w + (w + t) in
      let a : (2 * r + 1) * w ≤ (j + 1) * w = mul-le-mul_right w (let l : 2 * r + 1 ≤ j + 1 = omega arith in l) in
      let e : (2 * r + 1) * 2 ^ (p - 1) * 2 ^ d ≡ (2 * r + 1) * w = mul_assoc (2 * r + 1) (2 ^ (p - 1)) (2 ^ d) ∙ ap (λ (x : ℕ). (2 * r + 1) * x) (sym weight) in
      le_trans ((le-div_iff_mul-le (pow_pos d)).1 (omega (arith, add-mul j 1 w, one-mul w))) (nearest-ge (n / 2 ^ d) (compare (n % 2 ^ d * 2) (2 ^ d)))

-- ---- over the kinds: d digits cut off, and fields that differ by g
module _ (source k : Kind) (sized : Sized k) (d g : ℕ) (digits : k.digits + d ≡ source.digits) (reaches : k.reach + g ≡ source.reach) where
  -- the wider kind's smallest value is 2 ^ (g + d) times as small
  pub place : least k + (g + d) ≡ least source
  place = omega (arith, sized.two)

  -- and its weight of a field 2 ^ d times as large
  pub weight_of : hidden source ≡ hidden k * 2 ^ d
  weight_of = let e : source.digits - 1 ≡ k.digits - 1 + d = omega (arith, sized.two) in ap (λ (x : ℕ). 2 ^ x) e ∙ pow-add 2 (k.digits - 1) d

  -- a field above g has a leading digit in both kinds; up to g + 2 * reach what is rounded is at most the infinity's bits
  pub bits_leading : (b : ℕ) → g < b % signed source / hidden source → b % signed source / hidden source ≤ g + 2 * k.reach
      → to_bits k (convert k (of_bits source b)) ≡ cond (leb (signed source) b) (signed k) 0 + closest (b % signed source - g * hidden source) (2 ^ d)
  bits_leading b lo hi =
      let f = b % signed source / hidden source in
      let t = b % hidden source in
      let w = hidden source in
      let j = f - 1 - g in
      let sign = cond (leb (signed source) b) (signed k) 0 in
      let most = full k * hidden k in
      let below : t < w = mod-lt b (pow_pos (source.digits - 1)) in
      bits_mid source k sized (g + d) place b (λ e. omega arith) (λ e. omega arith)
      ∙ ap (λ (x : ℕ). sign + min (pack k.digits ((w + t) * 2 ^ x) (2 ^ (g + d))) most) (above f lo)
      ∙ ap (λ (x : ℕ). sign + min x most) (packs k.digits d t w sized.two weight_of below j g)
      ∙ ap (λ (x : ℕ). sign + x) (min-eq_left (in_reach k.digits d t w sized.two weight_of below j k.reach (few f k.reach lo hi)))
      ∙ ap (λ (x : ℕ). sign + closest x (2 ^ d)) (lowered f w t (b % signed source) lo (field_and_digits source b))
    where
      above : (f : ℕ) → g < f → f - 1 ≡ f - 1 - g + g
      above f h = omega arith

      few : (f r : ℕ) → g < f → f ≤ g + 2 * r → f - 1 - g < 2 * r
      few f r h l = omega arith

      lowered : (f w t n : ℕ) → g < f → f * w + t ≡ n → (f - 1 - g) * w + (w + t) ≡ n - g * w
      lowered f w t n h e =
          let j = f - 1 - g in
          let s : f ≡ suc j + g = omega arith in
          let m : f * w ≡ suc j * w + g * w = ap (λ (x : ℕ). x * w) s ∙ add-mul (suc j) g w in
          omega (arith, suc-mul j w)

  -- a field above that is past the largest value
  pub bits_over : (b : ℕ) → g + 2 * k.reach < b % signed source / hidden source → (of_bits source b ≡ nan → ⊥)
      → to_bits k (convert k (of_bits source b)) ≡ cond (leb (signed source) b) (signed k) 0 + full k * hidden k
  bits_over b far real = go (eqb f (full source)) (eqb t 0) refl refl
    where
      f : ℕ
      f = b % signed source / hidden source

      t : ℕ
      t = b % hidden source

      go : (u v : Bool) → eqb f (full source) ≡ u → eqb t 0 ≡ v → to_bits k (convert k (of_bits source b)) ≡ cond (leb (signed source) b) (signed k) 0 + full k * hidden k
      go true true x z = bits_inf source k b (eqb-true f (full source) x) (eqb-true t 0 z)
      go true false x z = absurd (real (read source b ∙ fields_nan source (leb (signed source) b) f t (eqb-true f (full source) x) (eqb-false t 0 z)))
      go false v x z =
          let w = hidden source in
          let sign = cond (leb (signed source) b) (signed k) 0 in
          let most = full k * hidden k in
          let below : t < w = mod-lt b (pow_pos (source.digits - 1)) in
          let j = f - 1 - g in
          let e : f - 1 ≡ j + g = omega arith in
          bits_mid source k sized (g + d) place b (λ y. omega arith) (eqb-false f (full source) x)
          ∙ ap (λ (y : ℕ). sign + min (pack k.digits ((w + t) * 2 ^ y) (2 ^ (g + d))) most) e
          ∙ ap (λ (y : ℕ). sign + min y most) (packs k.digits d t w sized.two weight_of below j g)
          ∙ ap (λ (y : ℕ). sign + y) (min-eq_right (past_reach k.digits d t w sized.two weight_of below j k.reach (omega arith)))
