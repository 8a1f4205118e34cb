-- Where a number has no leading digit in a narrower kind: its digits move on by a place for each field that is missing, until none is left.
-- Assumes nothing.
use Rattle.std.proofs.Common.{◌≡◌, ℕ, ◌+◌, ◌-◌, ◌*◌, ◌/◌, ◌%◌, ◌^◌, ◌<◌, ◌≤◌, min, cond, leb, ◌⊎◌, sym, ap, ◌∙◌, inl, inr, zero-le, le_trans, le_of_eq, lt_of_lt_of_le, add-zero, mod-lt, mul_assoc, div-lt_iff_lt-mul, add-mul, eq-zero-or-pos, one-mul, mul-one, arith, pow_pos, pow_mono, pow-add}
use Prim.Native.Nat.{compare}
use native.Mathlib.Nat.{min-eq_left, div-eq_of_lt}
use lib.Ieee.Fits.{nearest-le}
use lib.Ieee.Nearest.{closest}
use Rattle.rounding.specs.Kind.{Kind, least, convert}
use Rattle.rounding.specs.Bits.{hidden, full, signed, to_bits, of_bits}
use Rattle.rounding.specs.Pack.{pack}
use Rattle.rounding.proofs.Digits.{twice}
use Rattle.rounding.proofs.Units.{Sized}
use Rattle.rounding.proofs.Closest.{closest_little}
use Rattle.rounding.proofs.Pack.{pack_low}
use Rattle.rounding.proofs.FromBits.{bits_low, bits_mid}
use Rattle.rounding.proofs.Leading.{place, weight_of}

-- ---- in plain numbers: w is the wider kind's weight of a field, t its digits below the leading one, p the narrower kind's digits, d the digits cut off
module _ (p d t w : ℕ) (two : 2 ≤ p) (weight : w ≡ 2 ^ (p - 1) * 2 ^ d) (below : t < w) where
  P : 0 < p
  P = omega arith

  -- the first number with more digits than the wider kind has
  past_digits : 2 ^ (p + d) ≡ 2 * w
  past_digits = pow-add 2 p d ∙ ap (λ (x : ℕ). x * 2 ^ d) (twice p P) ∙ mul_assoc 2 (2 ^ (p - 1)) (2 ^ d) ∙ ap (λ (x : ℕ). 2 * x) (sym weight)

  -- a field of f, up to g: no digit is dropped, and what the narrower kind keeps is rounded at its smallest value
  module _ (f g : ℕ) (some : 0 < f) (low : f ≤ g) where
    few : (w + t) / 2 ^ (d + g + 1 - f) < 2 ^ (p - 1)
    few =
        let l : p + d ≤ p - 1 + (d + g + 1 - f) = omega arith in
        let a : 2 ^ (p + d) ≤ 2 ^ (p - 1) * 2 ^ (d + g + 1 - f) = le_trans (pow_mono l) (le_of_eq (pow-add 2 (p - 1) (d + g + 1 - f))) in
        (div-lt_iff_lt-mul (pow_pos (d + g + 1 - f))).1 (omega (arith, past_digits))

    packs_low : pack p ((w + t) * 2 ^ (f - 1)) (2 ^ (g + d)) ≡ closest (w + t) (2 ^ (d + g + 1 - f))
    packs_low =
        let e : f - 1 + (d + g + 1 - f) ≡ g + d = omega arith in
        pack_low p ((w + t) * 2 ^ (f - 1)) (2 ^ (g + d)) (w + t) (d + g + 1 - f) P (pow_pos (g + d))
        (mul_assoc (w + t) (2 ^ (f - 1)) (2 ^ (d + g + 1 - f)) ∙ ap (λ (x : ℕ). (w + t) * x) (sym (pow-add 2 (f - 1) (d + g + 1 - f)) ∙ ap (λ (x : ℕ). 2 ^ x) e))
        (lt_of_lt_of_le few (pow_mono (let l : p - 1 ≤ p = omega arith in l)))

    low_reach : (r : ℕ) → closest (w + t) (2 ^ (d + g + 1 - f)) ≤ (2 * r + 1) * 2 ^ (p - 1)
    low_reach r =
        let q = d + g + 1 - f in
        le_trans (nearest-le ((w + t) / 2 ^ q) (compare ((w + t) % 2 ^ q * 2) (2 ^ q)))
        (le_trans few (omega (arith, add-mul (2 * r) 1 (2 ^ (p - 1)), one-mul (2 ^ (p - 1)))))

    -- all its digits are cut off
    none_left : p + d < d + g + 1 - f → closest (w + t) (2 ^ (d + g + 1 - f)) ≡ 0
    none_left h =
        let a : 2 ^ (p + d) * 2 ≤ 2 ^ (d + g + 1 - f) = le_trans (le_of_eq (sym (pow-add 2 (p + d) 1))) (pow_mono (let l : p + d + 1 ≤ d + g + 1 - f = omega arith in l)) in
        closest_little (w + t) (2 ^ (d + g + 1 - f)) (omega (arith, past_digits))

  -- a field of 0
  packs_nothing : (g : ℕ) → p ≤ g → pack p (t * 2 ^ 0) (2 ^ (g + d)) ≡ 0
  packs_nothing g h =
      let a : 2 ^ (p + d) ≤ 2 ^ (g + d) = pow_mono (let l : p + d ≤ g + d = omega arith in l) in
      let z : t / 2 ^ (g + d) ≡ 0 = div-eq_of_lt (omega (arith, past_digits)) in
      pack_low p (t * 2 ^ 0) (2 ^ (g + d)) t (g + d) P (pow_pos (g + d)) (ap (λ (x : ℕ). x * 2 ^ (g + d)) (mul-one t)) (omega (arith, pow_pos p))
      ∙ closest_little t (2 ^ (g + d)) (omega (arith, past_digits))

-- ---- over the kinds: d digits cut off, and fields that differ by g
module _ (source k : Kind) (sized : Sized k) (d g : ℕ) (digits : k.digits + d ≡ source.digits) (reaches : k.reach + g ≡ source.reach) where
  lower : least k + (g + d) ≡ least source
  lower = place source k sized d g digits reaches

  heavier : hidden source ≡ hidden k * 2 ^ d
  heavier = weight_of source k sized d g digits reaches

  -- a field of at most g has no leading digit in the narrower kind: its digits move on by a place for each field that is missing
  pub bits_below : (b : ℕ) → 0 < b % signed source / hidden source → b % signed source / hidden source ≤ g
      → to_bits k (convert k (of_bits source b))
      ≡ cond (leb (signed source) b) (signed k) 0 + closest (hidden source + b % hidden source) (2 ^ (d + g + 1 - b % signed source / hidden source))
  bits_below b some low =
      let f = b % signed source / hidden source in
      let t = b % hidden source in
      let sign = cond (leb (signed source) b) (signed k) 0 in
      let below : t < hidden source = mod-lt b (pow_pos (source.digits - 1)) in
      bits_mid source k sized (g + d) lower b (λ e. omega arith) (λ e. omega arith)
      ∙ ap (λ (x : ℕ). sign + min x (full k * hidden k)) (packs_low k.digits d t (hidden source) sized.two heavier below f g some low)
      ∙ ap (λ (x : ℕ). sign + x) (min-eq_left (low_reach k.digits d t (hidden source) sized.two heavier below f g some low k.reach))

  -- until none of them is left
  pub bits_nothing : (b : ℕ) → k.digits ≤ g → b % signed source / hidden source ≤ g → source.digits < d + g + 1 - b % signed source / hidden source
      → to_bits k (convert k (of_bits source b)) ≡ cond (leb (signed source) b) (signed k) 0
  bits_nothing b far low gone = go (eq-zero-or-pos (b % signed source / hidden source)) ∙ add-zero (cond (leb (signed source) b) (signed k) 0)
    where
      go : (b % signed source / hidden source ≡ 0) ⊎ (0 < b % signed source / hidden source)
          → to_bits k (convert k (of_bits source b)) ≡ cond (leb (signed source) b) (signed k) 0 + 0
      go (inl z) =
          let sign = cond (leb (signed source) b) (signed k) 0 in
          bits_low source k sized (g + d) lower b z
          ∙ ap (λ (x : ℕ). sign + min x (full k * hidden k))
          (packs_nothing k.digits d (b % hidden source) (hidden source) sized.two heavier (mod-lt b (pow_pos (source.digits - 1))) g far)
          ∙ ap (λ (x : ℕ). sign + x) (min-eq_left zero-le)
      go (inr some) =
          bits_below b some low
          ∙ ap (λ (x : ℕ). cond (leb (signed source) b) (signed k) 0 + x)
          (none_left k.digits d (b % hidden source) (hidden source) sized.two heavier (mod-lt b (pow_pos (source.digits - 1)))
          (b % signed source / hidden source) g some low (omega arith))
