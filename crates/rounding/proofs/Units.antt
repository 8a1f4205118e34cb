-- The bits of q * 2 ^ j smallest values, and where they are an infinity: exactly where the packed number reaches the infinity's. Assumes nothing.
use Rattle.std.proofs.Common.{◌≡◌, ℕ, zero, suc, ◌+◌, ◌-◌, ◌*◌, ◌/◌, ◌^◌, ◌<◌, ◌≤◌, min, Bool, true, false, cond, not, T, ltb, sym, refl, ap, ◌∙◌, subst, inl, inr, le_trans, le_of_eq, lt_of_le_of_lt, add_assoc, mul-le-mul_right, add-mul, eq-or-lt_of_le, one-mul, mul-div_cancel, arith, lit<, lit≤, ltb→lt, nltb→le, pow_pos, pow_mono, pow-add, shl_lt, ltb-false, ltb-true, le-ltb, lt-ltb}
use lib.Pow.{pow-lt}
use lib.Count.{count_trailing_zeros}
use lib.Ieee.{inf, fin, up, down, minus, size, odd}
use lib.Ieee.Digits.{Equals, odd_val}
use lib.Ieee.Fits.{down_pos}
use Rattle.rounding.specs.Kind.{Kind, half, single, double, least, limit, units_in}
use Rattle.rounding.specs.Bits.{hidden, full, signed, to_bits, finite}
use Rattle.rounding.proofs.Digits.{twice, AllDigits, field, packed}

-- ---- the bits of q * 2 ^ j units
pub bits_of : (k : Kind) (s : Bool) (m : ℕ) (e : _) (a : ℕ) → Equals (fin s m e) a (2 ^ least k) → to_bits k (fin s m e) ≡ cond s (signed k) 0 + field k.digits a
unfolding to_bits
bits_of k s m e a h =
    let n : m * up e * 2 ^ least k / down e ≡ a = ap (λ (x : ℕ). x / down e) h ∙ mul-div_cancel a (down_pos e) in
    ap (λ (x : ℕ). cond s (signed k) 0 + (size x - k.digits) * hidden k + x / 2 ^ (size x - k.digits)) n
    ∙ add_assoc (cond s (signed k) 0) ((size a - k.digits) * hidden k) (a / 2 ^ (size a - k.digits))

pub bits_odd : (k : Kind) (d : ℕ) (s : Bool) (q j : ℕ) → to_bits k (odd d s q j (least k)) ≡ cond s (signed k) 0 + field k.digits (q * 2 ^ j)
unfolding odd
bits_odd k d s zero j = bits_of k s 0 (lib.IntN.pos 0) (0 * 2 ^ j) (odd_val d s zero j (least k))
bits_odd k d s (suc q) j =
    let t = count_trailing_zeros d (suc q) in
    bits_of k s (suc q / 2 ^ t) (minus (j + t) (least k)) (suc q * 2 ^ j) (odd_val d s (suc q) j (least k))

pub odd_finite : (d : ℕ) (s : Bool) (q j l : ℕ) → finite (odd d s q j l) ≡ true
unfolding odd
odd_finite d s zero j l = refl
odd_finite d s (suc q) j l = refl

pub units_in_lem : (k : Kind) (s : Bool) (q j : ℕ) → ltb (q * 2 ^ j) (limit k) ≡ true → units_in k s q j ≡ odd (suc k.digits) s q j (least k)
unfolding units_in
units_in_lem k s q j e = ap (λ (b : Bool). cond b (odd (suc k.digits) s q j (least k)) (inf s)) e

pub units_out : (k : Kind) (s : Bool) (q j : ℕ) → ltb (q * 2 ^ j) (limit k) ≡ false → units_in k s q j ≡ inf s
unfolding units_in
units_out k s q j e = ap (λ (b : Bool). cond b (odd (suc k.digits) s q j (least k)) (inf s)) e

-- ---- the packed number is below the infinity's exactly where the value is in range
data Place (j R : ℕ) : Type 0 where
  low_of : j + 2 ≤ 2 * R → Place j R
  last : j + 1 ≡ 2 * R → Place j R
  past : 2 * R ≤ j → Place j R

place : (j R : ℕ) → Place j R
place j R = go (ltb (j + 1) (2 * R)) (ltb→lt (j + 1) (2 * R)) (nltb→le (j + 1) (2 * R))
  where
    go : (b : Bool) → (T b → j + 1 < 2 * R) → (T (not b) → 2 * R ≤ j + 1) → Place j R
    go true x y = low_of (omega (arith, x tt))
    go false x y = elim (eq-or-lt_of_le (y tt)) [ inl e ↦ last (sym e) | inr l ↦ past (omega arith) ]

all_past : (p j q R : ℕ) → 0 < R → 2 * R ≤ j → AllDigits p j q → 2 ^ (p - 1) ≤ q
all_past p j q R r l (inl z) = absurd (omega arith)
all_past p j q R r l (inr h) = h

module _ (p R j q : ℕ) (two : 2 ≤ p) (one : 0 < R) (w : AllDigits p j q) (small : q ≤ 2 ^ p) where
  P : 0 < p
  P = omega arith

  h2 : (a : ℕ) → (a + 2) * 2 ^ (p - 1) ≡ a * 2 ^ (p - 1) + 2 ^ p
  h2 a = add-mul a 2 (2 ^ (p - 1)) ∙ ap (λ (x : ℕ). a * 2 ^ (p - 1) + x) (sym (twice p P))

  h1 : (a : ℕ) → (a + 1) * 2 ^ (p - 1) ≡ a * 2 ^ (p - 1) + 2 ^ (p - 1)
  h1 a = add-mul a 1 (2 ^ (p - 1)) ∙ ap (λ (x : ℕ). a * 2 ^ (p - 1) + x) (one-mul (2 ^ (p - 1)))

  last_full : j + 1 ≡ 2 * R → (2 * R + 1) * 2 ^ (p - 1) ≡ j * 2 ^ (p - 1) + 2 ^ p
  last_full e = ap (λ (x : ℕ). x * 2 ^ (p - 1)) (shift j (2 * R) e) ∙ h2 j
    where
      shift : (j x : ℕ) → j + 1 ≡ x → x + 1 ≡ j + 2
      shift j x e = omega arith

  pub in_range : j * 2 ^ (p - 1) + q < (2 * R + 1) * 2 ^ (p - 1) → q * 2 ^ j < 2 ^ (R + p - 2 + suc R)
  in_range l = go (place j R)
    where
      go : Place j R → q * 2 ^ j < 2 ^ (R + p - 2 + suc R)
      go (low_of a) = lt_of_le_of_lt (mul-le-mul_right (2 ^ j) small) (subst (λ (x : ℕ). x < 2 ^ (R + p - 2 + suc R)) (pow-add 2 p j) (pow-lt (omega arith)))
      go (last e) =
          let s : q < 2 ^ p = omega (arith, last_full e) in
          let x : p + j ≡ R + p - 2 + suc R = omega arith in
          subst (λ (y : ℕ). q * 2 ^ j < 2 ^ y) x (shl_lt p j s)
      go (past g) = absurd (omega (arith, h1 (2 * R), mul-le-mul_right (2 ^ (p - 1)) g, all_past p j q R one g w))

  pub out_range : (2 * R + 1) * 2 ^ (p - 1) ≤ j * 2 ^ (p - 1) + q → 2 ^ (R + p - 2 + suc R) ≤ q * 2 ^ j
  out_range l = go (place j R)
    where
      go : Place j R → 2 ^ (R + p - 2 + suc R) ≤ q * 2 ^ j
      go (low_of a) = absurd (omega (arith, h1 (2 * R), h2 j, mul-le-mul_right (2 ^ (p - 1)) a, pow_pos (p - 1)))
      go (last e) =
          let s : 2 ^ p ≤ q = omega (arith, last_full e) in
          let x : p + j ≡ R + p - 2 + suc R = omega arith in
          subst (λ (y : ℕ). 2 ^ y ≤ q * 2 ^ j) x (le_trans (le_of_eq (pow-add 2 p j)) (mul-le-mul_right (2 ^ j) s))
      go (past g) =
          let x : R + p - 2 + suc R ≤ p - 1 + j = omega arith in
          le_trans (pow_mono x) (le_trans (le_of_eq (pow-add 2 (p - 1) j)) (mul-le-mul_right (2 ^ j) (all_past p j q R one g w)))

-- ---- so: the bits, and whether there are any
pub inf_bits : (k : Kind) (s : Bool) → to_bits k (inf s) ≡ cond s (signed k) 0 + full k * hidden k
unfolding to_bits
inf_bits k s = refl

pub record Sized (k : Kind) : Type 0 where
  pub two : 2 ≤ k.digits
  pub one : 0 < k.reach

module _ (k : Kind) (sized : Sized k) (s : Bool) (q j : ℕ) (w : AllDigits k.digits j q) (small : q ≤ 2 ^ k.digits) where
  units_low : j * hidden k + q < full k * hidden k → to_bits k (units_in k s q j) ≡ cond s (signed k) 0 + (j * hidden k + q)
  units_low l =
      ap (to_bits k) (units_in_lem k s q j (lt-ltb (q * 2 ^ j) (limit k) (in_range k.digits k.reach j q sized.two sized.one w small l)))
      ∙ bits_odd k (suc k.digits) s q j
      ∙ ap (λ (x : ℕ). cond s (signed k) 0 + x) (packed k.digits q j (P k.digits k.reach j q sized.two sized.one w small) small w)

  pub units_bits : to_bits k (units_in k s q j) ≡ cond s (signed k) 0 + min (j * hidden k + q) (full k * hidden k)
  units_bits = go (ltb (j * hidden k + q) (full k * hidden k)) refl
    where
      capped : (a b : ℕ) → b ≤ a → b ≡ min a b
      capped a b l = omega arith

      plain : (a b : ℕ) → a < b → a ≡ min a b
      plain a b l = omega arith

      go : (b : Bool) → ltb (j * hidden k + q) (full k * hidden k) ≡ b → to_bits k (units_in k s q j) ≡ cond s (signed k) 0 + min (j * hidden k + q) (full k * hidden k)
      go true e = let l = ltb-true (j * hidden k + q) (full k * hidden k) e in units_low l ∙ ap (λ (x : ℕ). cond s (signed k) 0 + x) (plain (j * hidden k + q) (full k * hidden k) l)
      go false e =
          let l = ltb-false (j * hidden k + q) (full k * hidden k) e in
          ap (to_bits k) (units_out k s q j (le-ltb (q * 2 ^ j) (limit k) (out_range k.digits k.reach j q sized.two sized.one w small l)))
          ∙ inf_bits k s
          ∙ ap (λ (x : ℕ). cond s (signed k) 0 + x) (capped (j * hidden k + q) (full k * hidden k) l)

pub half_sized : Sized half
half_sized = record { two = lit≤ tt; one = lit< tt }

pub single_sized : Sized single
single_sized = record { two = lit≤ tt; one = lit< tt }

pub double_sized : Sized double
double_sized = record { two = lit≤ tt; one = lit< tt }
