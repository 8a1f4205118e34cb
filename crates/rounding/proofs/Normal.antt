-- A whole number n as `whole_size` takes it: moved up until its highest bit is bit 63, an even number, and halved, the digits to keep are its highest ones.
-- Assumes nothing.
use Rattle.std.proofs.Common.{◌≡◌, ℕ, suc, ◌+◌, ◌-◌, ◌*◌, ◌/◌, ◌%◌, ◌^◌, ◌<◌, ◌≤◌, ◌⊎◌, sym, ap, ◌∙◌, subst, inl, inr, le_trans, le_of_eq, mul-le-mul_right, mod-eq_of_lt, mul_assoc, mul_comm, eq-zero-or-pos, mul-le-mul_left, le-div_iff_mul-le, zero-mul, mul-one, arith, lit<, pow_pos, pow_mono, pow-add, shl_lt, shr_lt}
use Prim.Native.Nat.{compare}
use lib.Count.{count_leading_zeros, leading_top}
use lib.Ieee.Fits.{nearest-le}
use lib.Ieee.Nearest.{closest}
use Rattle.rounding.specs.Pack.{pack}
use Rattle.rounding.proofs.Digits.{twice}
use Rattle.rounding.proofs.Pack.{pack_as, pack_low}

abbrev Z : ℕ → ℕ
Z n = count_leading_zeros 64 n

module _ (n : ℕ) (pos : 0 < n) (fits : n < 2 ^ 64) where
  pub zeros_lt : Z n < 64
  zeros_lt = let t = leading_top 64 n pos fits in omega arith

  top_hi : n * 2 ^ Z n < 2 ^ 64
  top_hi =
      let t = leading_top 64 n pos fits in
      let e : suc t.0 + Z n ≡ 64 = omega arith in
      subst (λ (x : ℕ). n * 2 ^ Z n < 2 ^ x) e (shl_lt (suc t.0) (Z n) t.3)

  top_lo : 2 ^ 63 ≤ n * 2 ^ Z n
  top_lo =
      let t = leading_top 64 n pos fits in
      let e : t.0 + Z n ≡ 63 = omega arith in
      le_trans (le_of_eq (sym (ap (λ (x : ℕ). 2 ^ x) e) ∙ pow-add 2 t.0 (Z n))) (mul-le-mul_right (2 ^ Z n) t.2)

  pub top_is : n * 2 ^ Z n % 2 ^ 64 ≡ n * 2 ^ Z n
  top_is = mod-eq_of_lt top_hi

  module _ (most : n ≤ 2 ^ 63) where
    -- with no zero above it n is 2 ^ 63
    even : 2 * (n * 2 ^ Z n / 2) ≡ n * 2 ^ Z n
    even = go (eq-zero-or-pos (Z n))
      where
        halves : (x y : ℕ) → x ≡ 2 * y → 2 * (x / 2) ≡ x
        halves x y e = omega arith

        go : (Z n ≡ 0) ⊎ (0 < Z n) → 2 * (n * 2 ^ Z n / 2) ≡ n * 2 ^ Z n
        go (inl z) =
            let e : n * 2 ^ Z n ≡ n = ap (λ (x : ℕ). n * 2 ^ x) z ∙ mul-one n in
            halves (n * 2 ^ Z n) (2 ^ 62) (omega (arith, top_lo))
        go (inr s) =
            halves (n * 2 ^ Z n) (n * 2 ^ (Z n - 1))
            (ap (λ (x : ℕ). n * x) (twice (Z n) s ∙ mul_comm 2 (2 ^ (Z n - 1))) ∙ sym (mul_assoc n (2 ^ (Z n - 1)) 2) ∙ mul_comm (n * 2 ^ (Z n - 1)) 2)

    module _ (p : ℕ) (two : 2 ≤ p) (small : p ≤ 24) where
      kept-lt : n * 2 ^ Z n / 2 / 2 ^ (63 - p) < 2 ^ p
      kept-lt =
          let e : p + (63 - p) ≡ 63 = omega arith in
          shr_lt p (63 - p) (subst (λ (x : ℕ). n * 2 ^ Z n / 2 < 2 ^ x) (sym e) (omega (arith, top_hi)))

      kept_ge : 2 ^ (p - 1) ≤ n * 2 ^ Z n / 2 / 2 ^ (63 - p)
      kept_ge =
          let e : p - 1 + (63 - p) ≡ 62 = omega arith in
          (le-div_iff_mul-le (pow_pos (63 - p))).1 (le_trans (le_of_eq (sym (pow-add 2 (p - 1) (63 - p)) ∙ ap (λ (x : ℕ). 2 ^ x) e)) (omega (arith, top_lo)))

      pub whole_packed : (r : ℕ) → 0 < r
          → (62 + r - Z n) * 2 ^ (p - 1) + closest (n * 2 ^ Z n / 2) (2 ^ (63 - p)) ≡ pack p (n * 2 ^ (r + p - 2)) 1
      whole_packed r one =
          let a = r + p - 2 in
          let j = 62 + r - Z n in
          let h = n * 2 ^ Z n / 2 in
          let z = zeros_lt in
          let e : a + (63 - p) + 1 ≡ Z n + j = omega arith in
          let u : 2 * (n * 2 ^ a * 2 ^ (63 - p)) ≡ n * 2 ^ (a + (63 - p) + 1) = doubled n a (63 - p) in
          let v : 2 * (h * 2 ^ j) ≡ n * 2 ^ (Z n + j)
          = sym (mul_assoc 2 h (2 ^ j)) ∙ ap (λ (x : ℕ). x * 2 ^ j) even ∙ mul_assoc n (2 ^ Z n) (2 ^ j) ∙ ap (λ (x : ℕ). n * x) (sym (pow-add 2 (Z n) j)) in
          let w : n * 2 ^ a * 2 ^ (63 - p) ≡ h * 2 ^ j = halved (u ∙ ap (λ (x : ℕ). n * 2 ^ x) e ∙ sym v) in
          sym (pack_as p (n * 2 ^ a) 1 h (63 - p) j (omega arith) (lit< tt) (w ∙ sym (mul-one (h * 2 ^ j))) (kept-lt, inr kept_ge))
        where
          halved : {x y : ℕ} → 2 * x ≡ 2 * y → x ≡ y
          halved e = omega arith

          doubled : (n a b : ℕ) → 2 * (n * 2 ^ a * 2 ^ b) ≡ n * 2 ^ (a + b + 1)
          doubled n a b =
              ap (λ (x : ℕ). 2 * x) (mul_assoc n (2 ^ a) (2 ^ b) ∙ ap (λ (x : ℕ). n * x) (sym (pow-add 2 a b)))
              ∙ mul_comm 2 (n * 2 ^ (a + b)) ∙ mul_assoc n (2 ^ (a + b)) 2 ∙ ap (λ (x : ℕ). n * x) (sym (pow-add 2 (a + b) 1))

      pub kept_max : closest (n * 2 ^ Z n / 2) (2 ^ (63 - p)) ≤ 2 ^ 24
      kept_max =
          let h = n * 2 ^ Z n / 2 in
          le_trans (nearest-le (h / 2 ^ (63 - p)) (compare (h % 2 ^ (63 - p) * 2) (2 ^ (63 - p)))) (le_trans kept-lt (pow_mono small))

pub nothing : (p a : ℕ) → 2 ≤ p → 0 ≡ pack p (0 * 2 ^ a) 1
nothing p a two = sym (pack_low p (0 * 2 ^ a) 1 0 0 (omega arith) (lit< tt) (ap (λ (x : ℕ). x * 1) (zero-mul (2 ^ a))) (pow_pos p))

pub product_lt : (x p : ℕ) → x < 256 → p ≤ 24 → x * 2 ^ (p - 1) ≤ 2 ^ 31
product_lt x p h small =
    le_trans (mul-le-mul_right (2 ^ (p - 1)) (bound x h)) (mul-le-mul_left 256 (pow_mono (less p small)))
  where
    bound : (x : ℕ) → x < 256 → x ≤ 256
    bound x h = omega arith

    less : (p : ℕ) → p ≤ 24 → p - 1 ≤ 23
    less p h = omega arith
