-- No exact result of `+ - * /` on two F16 but the middle of two F16 itself rounds to that middle in F32, which has more than twice their digits. Assumes nothing.
use Rattle.std.proofs.Common.{◌≡◌, ℕ, suc, ◌+◌, ◌-◌, ◌*◌, ◌%◌, ◌^◌, ◌<◌, ◌≤◌, sym, refl, ap, ◌∙◌, subst, inl, inr, le_trans, le_of_eq, lt_of_lt_of_le, lt_of_le_of_lt, le_of_lt, mul-le-mul_right, mul_assoc, suc-mul, mul_comm, mul-le-mul_left, mul-pos, mul_right_comm, le-mul_of_pos_right, le_of_mul-le-mul_right, arith, lit≤, pow_pos, pow-add}
use native.Mathlib.Nat.{eq_of_mul-eq-mul_right}
use lib.Ieee.{size}
use lib.Ieee.Digits.{size-lt}
use Rattle.integer.proofs.Order.{le_or_lt}
use Rattle.rounding.specs.Kind.{half, single}
use Rattle.rounding.specs.Nearest.{OfKind, distance}
use Rattle.rounding.proofs.Digits.{pow_lt_back}
use Rattle.rounding.proofs.Nearest.{of_kind_lem}
use Rattle.rounding.proofs.Signs.{scaled}
use Rattle.rounding.proofs.Twice.{Middle, NearSingle, middle_kind}
use Rattle.rounding.proofs.Units.{single_sized}
use Rattle.rounding.proofs.Unique.{Q, J, kept_is, kept_all, kept_short}

-- ---- a is so near to b that p times as far is no more than a; a common factor changes nothing
abbrev pub Within : ℕ → ℕ → ℕ → Type 0
Within p a b = p * distance a b ≤ a

pub within_plain : (p a b g : ℕ) → 0 < g → Within p (a * g) (b * g) → Within p a b
within_plain p a b g G near = le_of_mul-le-mul_right (le_trans (le_of_eq (mul_assoc p (distance a b) g ∙ ap (λ (x : ℕ). p * x) (sym (scaled a b g)))) near) G

within_times : (p a b g : ℕ) → Within p a b → Within p (a * g) (b * g)
within_times p a b g near = le_trans (le_of_eq (ap (λ (x : ℕ). p * x) (scaled a b g) ∙ sym (mul_assoc p (distance a b) g))) (mul-le-mul_right g near)

-- ---- what is rounded to a value is at most half a step away from it
half_step_up : (x s n : ℕ) → 0 < s → distance x n ≤ distance (x + s) n → x ≤ n → 2 * distance x n ≤ s
half_step_up x s n p d l = omega arith

half_step_down : (x y s n : ℕ) → 0 < s → y + s ≡ x → distance x n ≤ distance y n → n ≤ x → 2 * distance x n ≤ s
half_step_down x y s n p e d l = omega arith

module _ (num den : ℕ) (D : 0 < den) (c j : ℕ) (mid : Middle half c j) (bound : c * 2 ^ (j + 124) < 2 ^ 166) (near : NearSingle num den (c * 2 ^ (j + 124))) where
  abbrev H : ℕ
  H = c * 2 ^ (j + 124)

  abbrev A : ℕ
  A = num * 2 ^ 149

  o : OfKind single H
  o = middle_kind c j mid bound

  abbrev q : ℕ
  q = Q single single_sized H o

  abbrev t : ℕ
  t = J single single_sized H o

  -- in halves of the smallest F16
  abbrev N : ℕ
  N = c * 2 ^ j

  high : H ≡ N * 2 ^ 124
  high = ap (λ (x : ℕ). c * x) (pow-add 2 j 124) ∙ sym (mul_assoc c (2 ^ j) (2 ^ 124))

  large : 2 ^ 124 ≤ H
  large = le_trans (le-mul_of_pos_right (2 ^ 124) (mul-pos (odd_pos c mid.0) (pow_pos j))) (le_of_eq (mul_comm (2 ^ 124) N ∙ sym high))
    where
      odd_pos : (c : ℕ) → c % 2 ≡ 1 → 0 < c
      odd_pos c e = omega arith

  -- all 24 digits
  many : 2 ^ 23 ≤ q
  many =
      let z : 124 < size H = pow_lt_back 124 (size H) (lt_of_le_of_lt large (size-lt H)) in
      elim (kept_all single single_sized H o) [ inl e ↦ absurd (some (size H) z e) | inr h ↦ h ]
    where
      some : (z : ℕ) → 124 < z → z - 24 ≡ 0 → ⊥
      some z h e = omega arith

  abbrev S : ℕ
  S = 2 ^ t * den

  S_pos : 0 < S
  S_pos = mul-pos (pow_pos t) D

  H-den : H * den ≡ q * S
  H-den = ap (λ (x : ℕ). x * den) (kept_is single single_sized H o) ∙ mul_assoc q (2 ^ t) den

  above_kind : OfKind single (suc q * 2 ^ t)
  above_kind =
      of_kind_lem 24 (suc q) t (lit≤ tt) (kept_short single single_sized H o) (inr (le_trans many (next q))) single refl
      (lt_of_le_of_lt (twofold q (2 ^ t) H (kept_is single single_sized H o) (le_trans (lit≤ tt) many)) (lt_of_lt_of_le (double H (2 ^ 166) bound) (lit≤ tt)))
    where
      next : (q : ℕ) → q ≤ suc q
      next q = omega arith

      twofold : (q p h : ℕ) → h ≡ q * p → 1 ≤ q → suc q * p ≤ 2 * h
      twofold q p h e l = let a = suc-mul q p in let b : 1 * p ≤ q * p = mul-le-mul_right p l in omega arith

      double : (h b : ℕ) → h < b → 2 * h < 2 * b
      double h b l = omega arith

  below_kind : OfKind single ((q - 1) * 2 ^ t)
  below_kind =
      record {
        significand = q - 1;
        exponent = t;
        value = refl;
        short = lt_of_le_of_lt (less q) (kept_short single single_sized H o);
        within = lt_of_le_of_lt (le_trans (mul-le-mul_right (2 ^ t) (less q)) (le_of_eq (sym (kept_is single single_sized H o)))) o.within;
      }
    where
      less : (q : ℕ) → q - 1 ≤ q
      less q = omega arith

  step : 2 * distance (H * den) A ≤ S
  step =
      elim (le_or_lt (H * den) A) [
        | inl l ↦ half_step_up (H * den) S A S_pos (subst (λ (x : ℕ). distance (H * den) A ≤ distance x A) above_den (near (suc q * 2 ^ t) above_kind)) l
        | inr l ↦ half_step_down (H * den) ((q - 1) * 2 ^ t * den) S A S_pos below_den (near ((q - 1) * 2 ^ t) below_kind) (le_of_lt l)
      ]
    where
      above_den : suc q * 2 ^ t * den ≡ H * den + S
      above_den = mul_assoc (suc q) (2 ^ t) den ∙ suc-mul q S ∙ ap (λ (x : ℕ). x + S) (sym H-den)

      back : (q : ℕ) → 1 ≤ q → q ≡ suc (q - 1)
      back q h = omega arith

      below_den : (q - 1) * 2 ^ t * den + S ≡ H * den
      below_den = ap (λ (x : ℕ). x + S) (mul_assoc (q - 1) (2 ^ t) den) ∙ sym (suc-mul (q - 1) S) ∙ ap (λ (x : ℕ). x * S) (sym (back q (le_trans (lit≤ tt) many))) ∙ sym H-den

  -- ---- so 2 ^ 24 times as far is no more than the value itself
  relative : Within (2 ^ 24) (H * den) A
  relative =
      le_trans (le_of_eq (mul_assoc (2 ^ 23) 2 (distance (H * den) A)))
      (le_trans (mul-le-mul_left (2 ^ 23) step) (le_trans (mul-le-mul_right S many) (le_of_eq (sym H-den))))

  lift_den : H * den ≡ N * den * 2 ^ 124
  lift_den = ap (λ (x : ℕ). x * den) high ∙ mul_right_comm N (2 ^ 124) den

  lift_num : A ≡ num * 2 ^ 25 * 2 ^ 124
  lift_num = sym (mul_assoc num (2 ^ 25) (2 ^ 124))

  close : Within (2 ^ 24) (N * den) (num * 2 ^ 25)
  close =
      within_plain (2 ^ 24) (N * den) (num * 2 ^ 25) (2 ^ 124) (pow_pos 124)
      (subst (λ (z : ℕ). Within (2 ^ 24) z (num * 2 ^ 25 * 2 ^ 124)) lift_den (subst (Within (2 ^ 24) (H * den)) lift_num relative))

  -- ---- the number as x / y of those halves
  pub from_ratio : (x y : ℕ) → 0 < y → num * 2 ^ 25 * y ≡ x * den → (Within (2 ^ 24) (N * y) x → N * y ≡ x) → H * den ≡ A
  from_ratio x y Y e same =
      let f : N * den * y ≡ N * y * den = mul_right_comm N den y in
      let t : Within (2 ^ 24) (N * den * y) (num * 2 ^ 25 * y) = within_times (2 ^ 24) (N * den) (num * 2 ^ 25) y close in
      let l : Within (2 ^ 24) (N * y) x = within_plain (2 ^ 24) (N * y) x den D (subst (λ (z : ℕ). Within (2 ^ 24) z (x * den)) f (subst (Within (2 ^ 24) (N * den * y)) e t)) in
      let g : N * den ≡ num * 2 ^ 25 = eq_of_mul-eq-mul_right y Y (N * den) (num * 2 ^ 25) (f ∙ ap (λ (z : ℕ). z * den) (same l) ∙ sym e) in
      lift_den ∙ ap (λ (z : ℕ). z * 2 ^ 124) g ∙ sym lift_num
