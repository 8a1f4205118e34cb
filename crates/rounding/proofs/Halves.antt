-- F16 by F32: what `+ - * /` of two finite F16 give is in F32's range and clear of the middles of F16, so that F32 rounded to F16 is rounded once. Assumes nothing.
use Rattle.std.proofs.Common.{◌≡◌, ℕ, ◌-◌, ◌*◌, ◌^◌, ◌<◌, ◌≤◌, Bool, true, ℤ, pos, nat_abs, sym, refl, ap, ◌∙◌, subst, inl, inr, le_trans, le_of_eq, lt_of_lt_of_le, le_of_lt, lt_irrefl, mul-le-mul_right, mul_assoc, mul-le-mul_left, mul-lt-mul_of_pos_right, mul-pos, mul_right_comm, le-mul_of_pos_right, arith, lit<, pow_pos}
use lib.Ieee.{Float}
use Rattle.rounding.specs.Kind.{half, single, limit, round_to, convert}
use Rattle.rounding.specs.Arithmetic.{add, sub, mul, div}
use Rattle.rounding.specs.Bits.{of_bits, finite}
use Rattle.rounding.specs.Nearest.{Beyond}
use Rattle.rounding.specs.Rounded.{Exact, ratio, signed_by, exact_of, plus, minus, times, over, TooLarge, RoundedOnce, sum_sign, difference_sign, product_sign}
use Rattle.rounding.proofs.Grid.{sum_clear, product_clear, quotient_clear}
use Rattle.rounding.proofs.Made.{Made, sum_made, difference_made, product_made, quotient_made}
use Rattle.rounding.proofs.Remainder.{positive}
use Rattle.rounding.proofs.Rounded.{with_sign, bottom_pos, size_pos}
use Rattle.rounding.proofs.Signs.{Either, size_of}
use Rattle.rounding.proofs.Twice.{Clear, twice_rounded}
use Rattle.rounding.proofs.Units.{half_sized}
use Rattle.rounding.proofs.Values.{PatternValue, pattern_value, value_size, sum_size, difference_size, product_size, quotient_size}

-- ---- an exact number up to 2 ^ 80 is far below the largest F32
not_too_large : (x : Exact) → 0 < x.bottom → nat_abs x.top ≤ 2 ^ 80 * x.bottom → TooLarge single x → ⊥
not_too_large x B h t =
    let c = x.bottom in
    let e : 2 * (2 ^ 80 * c * 2 ^ 149) ≡ 2 ^ 230 * c = ap (λ (n : ℕ). 2 * n) (mul_right_comm (2 ^ 80) c (2 ^ 149)) ∙ sym (mul_assoc 2 (2 ^ 80 * 2 ^ 149) c) in
    let l : 2 * (nat_abs x.top * 2 ^ 149) ≤ 2 ^ 230 * c = le_trans (mul-le-mul_left 2 (mul-le-mul_right (2 ^ 149) h)) (le_of_eq e) in
    let g : 2 ^ 230 * c < (2 * limit single - 2 ^ 253) * c = mul-lt-mul_of_pos_right (lit< tt) B in
    lt_irrefl (2 ^ 230 * c) (lt_of_lt_of_le g (le_trans t l))

-- ---- what F32 makes of such a number, rounded to F16
once : (s : Bool) (x : Exact) (w : Float) → 0 < x.bottom → Made single s x w → (TooLarge single x → ⊥) → Clear (nat_abs x.top) x.bottom → RoundedOnce half s x (convert half w)
once s x w D m small clear =
    let n = m.size in
    let c = x.bottom in
    let e : nat_abs x.top ≡ n = ap nat_abs m.top ∙ size_of s n in
    subst (λ (z : ℤ). RoundedOnce half s (ratio z c) (convert half w)) (sym m.top)
    (subst (λ (v : Float). RoundedOnce half s (ratio (signed_by s n) c) (convert half v)) (sym m.made)
    (with_sign half s n c D (convert half (round_to single s n c))
    (twice_rounded s n c D (λ b. small (subst (λ (a : ℕ). Beyond single a c) (sym e) b)) (subst (λ (a : ℕ). Clear a c) e clear))))

-- ---- by operator
module _ (p q : ℕ) (f : finite (of_bits half p) ≡ true) (g : finite (of_bits half q) ≡ true) where
  abbrev X : Float
  X = of_bits half p

  abbrev Y : Float
  Y = of_bits half q

  left : PatternValue half X
  left = pattern_value half half_sized p f

  right : PatternValue half Y
  right = pattern_value half half_sized q g

  abbrev u : ℕ
  u = left.units

  abbrev v : ℕ
  v = right.units

  left_size : nat_abs (exact_of X).top * 2 ^ 24 ≡ u * (exact_of X).bottom
  left_size = value_size X left.sign u (2 ^ 24) left.value

  right_size : nat_abs (exact_of Y).top * 2 ^ 24 ≡ v * (exact_of Y).bottom
  right_size = value_size Y right.sign v (2 ^ 24) right.value

  u_low : u < 2 ^ 40
  u_low = left.of_kind.within

  v_low : v < 2 ^ 40
  v_low = right.of_kind.within

  abbrev C : ℕ
  C = (exact_of X).bottom * (exact_of Y).bottom

  C-pos : 0 < C
  C-pos = mul-pos (bottom_pos X) (bottom_pos Y)

  -- sums and differences
  module _ (x : Exact) (is : x.bottom ≡ C) (h : (s : ℕ) × Either s u v × (nat_abs x.top * 2 ^ 24 ≡ s * C)) where
    few : h.0 ≤ 2 ^ 80
    few = go h.0 u v h.1 u_low v_low
      where
        go : (s a b : ℕ) → Either s a b → a < 2 ^ 40 → b < 2 ^ 40 → s ≤ 2 ^ 80
        go s a b (inl e) i j = omega arith
        go s a b (inr e) i j = omega arith

    either_small : TooLarge single x → ⊥
    either_small =
        not_too_large x (lt_of_lt_of_le C-pos (le_of_eq (sym is)))
        (le_trans (le-mul_of_pos_right (nat_abs x.top) (pow_pos 24)) (le_trans (le_of_eq h.2) (le_trans (mul-le-mul_right C few) (le_of_eq (ap (λ (n : ℕ). 2 ^ 80 * n) (sym is))))))

    either_clear : Clear (nat_abs x.top) x.bottom
    either_clear =
        subst (Clear (nat_abs x.top)) (sym is) (sum_clear (nat_abs x.top) C C-pos u v left.of_kind right.of_kind h.0 h.1 h.2)

  pub half_sum_small : TooLarge single (plus (exact_of X) (exact_of Y)) → ⊥
  half_sum_small = either_small (plus (exact_of X) (exact_of Y)) refl (sum_size (exact_of X) (exact_of Y) u v (2 ^ 24) left_size right_size)

  pub half_sum : RoundedOnce half (sum_sign X Y) (plus (exact_of X) (exact_of Y)) (convert half (add single X Y))
  half_sum =
      once (sum_sign X Y) (plus (exact_of X) (exact_of Y)) (add single X Y) C-pos (sum_made single X Y f g) half_sum_small
      (either_clear (plus (exact_of X) (exact_of Y)) refl (sum_size (exact_of X) (exact_of Y) u v (2 ^ 24) left_size right_size))

  pub half_difference_small : TooLarge single (minus (exact_of X) (exact_of Y)) → ⊥
  half_difference_small = either_small (minus (exact_of X) (exact_of Y)) refl (difference_size (exact_of X) (exact_of Y) u v (2 ^ 24) left_size right_size)

  pub half_difference : RoundedOnce half (difference_sign X Y) (minus (exact_of X) (exact_of Y)) (convert half (sub single X Y))
  half_difference =
      once (difference_sign X Y) (minus (exact_of X) (exact_of Y)) (sub single X Y) C-pos (difference_made single X Y f g) half_difference_small
      (either_clear (minus (exact_of X) (exact_of Y)) refl (difference_size (exact_of X) (exact_of Y) u v (2 ^ 24) left_size right_size))

  -- products
  product_is : nat_abs (times (exact_of X) (exact_of Y)).top * 2 ^ 48 ≡ u * v * C
  product_is = product_size (exact_of X) (exact_of Y) u v (2 ^ 24) left_size right_size

  pub half_product_small : TooLarge single (times (exact_of X) (exact_of Y)) → ⊥
  half_product_small =
      let n = nat_abs (times (exact_of X) (exact_of Y)).top in
      not_too_large (times (exact_of X) (exact_of Y)) C-pos
      (le_trans (le-mul_of_pos_right n (pow_pos 48))
      (le_trans (le_of_eq product_is) (mul-le-mul_right C (le_trans (mul-le-mul_right v (le_of_lt u_low)) (mul-le-mul_left (2 ^ 40) (le_of_lt v_low))))))

  pub half_product : RoundedOnce half (product_sign X Y) (times (exact_of X) (exact_of Y)) (convert half (mul single X Y))
  half_product =
      once (product_sign X Y) (times (exact_of X) (exact_of Y)) (mul single X Y) C-pos (product_made single X Y f g) half_product_small
      (product_clear (nat_abs (times (exact_of X) (exact_of Y)).top) C C-pos u v left.of_kind right.of_kind product_is)

  -- quotients
  module _ (n : (exact_of Y).top ≡ pos 0 → ⊥) where
    abbrev B : ℕ
    B = nat_abs (exact_of Y).top * (exact_of X).bottom

    B-pos : 0 < B
    B-pos = mul-pos (size_pos (exact_of Y).top n) (bottom_pos X)

    v_pos : 0 < v
    v_pos = positive v (exact_of Y).bottom (lt_of_lt_of_le (mul-pos (size_pos (exact_of Y).top n) (pow_pos 24)) (le_of_eq right_size))

    quotient_is : nat_abs (over (exact_of X) (exact_of Y)).top * v ≡ u * B
    quotient_is = quotient_size (exact_of X) (exact_of Y) u v (2 ^ 24) left_size right_size

    pub half_quotient_small : TooLarge single (over (exact_of X) (exact_of Y)) → ⊥
    half_quotient_small =
        let w : u ≤ 2 ^ 80 = below u u_low in
        not_too_large (over (exact_of X) (exact_of Y)) B-pos
        (le_trans (le-mul_of_pos_right (nat_abs (over (exact_of X) (exact_of Y)).top) v_pos) (le_trans (le_of_eq quotient_is) (mul-le-mul_right B w)))
      where
        below : (u : ℕ) → u < 2 ^ 40 → u ≤ 2 ^ 80
        below u h = omega arith

    pub half_quotient : RoundedOnce half (product_sign X Y) (over (exact_of X) (exact_of Y)) (convert half (div single X Y))
    half_quotient =
        once (product_sign X Y) (over (exact_of X) (exact_of Y)) (div single X Y) B-pos (quotient_made single X Y f g n) half_quotient_small
        (quotient_clear (nat_abs (over (exact_of X) (exact_of Y)).top) B B-pos u v left.of_kind right.of_kind v_pos quotient_is)
