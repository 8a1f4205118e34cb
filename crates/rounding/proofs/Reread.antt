-- What is rounded to a kind is read back from its bits, whichever the kind. Assumes nothing.
use Rattle.std.proofs.Common.{◌≡◌, ℕ, zero, suc, ◌+◌, ◌-◌, ◌*◌, ◌/◌, ◌%◌, ◌^◌, ◌<◌, ◌≤◌, min, Bool, true, false, cond, leb, ℤ, pos, negsuc, sym, refl, ap, ◌∙◌, ap₂, inl, inr, mod-eq_of_lt, suc-mul, eq-zero-or-pos, eq-or-lt_of_le, arith, pow_pos, le-ltb, lt-ltb, le-leb}
use mathlib.Core.Bool.{false≢true}
use native.Mathlib.Nat.{mod-mod_of_dvd, dvd-mul_right, mul-add-div_right, mul-add-mod_self_right, div-eq_of_lt}
use native.Mathlib.Nat.{pow-succ'}
use lib.Count.{count_trailing_zeros, under}
use lib.Ieee.{Float, nan, inf, fin, up, down, minus, size, odd}
use lib.Ieee.Nearest.{closest}
use borrow.Author.Tests.{lt-leb}
use Rattle.integer.proofs.Order.{le_or_lt}
use Rattle.rounding.specs.Kind.{Kind, half, least, limit, units_in, round_to, convert, of_integer}
use Rattle.rounding.specs.Bits.{hidden, full, signed, of_fields, of_bits, to_bits, finite}
use Rattle.rounding.proofs.Digits.{AllDigits, twice}
use Rattle.rounding.proofs.Fields.{read, fields_low, fields_mid, fields_inf}
use Rattle.rounding.proofs.Units.{Sized, units_in_lem, units_out, units_bits, in_range, out_range}
use Rattle.rounding.proofs.Width.{drop_sign}
use Rattle.rounding.proofs.Width as width
use Rattle.rounding.proofs.Wider.{odd_at, odd_double}
use Rattle.rounding.proofs.Pack.{kept_small, kept_all}

-- ---- a number of d digits, written with room for one more
zeros_enough : (d q : ℕ) → 0 < q → q < 2 ^ d → count_trailing_zeros (suc d) q ≡ count_trailing_zeros d q
unfolding count_trailing_zeros
zeros_enough zero q p h = absurd (omega arith)
zeros_enough (suc d) q p h =
    elim (eq-zero-or-pos (q % 2)) [
      | inl z ↦ ap (under (q % 2)) (zeros_enough d (q / 2) (omega arith) (let e = pow-succ' 2 d in omega arith))
      | inr z ↦ below_one (q % 2) (count_trailing_zeros (suc d) (q / 2)) (count_trailing_zeros d (q / 2)) z
    ]
  where
    below_one : (r t u : ℕ) → 0 < r → under r t ≡ under r u
    below_one zero t u h = absurd (omega arith)
    below_one (suc r) t u h = refl

odd_nothing : (d : ℕ) (s : Bool) (a l : ℕ) → odd (suc d) s 0 a l ≡ odd d s 0 a l
unfolding odd
odd_nothing d s a l = refl

odd_enough : (d : ℕ) (s : Bool) (q a l : ℕ) → q < 2 ^ d → odd (suc d) s q a l ≡ odd d s q a l
odd_enough d s q a l h =
    elim (eq-zero-or-pos q) [
      | inl z ↦ ap (λ (x : ℕ). odd (suc d) s x a l) z ∙ odd_nothing d s a l ∙ sym (ap (λ (x : ℕ). odd d s x a l) z)
      | inr p ↦
          odd_at (suc d) s q a l p
          ∙ ap (λ (t : ℕ). fin s (q / 2 ^ t) (minus (a + t) l)) (zeros_enough d q p h)
          ∙ sym (odd_at d s q a l p)
    ]

-- ---- a pattern by its sign and the rest
module _ (k : Kind) (sized : Sized k) (s : Bool) where
  module _ (w : ℕ) (h : w < signed k) where
    sign_read : leb (signed k) (cond s (signed k) 0 + w) ≡ s
    sign_read = go s
      where
        go : (s : Bool) → leb (signed k) (cond s (signed k) 0 + w) ≡ s
        go true = le-leb (signed k) (signed k + w) (omega arith)
        go false = lt-leb (signed k) (0 + w) (omega arith)

    pub fields_read : of_bits k (cond s (signed k) 0 + w) ≡ of_fields k s (w / hidden k) (w % hidden k)
    fields_read =
        let b = cond s (signed k) 0 + w in
        let e : b % signed k ≡ w = drop_sign s (signed k) w h in
        let f : b % hidden k ≡ w % hidden k = sym (mod-mod_of_dvd (hidden k) b (dvd-mul_right (hidden k) (suc (full k)))) ∙ ap (λ (x : ℕ). x % hidden k) e in
        read k b ∙ (λ i. of_fields k (sign_read i) (e i / hidden k) (f i))

  -- x fields of digits and t digits
  at_fields : (x t : ℕ) → t < hidden k → x * hidden k + t < signed k → of_bits k (cond s (signed k) 0 + (x * hidden k + t)) ≡ of_fields k s x t
  at_fields x t l h =
      fields_read (x * hidden k + t) h
      ∙ ap₂ (of_fields k s) (mul-add-div_right (pow_pos (k.digits - 1)) x t ∙ zero_rest x (t / hidden k) (div-eq_of_lt l)) (mul-add-mod_self_right x (hidden k) t ∙ mod-eq_of_lt l)
    where
      zero_rest : (x y : ℕ) → y ≡ 0 → x + y ≡ x
      zero_rest x y e = omega arith

  -- ---- q * 2 ^ j smallest values
  module _ (q j : ℕ) (all : AllDigits k.digits j q) (small : q ≤ 2 ^ k.digits) where
    abbrev H : ℕ
    H = hidden k

    P : 0 < k.digits
    P = omega (arith, sized.two)

    top_is : full k * H + H ≡ signed k
    top_is = width.under k sized

    pos_h : 0 < H
    pos_h = pow_pos (k.digits - 1)

    next : (x : ℕ) → suc x * H ≡ x * H + H
    next x = suc-mul x H

    -- below the infinity's pattern
    module _ (h : j * H + q < full k * H) where
      low : q < H → of_bits k (cond s (signed k) 0 + (j * H + q)) ≡ odd (suc k.digits) s q j (least k)
      low l =
          let z : j ≡ 0 = elim all [ inl z ↦ z | inr g ↦ absurd (omega arith) ] in
          at_fields j q l (omega (arith, top_is)) ∙ fields_low k s j q z
          ∙ sym (odd_enough k.digits s q 0 (least k) (omega (arith, twice k.digits P))) ∙ ap (λ (x : ℕ). odd (suc k.digits) s q x (least k)) (sym z)

      mid : H ≤ q → q < 2 ^ k.digits → of_bits k (cond s (signed k) 0 + (j * H + q)) ≡ odd (suc k.digits) s q j (least k)
      mid l u =
          let e : j * H + q ≡ suc j * H + (q - H) = omega (arith, next j) in
          let r : H + (q - H) ≡ q = omega arith in
          ap (λ (x : ℕ). of_bits k (cond s (signed k) 0 + x)) e
          ∙ at_fields (suc j) (q - H) (omega (arith, twice k.digits P)) (omega (arith, next j, top_is))
          ∙ fields_mid k s (suc j) (q - H) (λ z. omega arith) (λ z. not_full z)
          ∙ (λ i. odd k.digits s (r i) (one_less j i) (least k))
          ∙ sym (odd_enough k.digits s q j (least k) u)
        where
          one_less : (j : ℕ) → suc j - 1 ≡ j
          one_less j = omega arith

          not_full : suc j ≡ full k → ⊥
          not_full z = let e : suc j * H ≡ full k * H = ap (λ (x : ℕ). x * H) z in omega (arith, next j)

      whole : q ≡ 2 ^ k.digits → of_bits k (cond s (signed k) 0 + (j * H + q)) ≡ odd (suc k.digits) s q j (least k)
      whole u =
          let e : j * H + q ≡ suc (suc j) * H + 0 = omega (arith, next j, next (suc j), twice k.digits P) in
          let r : q ≡ H * 2 = omega (arith, twice k.digits P) in
          ap (λ (x : ℕ). of_bits k (cond s (signed k) 0 + x)) e
          ∙ at_fields (suc (suc j)) 0 pos_h (omega (arith, next j, next (suc j), top_is))
          ∙ fields_mid k s (suc (suc j)) 0 (λ z. omega arith) (λ z. not_full z)
          ∙ (λ i. odd k.digits s (plus_zero H i) (one_less j i) (least k))
          ∙ sym (odd_double k.digits s H j (least k)) ∙ ap (λ (x : ℕ). odd (suc k.digits) s x j (least k)) (sym r)
        where
          one_less : (j : ℕ) → suc (suc j) - 1 ≡ suc j
          one_less j = omega arith

          plus_zero : (x : ℕ) → x + 0 ≡ x
          plus_zero x = omega arith

          not_full : suc (suc j) ≡ full k → ⊥
          not_full z = let e : suc (suc j) * H ≡ full k * H = ap (λ (x : ℕ). x * H) z in omega (arith, next j, next (suc j), twice k.digits P)

      below_top : of_bits k (cond s (signed k) 0 + (j * H + q)) ≡ odd (suc k.digits) s q j (least k)
      below_top = elim (le_or_lt H q) [ inr l ↦ low l | inl l ↦ elim (eq-or-lt_of_le small) [ inl u ↦ whole u | inr u ↦ mid l u ] ]

    pub units_back : of_bits k (to_bits k (units_in k s q j)) ≡ units_in k s q j
    units_back =
        ap (of_bits k) (units_bits k sized s q j all small)
        ∙ elim (le_or_lt (full k * H) (j * H + q)) [
          | inl h ↦
              ap (λ (x : ℕ). of_bits k (cond s (signed k) 0 + x)) (capped (j * H + q) (full k * H) h)
              ∙ at_fields (full k) 0 pos_h (omega (arith, top_is, pos_h)) ∙ fields_inf k s (full k) 0 refl refl
              ∙ sym (units_out k s q j (le-ltb (q * 2 ^ j) (limit k) (out_range k.digits k.reach j q sized.two sized.one all small h)))
          | inr h ↦
              ap (λ (x : ℕ). of_bits k (cond s (signed k) 0 + x)) (plain (j * H + q) (full k * H) h)
              ∙ below_top h
              ∙ sym (units_in_lem k s q j (lt-ltb (q * 2 ^ j) (limit k) (in_range k.digits k.reach j q sized.two sized.one all small h)))
        ]
      where
        capped : (a b : ℕ) → b ≤ a → min a b ≡ b + 0
        capped a b h = omega arith

        plain : (a b : ℕ) → a < b → min a b ≡ a
        plain a b h = omega arith

  pub round_back : (num den : ℕ) → of_bits k (to_bits k (round_to k s num den)) ≡ round_to k s num den
  unfolding round_to
  round_back num den =
      let n = num * 2 ^ least k in
      let j = size (n / den) - k.digits in
      units_back (closest n (den * 2 ^ j)) j (kept_all k.digits n den (omega (arith, sized.two))) (kept_small k.digits n den)

-- ---- by conversion
pub convert_back : (k : Kind) → Sized k → (x : Float) → finite x ≡ true → of_bits k (to_bits k (convert k x)) ≡ convert k x
unfolding convert
convert_back k sized nan f = absurd (false≢true f)
convert_back k sized (inf s) f = absurd (false≢true f)
convert_back k sized (fin s m e) f = round_back k sized s (m * up e) (down e)

pub integer_back : (k : Kind) → Sized k → (z : ℤ) → of_bits k (to_bits k (of_integer k z)) ≡ of_integer k z
unfolding of_integer
integer_back k sized (pos n) = round_back k sized false n 1
integer_back k sized (negsuc n) = round_back k sized true (suc n) 1

-- an infinity or a NaN is still none of the finite
pub half_not_finite : (x : Float) → finite x ≡ false → finite (of_bits half (to_bits half (convert half x))) ≡ false
unfolding convert to_bits of_bits of_fields
half_not_finite nan f = refl
half_not_finite (inf false) f = refl
half_not_finite (inf true) f = refl
half_not_finite (fin s m e) f = absurd (false≢true (sym f))
