-- A number's bits in a wider kind, rounded to a kind as `narrow_bits` does it: one law for each way that it takes. Assumes nothing.
use Rattle.std.proofs.Common.{◌≡◌, ℕ, suc, ◌+◌, ◌-◌, ◌*◌, ◌/◌, ◌%◌, ◌^◌, ◌<◌, ◌≤◌, Bool, true, false, cond, leb, ◌⊎◌, sym, ap, ◌∙◌, subst, inl, inr, mod-lt, zero-lt-suc, mul-pos, one-mul, div-add-mod', le-div_iff_mul-le, zero-mul, div-mul-le_self, arith, pow_pos, pow_mono, le-leb}
use native.Mathlib.Nat.{div-eq_of_lt, div-eq_of_lt-le, mod-mod_of_dvd, dvd-mul_right}
use lib.Ieee.{nan}
use lib.Ieee.Nearest.{closest}
use borrow.Author.Tests.{lt-leb}
use Rattle.integer.proofs.Order.{le_or_lt}
use Rattle.rounding.specs.Kind.{Kind, kind, convert}
use Rattle.rounding.specs.Bits.{hidden, full, signed, to_bits, of_bits}
use Rattle.rounding.proofs.Units.{Sized}
use Rattle.rounding.proofs.Width.{bits_lt}
use Rattle.rounding.proofs.Weights.{sign_small}
use Rattle.rounding.proofs.Leading.{bits_leading, bits_over}
use Rattle.rounding.proofs.Below.{bits_below, bits_nothing}

-- a kind of p digits and a reach of r, a wider one of P digits, which are d more, and a reach of R, whose fields count from g further on, and the weights
-- of the wider one's sign and field
pub record Wide (p r P R d g above lead : ℕ) : Type 0 where
  pub two : 2 ≤ p
  pub one : 1 ≤ r
  pub digits : P ≤ 53
  pub reach : R ≤ 1023
  pub more : p + d ≡ P
  pub further : r + g ≡ R
  pub sign_at : above ≡ signed (kind P R)
  pub field_at : lead ≡ 2 ^ (P - 1)

module _ {p r P R d g above lead : ℕ} (wide : Wide p r P R d g above lead) where
  abbrev source : Kind
  source = kind P R

  abbrev target : Kind
  target = kind p r

  sized : Sized target
  sized = record { two = wide.two; one = wide.one }

  above_pos : 0 < above
  above_pos = subst (λ (x : ℕ). 0 < x) (sym wide.sign_at) (mul-pos (pow_pos (P - 1)) (zero-lt-suc (full source)))

  pub lead_pos : 0 < lead
  lead_pos = subst (λ (x : ℕ). 0 < x) (sym wide.field_at) (pow_pos (P - 1))

  -- ---- a pattern of the wider kind: its sign, which is 0 or 1, and its bits without the sign
  module _ (b : ℕ) where
    abbrev size : ℕ
    size = b - b / above * above

    abbrev answer : ℕ
    answer = to_bits target (convert target (of_bits source b))

    pub sign_off : b / above * above ≤ b
    sign_off = div-mul-le_self b above

    size_is : size ≡ b % above
    size_is = omega (arith, div-add-mod' b above)

    -- what is worked out on the way fits
    pub size_small : size < 2 ^ 63
    size_small = omega (arith, size_is, mod-lt b above_pos, wide.sign_at, sign_small P R wide.digits wide.reach)

    pub fields_off : g < size / lead → g * lead ≤ size
    fields_off h = (le-div_iff_mul-le lead_pos).0 (let l : g ≤ size / lead = omega arith in l)

    pub digits_small : lead + size % lead < 2 ^ 63
    digits_small =
        let e : 2 ^ (P - 1) ≤ 2 ^ 52 = pow_mono (let l : P - 1 ≤ 52 = omega (arith, wide.digits) in l) in
        omega (arith, wide.field_at, mod-lt size lead_pos)

    pub answer_fits : {x : ℕ} → x ≡ answer → x < 2 ^ 64
    answer_fits e =
        let s : signed target ≤ 2 ^ 63 = sign_small p r (omega (arith, wide.digits, wide.more)) (omega (arith, wide.reach, wide.further)) in
        omega (arith, e, bits_lt target sized (of_bits source b))

    -- the field and the digits below the leading one
    field_is : size / lead ≡ b % signed source / hidden source
    field_is = (λ i. size_is i / lead) ∙ (λ i. b % wide.sign_at i / wide.field_at i)

    digits_are : size % lead ≡ b % hidden source
    digits_are =
        (λ i. size_is i % lead) ∙ (λ i. b % wide.sign_at i % wide.field_at i)
        ∙ mod-mod_of_dvd (hidden source) b (dvd-mul_right (hidden source) (suc (full source)))

    -- ---- the sign of the answer
    module _ (whole : b < 2 * signed source) {w : ℕ} (weight : w ≡ signed target) where
      sign_is : b / above * w ≡ cond (leb (signed source) b) (signed target) 0
      sign_is = (λ i. b / wide.sign_at i * weight i) ∙ go (le_or_lt (signed source) b)
        where
          pos : 0 < signed source
          pos = subst (λ (x : ℕ). 0 < x) wide.sign_at above_pos

          go : (signed source ≤ b) ⊎ (b < signed source) → b / signed source * signed target ≡ cond (leb (signed source) b) (signed target) 0
          go (inl l) =
              ap (λ (x : ℕ). x * signed target) (div-eq_of_lt-le (signed source) (omega arith) (omega arith))
              ∙ one-mul (signed target) ∙ ap (λ (x : Bool). cond x (signed target) 0) (sym (le-leb (signed source) b l))
          go (inr l) =
              ap (λ (x : ℕ). x * signed target) (div-eq_of_lt l)
              ∙ zero-mul (signed target) ∙ ap (λ (x : Bool). cond x (signed target) 0) (sym (lt-leb (signed source) b l))

      pub sign_fits : b / above * w < 2 ^ 64
      sign_fits = go (leb (signed source) b) sign_is
        where
          small : signed target ≤ 2 ^ 63
          small = sign_small p r (omega (arith, wide.digits, wide.more)) (omega (arith, wide.reach, wide.further))

          go : (t : Bool) → b / above * w ≡ cond t (signed target) 0 → b / above * w < 2 ^ 64
          go true e = omega (arith, small)
          go false e = omega arith

      -- ---- the answer, by where the field lies
      pub leading : {q : ℕ} → g < size / lead → size / lead ≤ g + 2 * r → q ≡ closest (size - g * lead) (2 ^ d) → b / above * w + q ≡ answer
      leading lo hi e =
          (λ i. sign_is i + (e ∙ (λ j. closest (size_is j - g * lead) (2 ^ d)) ∙ (λ j. closest (b % wide.sign_at j - g * wide.field_at j) (2 ^ d))) i)
          ∙ sym (bits_leading source target sized d g wide.more wide.further b (subst (λ (x : ℕ). g < x) field_is lo) (subst (λ (x : ℕ). x ≤ g + 2 * r) field_is hi))

      pub past : {q : ℕ} → g + 2 * r < size / lead → (of_bits source b ≡ nan → ⊥) → q ≡ full target * hidden target → b / above * w + q ≡ answer
      past lo real e = (λ i. sign_is i + e i) ∙ sym (bits_over source target sized d g wide.more wide.further b (subst (λ (x : ℕ). g + 2 * r < x) field_is lo) real)

      pub below : {q : ℕ} → p ≤ g → size / lead ≤ g → d + g + 1 - size / lead ≤ P
          → q ≡ closest (lead + size % lead) (2 ^ (d + g + 1 - size / lead)) → b / above * w + q ≡ answer
      below far hi left e =
          (λ i. sign_is i + (e ∙ (λ j. closest (wide.field_at j + digits_are j) (2 ^ (d + g + 1 - field_is j)))) i)
          ∙ sym (bits_below source target sized d g wide.more wide.further b (omega (arith, field_is)) (subst (λ (x : ℕ). x ≤ g) field_is hi))

      pub none : p ≤ g → size / lead ≤ g → P < d + g + 1 - size / lead → b / above * w ≡ answer
      none far hi gone =
          sign_is ∙ sym (bits_nothing source target sized d g wide.more wide.further b far (subst (λ (x : ℕ). x ≤ g) field_is hi) (subst (λ (x : ℕ). P < d + g + 1 - x) field_is gone))
