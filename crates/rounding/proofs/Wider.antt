-- A kind of more digits and more reach holds a number with a leading digit: its digits stand higher there, and its field counts from further on.
-- So F32 holds each such F16. Assumes nothing.
use Rattle.std.proofs.Common.{◌≡◌, ℕ, zero, suc, ◌+◌, ◌-◌, ◌*◌, ◌/◌, ◌%◌, ◌^◌, ◌<◌, ◌≤◌, Bool, true, false, cond, not, T, leb, ℤ, pos, negsuc, sym, refl, ap, ◌∙◌, inl, inr, add-zero, add-suc, mul_assoc, add-mul, pow-suc, mul-one, mul-div_cancel, arith, lit<, leb→le, pow-add, le-leb}
use native.Mathlib.Nat.{mul-mod_left, div-div-eq-div-mul, pow-succ'}
use lib.Dec.{nleb→lt}
use lib.Count.{count_trailing_zeros, under}
use lib.Ieee as Ieee
use lib.Ieee.{binary32, fin, minus, odd}
use borrow.Author.Tests.{lt-leb}
use Rattle.rounding.specs.Kind.{Kind, kind, half, single, least}
use Rattle.rounding.specs.Bits.{hidden, full, signed, of_fields, of_bits}
use Rattle.rounding.proofs.Same.{of_bits_is}
use Rattle.rounding.proofs.Fields.{read, fields_mid}
use Rattle.rounding.proofs.Units.{Sized, half_sized}
use Rattle.integer.proofs.Order.{le_or_lt}

-- ---- a power of two moves from the number to the unit
minus_shift : (a b c : ℕ) → minus (a + c) (b + c) ≡ minus a b
minus_shift a b c = go (leb b a) (leb→le b a) (nleb→lt b a) refl
  where
    sub_same : (a b c : ℕ) → a + c - (b + c) ≡ a - b
    sub_same a b c = omega arith

    sub_more : (a b c : ℕ) → b + c - suc (a + c) ≡ b - suc a
    sub_more a b c = omega arith

    go : (t : Bool) → (T t → b ≤ a) → (T (not t) → a < b) → leb b a ≡ t → minus (a + c) (b + c) ≡ minus a b
    go true h k e =
        ap (λ (x : Bool). cond x (pos (a + c - (b + c))) (negsuc (b + c - suc (a + c)))) (le-leb (b + c) (a + c) (omega (arith, h tt)))
        ∙ ap pos (sub_same a b c) ∙ sym (ap (λ (x : Bool). cond x (pos (a - b)) (negsuc (b - suc a))) e)
    go false h k e =
        ap (λ (x : Bool). cond x (pos (a + c - (b + c))) (negsuc (b + c - suc (a + c)))) (lt-leb (b + c) (a + c) (omega (arith, k tt)))
        ∙ ap negsuc (sub_more a b c) ∙ sym (ap (λ (x : Bool). cond x (pos (a - b)) (negsuc (b - suc a))) e)

pub odd_lift : (d : ℕ) (s : Bool) (q a l c : ℕ) → odd d s q (a + c) (l + c) ≡ odd d s q a l
unfolding odd
odd_lift d s zero a l c = refl
odd_lift d s (suc q) a l c =
    let t = count_trailing_zeros d (suc q) in
    ap (λ (x : ℕ). fin s (suc q / 2 ^ t) (minus x (l + c))) (turn a c t) ∙ ap (λ (x : ℤ). fin s (suc q / 2 ^ t) x) (minus_shift (a + t) l c)
  where
    turn : (a c t : ℕ) → a + c + t ≡ a + t + c
    turn a c t = omega arith

-- ---- a power of two moves from the digits to the exponent
pub odd_at : (d : ℕ) (s : Bool) (q a l : ℕ) → 0 < q → odd d s q a l ≡ fin s (q / 2 ^ count_trailing_zeros d q) (minus (a + count_trailing_zeros d q) l)
unfolding odd
odd_at d s zero a l h = absurd (omega arith)
odd_at d s (suc q) a l h = refl

zeros_double : (d q : ℕ) → count_trailing_zeros (suc d) (q * 2) ≡ suc (count_trailing_zeros d q)
unfolding count_trailing_zeros
zeros_double d q = ap (λ (x : ℕ). under x (count_trailing_zeros d (q * 2 / 2))) (mul-mod_left q 2) ∙ ap (λ (x : ℕ). suc (count_trailing_zeros d x)) (mul-div_cancel q (lit< tt))

pub odd_double : (d : ℕ) (s : Bool) (q a l : ℕ) → odd (suc d) s (q * 2) a l ≡ odd d s q (suc a) l
unfolding odd
odd_double d s zero a l = refl
odd_double d s (suc q) a l =
    let t = count_trailing_zeros d (suc q) in
    odd_at (suc d) s (suc q * 2) a l (omega arith)
    ∙ ap (λ (x : ℕ). fin s (suc q * 2 / 2 ^ x) (minus (a + x) l)) (zeros_double d (suc q))
    ∙ ap (λ (x : ℕ). fin s x (minus (a + suc t) l)) (quotient (suc q) t)
    ∙ ap (λ (x : ℕ). fin s (suc q / 2 ^ t) (minus x l)) (turn a t)
  where
    quotient : (n t : ℕ) → n * 2 / 2 ^ suc t ≡ n / 2 ^ t
    quotient n t = ap (λ (x : ℕ). n * 2 / x) (pow-succ' 2 t) ∙ sym (div-div-eq-div-mul (n * 2) 2 (2 ^ t)) ∙ ap (λ (x : ℕ). x / 2 ^ t) (mul-div_cancel n (lit< tt))

    turn : (a t : ℕ) → a + suc t ≡ suc a + t
    turn a t = omega arith

odd_digits : (c d : ℕ) (s : Bool) (q a l : ℕ) → odd (d + c) s (q * 2 ^ c) a l ≡ odd d s q (a + c) l
odd_digits zero d s q a l = simp (add-zero, mul-one)
odd_digits (suc c) d s q a l =
    (λ i. odd (add-suc d c i) s ((ap (λ (x : ℕ). q * x) (pow-suc 2 c) ∙ sym (mul_assoc q (2 ^ c) 2)) i) a l)
    ∙ odd_double (d + c) s (q * 2 ^ c) a l ∙ odd_digits c d s q (suc a) l ∙ ap (λ (x : ℕ). odd d s q x l) (turn a c)
  where
    turn : (a c : ℕ) → suc a + c ≡ a + suc c
    turn a c = omega arith

-- ---- c digits and a reach of e more: the digits c places higher, and the field e further on, are the same number
module _ (k : Kind) (sized : Sized k) (c e : ℕ) where
  abbrev wider : Kind
  wider = kind (k.digits + c) (k.reach + e)

  hidden_is : hidden wider ≡ hidden k * 2 ^ c
  hidden_is = ap (λ (x : ℕ). 2 ^ x) (turn k.digits sized.two) ∙ pow-add 2 (k.digits - 1) c
    where
      turn : (d : ℕ) → 2 ≤ d → d + c - 1 ≡ d - 1 + c
      turn d h = omega arith

  least_is : least wider ≡ least k + (c + e)
  least_is = turn k.digits k.reach sized.two
    where
      turn : (d r : ℕ) → 2 ≤ d → r + e + (d + c) - 2 ≡ r + d - 2 + (c + e)
      turn d r h = omega arith

  pub fields_wider : (s : Bool) (x t : ℕ) → 0 < x → x < full k → of_fields wider s (x + e) (t * 2 ^ c) ≡ of_fields k s x t
  fields_wider s x t low high =
      fields_mid wider s (x + e) (t * 2 ^ c) (λ z. omega arith) (λ z. omega arith)
      ∙ ap (λ (y : ℕ). odd (k.digits + c) s y (x + e - 1) (least wider)) (ap (λ (y : ℕ). y + t * 2 ^ c) hidden_is ∙ sym (add-mul (hidden k) t (2 ^ c)))
      ∙ odd_digits c k.digits s (hidden k + t) (x + e - 1) (least wider)
      ∙ (λ i. odd k.digits s (hidden k + t) (turn x low i) (least_is i))
      ∙ odd_lift k.digits s (hidden k + t) (x - 1) (least k) (c + e)
      ∙ sym (fields_mid k s x t (λ z. omega arith) (λ z. omega arith))
    where
      turn : (x : ℕ) → 0 < x → x + e - 1 + c ≡ x - 1 + (c + e)
      turn x h = omega arith

-- ---- F32 has 13 digits more than F16 and a reach of 112 more: bits b that are the bits h moved so, with the same sign, are the same number
module _ (h b : ℕ) (low : hidden half ≤ h % signed half) (high : h % signed half < full half * hidden half)
    (rest : b % signed single ≡ h % signed half * 2 ^ 13 + 112 * hidden single) where
  field_is : b % signed single / hidden single ≡ h % signed half / hidden half + 112
  field_is = omega arith

  digits_is : b % hidden single ≡ h % hidden half * 2 ^ 13
  digits_is = omega arith

  same_sign : leb (signed single) b ≡ leb (signed half) h → Ieee.of_bits binary32 b ≡ of_bits half h
  same_sign e =
      of_bits_is binary32 b
      ∙ read single b
      ∙ (λ i. of_fields single (e i) (field_is i) (digits_is i))
      ∙ fields_wider half half_sized 13 112 (leb (signed half) h) (h % signed half / hidden half) (h % hidden half) (omega arith) (omega arith)
      ∙ sym (read half h)

  pub same_half : b / signed single ≡ h / signed half → Ieee.of_bits binary32 b ≡ of_bits half h
  same_half e =
      elim (le_or_lt (signed half) h) [
        | inl x ↦ same_sign (le-leb (signed single) b (omega arith) ∙ sym (le-leb (signed half) h x))
        | inr x ↦ same_sign (lt-leb (signed single) b (omega arith) ∙ sym (lt-leb (signed half) h x))
      ]
