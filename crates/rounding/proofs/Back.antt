-- Bits and values, back and forth: in any kind, the bits of what is read from a pattern that is no NaN's are the pattern; in the language's formats,
-- a value is read back from its bits. Assumes nothing.
use Rattle.std.proofs.Common.{◌≡◌, ℕ, zero, suc, ◌+◌, ◌-◌, ◌*◌, ◌/◌, ◌%◌, ◌^◌, ◌<◌, ◌≤◌, Bool, true, false, cond, not, T, eqb, leb, sym, refl, ap, ◌∙◌, subst, inl, inr, le_trans, le_of_eq, lt_of_lt_of_le, le-add_right, le_of_lt, add_assoc, mod-lt, mod-eq_of_lt, suc-mul, add-sub_of_le, zero-add, arith, leb→le, pow_pos, pow_mono, eqb-true}
use native.Mathlib.Nat.{mod-eq-sub-mod, sub-lt_left_of_lt-add}
use lib.Dec.{nleb→lt}
use lib.Ieee as Ieee
use lib.Ieee.{Float, Format, nan, inf, fin, up, down, fits}
use lib.Ieee.Fits.{round-fits, nan-fits, inf-fits}
use lib.Ieee.Bits.{of_bits-to_bits}
use borrow.Author.Tests.{eqb-false}
use Rattle.rounding.specs.Kind.{Kind, convert}
use Rattle.rounding.specs.Bits.{hidden, full, signed, of_bits, of_fields, to_bits}
use Rattle.rounding.proofs.Same.{of, round_is, to_bits_is, of_bits_is}
use Rattle.rounding.proofs.Fields.{read, field_and_digits, fields_low, fields_mid, fields_inf}
use Rattle.rounding.proofs.Digits.{packed, twice}
use Rattle.rounding.proofs.Units.{Sized, bits_odd, inf_bits}

-- ---- a value of F32 or F64, read back from its bits
pub bits_back : (f : Format) (x : Float) → T (fits f x) → of_bits (of f) (to_bits (of f) x) ≡ x
bits_back f x t = sym (of_bits_is f (to_bits (of f) x)) ∙ ap (Ieee.of_bits f) (sym (to_bits_is f x)) ∙ of_bits-to_bits f x t

pub convert_fits : (f : Format) (x : Float) → T (fits f (convert (of f) x))
unfolding convert
convert_fits f nan = nan-fits f
convert_fits f (inf s) = inf-fits f s
convert_fits f (fin s m e) = subst (λ (v : Float). T (fits f v)) (round_is f s (m * up e) (down e)) (round-fits f s (m * up e) (down e))

-- from the bits b of an F32 or F64 x, and the bits r worked out for them
pub narrowed : (f : Format) (k : Kind) (x : Float) {b r : ℕ} → T (fits f x)
    → b ≡ to_bits (of f) x → r ≡ to_bits k (convert k (of_bits (of f) b)) → r ≡ to_bits k (convert k x)
narrowed f k x t e q = q ∙ rw e (ap (λ (v : Float). to_bits k (convert k v)) (bits_back f x t))

-- ---- a pattern of any kind, read and written
-- a number below 2c is its sign's bit and the rest
sign_and_rest : (c n : ℕ) → n < 2 * c → cond (leb c n) c 0 + n % c ≡ n
sign_and_rest c n h = go (leb c n) (leb→le c n) (nleb→lt c n)
  where
    both : (n c : ℕ) → n < 2 * c → n < c + c
    both n c h = omega arith

    go : (b : Bool) → (T b → c ≤ n) → (T (not b) → n < c) → cond b c 0 + n % c ≡ n
    go true p q = ap (λ (r : ℕ). c + r) (mod-eq-sub-mod (p tt) ∙ mod-eq_of_lt (sub-lt_left_of_lt-add (p tt) (both n c h))) ∙ add-sub_of_le (p tt)
    go false p q = zero-add (n % c) ∙ mod-eq_of_lt (q tt)

module _ (k : Kind) (sized : Sized k) (s : Bool) where
  P : 0 < k.digits
  P = omega (arith, sized.two)

  low : (x t : ℕ) → t < hidden k → x ≡ 0 → to_bits k (of_fields k s x t) ≡ cond s (signed k) 0 + (x * hidden k + t)
  low x t h e =
      ap (to_bits k) (fields_low k s x t e) ∙ bits_odd k k.digits s t 0
      ∙ ap (λ (y : ℕ). cond s (signed k) 0 + y) (packed k.digits t 0 P (le_of_lt (lt_of_lt_of_le h (pow_mono (less k.digits)))) (inl refl) ∙ ap (λ (y : ℕ). y * hidden k + t) (sym e))
    where
      less : (p : ℕ) → p - 1 ≤ p
      less p = omega arith

  mid : (x t : ℕ) → t < hidden k → (x ≡ 0 → ⊥) → (x ≡ full k → ⊥) → to_bits k (of_fields k s x t) ≡ cond s (signed k) 0 + (x * hidden k + t)
  mid x t h a b =
      ap (to_bits k) (fields_mid k s x t a b) ∙ bits_odd k k.digits s (hidden k + t) (x - 1)
      ∙ ap (λ (y : ℕ). cond s (signed k) 0 + y)
      (packed k.digits (hidden k + t) (x - 1) P (two (hidden k) t (2 ^ k.digits) (twice k.digits P) h) (inr (le-add_right (hidden k) t)) ∙ join x t (hidden k) a)
    where
      two : (h t w : ℕ) → w ≡ 2 * h → t < h → h + t ≤ w
      two h t w e l = omega arith

      join : (x t h : ℕ) → (x ≡ 0 → ⊥) → (x - 1) * h + (h + t) ≡ x * h + t
      join zero t h a = absurd (a refl)
      join (suc x) t h a = ap (λ (y : ℕ). y * h + (h + t)) (pred x) ∙ sym (add_assoc (x * h) h t) ∙ ap (λ (y : ℕ). y + t) (sym (suc-mul x h))
        where
          pred : (x : ℕ) → suc x - 1 ≡ x
          pred x = omega arith

  top : (x t : ℕ) → x ≡ full k → t ≡ 0 → to_bits k (of_fields k s x t) ≡ cond s (signed k) 0 + (x * hidden k + t)
  top x t e z =
      ap (to_bits k) (fields_inf k s x t e z) ∙ inf_bits k s
      ∙ ap (λ (y : ℕ). cond s (signed k) 0 + y) (ap (λ (y : ℕ). y * hidden k) (sym e) ∙ plus (x * hidden k) t z)
    where
      plus : (a t : ℕ) → t ≡ 0 → a ≡ a + t
      plus a t z = omega arith

  fields_back : (x t : ℕ) → t < hidden k → x * hidden k + t ≤ full k * hidden k → to_bits k (of_fields k s x t) ≡ cond s (signed k) 0 + (x * hidden k + t)
  fields_back x t h l = go (eqb x 0) (eqb x (full k)) refl refl
    where
      none : (a b t : ℕ) → a ≡ b → a + t ≤ b → t ≡ 0
      none a b t e l = omega arith

      go : (u v : Bool) → eqb x 0 ≡ u → eqb x (full k) ≡ v → to_bits k (of_fields k s x t) ≡ cond s (signed k) 0 + (x * hidden k + t)
      go true v p q = low x t h (eqb-true x 0 p)
      go false true p q = let e = eqb-true x (full k) q in top x t e (none (x * hidden k) (full k * hidden k) t (ap (λ (y : ℕ). y * hidden k) e) l)
      go false false p q = mid x t h (eqb-false x 0 p) (eqb-false x (full k) q)

pub read_back : (k : Kind) → Sized k → (b : ℕ) → b < 2 * signed k → b % signed k ≤ full k * hidden k → to_bits k (of_bits k b) ≡ b
read_back k sized b h l =
    let e = field_and_digits k b in
    ap (to_bits k) (read k b)
    ∙ fields_back k sized (leb (signed k) b) (b % signed k / hidden k) (b % hidden k) (mod-lt b (pow_pos (k.digits - 1))) (le_trans (le_of_eq e) l)
    ∙ ap (λ (y : ℕ). cond (leb (signed k) b) (signed k) 0 + y) e
    ∙ sign_and_rest (signed k) b h
