-- Whole numbers by sign and size: their products, sums and differences. Assumes nothing.
use Rattle.std.proofs.Common.{◌≡◌, ℕ, zero, suc, ◌+◌, ◌-◌, ◌*◌, ◌<◌, ◌≤◌, Bool, true, false, cond, not, T, ltb, ◌⊎◌, ℤ, pos, negsuc, ◌+ℤ◌, ◌-ℤ◌, ◌*ℤ◌, neg_ℤ, nat_abs, sym, refl, ap, ◌∙◌, subst, inl, inr, le_of_lt, mul-le-mul_right, add-mul, mul-zero, zero-mul, arith, ltb→lt, nltb→le}
use lib.IntN.{sub_ℕ, neg_ℤ-neg_ℤ}
use lib.Ieee.{unlike}
use Rattle.integer.proofs.Order.{le_or_lt}
use Rattle.rounding.specs.Nearest.{distance}
use Rattle.rounding.specs.Rounded.{signed_by, own_sign, unit}

-- ---- sign and size
pub size_of : (s : Bool) (n : ℕ) → nat_abs (signed_by s n) ≡ n
size_of false n = refl
size_of true zero = refl
size_of true (suc n) = refl

pub no_size : (s : Bool) → signed_by s 0 ≡ pos 0
no_size false = refl
no_size true = refl

-- a whole number has the sign s or the other
pub side : (s : Bool) (v : ℤ) → (v ≡ signed_by s (nat_abs v)) ⊎ (v ≡ signed_by (not s) (nat_abs v))
side false (pos n) = inl refl
side false (negsuc n) = inr refl
side true (pos n) = inr refl
side true (negsuc n) = inl refl

pub turned : (s : Bool) (n : ℕ) → signed_by (not s) n ≡ neg_ℤ (signed_by s n)
turned false n = refl
turned true n = sym (neg_ℤ-neg_ℤ (pos n))

-- ---- products
neg_zero_times : (b : ℕ) → pos (0 * b) ≡ neg_ℤ (pos (0 * b))
neg_zero_times b = rw (zero-mul b) refl

pub by_size : (s : Bool) (a b : ℕ) → signed_by s a *ℤ pos b ≡ signed_by s (a * b)
by_size false a b = refl
by_size true zero b = neg_zero_times b
by_size true (suc a) b = refl

pub by_signs : (s t : Bool) (a b : ℕ) → signed_by s a *ℤ signed_by t b ≡ signed_by (unlike s t) (a * b)
by_signs s false a b = by_size s a b ∙ ap (λ (u : Bool). signed_by u (a * b)) (same s)
  where
    same : (s : Bool) → s ≡ unlike s false
    same false = refl
    same true = refl
by_signs false true a zero = rw (mul-zero a) refl
by_signs false true a (suc b) = refl
by_signs true true zero zero = refl
by_signs true true zero (suc b) = rw (zero-mul (suc b)) refl
by_signs true true (suc a) zero = rw (mul-zero (suc a)) refl
by_signs true true (suc a) (suc b) = refl

-- the sign of a number that is not 0
pub unit_of : (t : Bool) (n : ℕ) → 0 < n → unit (signed_by t n) ≡ signed_by t 1
unit_of t zero h = absurd (omega arith)
unit_of false (suc n) h = refl
unit_of true (suc n) h = refl

-- ---- sums
module _ (a b : ℕ) where
  pub less : a < b → sub_ℕ a b ≡ neg_ℤ (pos (b - a))
  less h = go (ltb a b) (ltb→lt a b) (nltb→le a b)
    where
      next : (a b : ℕ) → a < b → b - a ≡ suc (b - suc a)
      next a b h = omega arith

      go : (t : Bool) → (T t → a < b) → (T (not t) → b ≤ a) → cond t (negsuc (b - suc a)) (pos (a - b)) ≡ neg_ℤ (pos (b - a))
      go true p q = sym (ap (λ (n : ℕ). neg_ℤ (pos n)) (next a b h))
      go false p q = let l : b ≤ a = q tt in absurd (omega arith)

  pub more : b ≤ a → sub_ℕ a b ≡ pos (a - b)
  more h = go (ltb a b) (ltb→lt a b)
    where
      go : (t : Bool) → (T t → a < b) → cond t (negsuc (b - suc a)) (pos (a - b)) ≡ pos (a - b)
      go true p = let l : a < b = p tt in absurd (omega arith)
      go false p = refl

plus_zero : (a : ℕ) → a + 0 ≡ a
plus_zero a = omega arith

minus_zero : (a : ℕ) → sub_ℕ a 0 ≡ pos a
minus_zero a = more a 0 (omega arith) ∙ ap pos (left a)
  where
    left : (a : ℕ) → a - 0 ≡ a
    left a = omega arith

-- a less b, written as a sum either way
pub minus_is : (a b : ℕ) → pos a +ℤ neg_ℤ (pos b) ≡ sub_ℕ a b
minus_is a zero = ap pos (plus_zero a) ∙ sym (minus_zero a)
minus_is a (suc b) = refl

pub minus_was : (a b : ℕ) → neg_ℤ (pos a) +ℤ pos b ≡ sub_ℕ b a
minus_was zero b = ap pos (left b) ∙ sym (minus_zero b)
  where
    left : (b : ℕ) → 0 + b ≡ b
    left b = omega arith
minus_was (suc a) b = refl

below_zero : (b : ℕ) → sub_ℕ 0 (suc b) ≡ neg_ℤ (pos (suc b))
below_zero b = less 0 (suc b) (omega arith) ∙ ap (λ (n : ℕ). neg_ℤ (pos n)) (left b)
  where
    left : (b : ℕ) → suc b - 0 ≡ suc b
    left b = omega arith

pub both : (s : Bool) (a b : ℕ) → signed_by s a +ℤ signed_by s b ≡ signed_by s (a + b)
both false a b = refl
both true zero zero = refl
both true zero (suc b) = below_zero b ∙ ap (λ (n : ℕ). neg_ℤ (pos n)) (left b)
  where
    left : (b : ℕ) → suc b ≡ 0 + suc b
    left b = omega arith
both true (suc a) zero = below_zero a ∙ ap (λ (n : ℕ). neg_ℤ (pos n)) (sym (plus_zero (suc a)))
both true (suc a) (suc b) = ap (λ (n : ℕ). neg_ℤ (pos n)) (turn a b)
  where
    turn : (a b : ℕ) → suc (suc (a + b)) ≡ suc a + suc b
    turn a b = omega arith

-- of two signs: the larger one's
pub larger : (s : Bool) (a b : ℕ) → b ≤ a → signed_by s a +ℤ signed_by (not s) b ≡ signed_by s (a - b)
larger false a b h = minus_is a b ∙ more a b h
larger true a b h = minus_was a b ∙ downward (a - b) refl
  where
    downward : (n : ℕ) → n ≡ a - b → sub_ℕ b a ≡ neg_ℤ (pos n)
    downward zero e = let f : b ≡ a = omega arith in ap (λ (x : ℕ). sub_ℕ x a) f ∙ more a a (omega arith) ∙ ap pos (itself a)
      where
        itself : (a : ℕ) → a - a ≡ 0
        itself a = omega arith
    downward (suc n) e = less b a (omega arith) ∙ ap (λ (n : ℕ). neg_ℤ (pos n)) (sym e)

pub smaller : (s : Bool) (a b : ℕ) → a < b → signed_by s a +ℤ signed_by (not s) b ≡ signed_by (not s) (b - a)
smaller false a b h = minus_is a b ∙ less a b h
smaller true a b h = minus_was a b ∙ more b a (omega arith)

-- ---- a number that is not 0 has its own sign
pub own_sign_lem : (u : Bool) (n : ℕ) (s : Bool) → 0 < n → own_sign (signed_by u n) s ≡ u
own_sign_lem u zero s h = absurd (omega arith)
own_sign_lem false (suc n) s h = refl
own_sign_lem true (suc n) s h = refl

-- ---- how far apart
pub scaled : (a b c : ℕ) → distance (a * c) (b * c) ≡ distance a b * c
scaled a b c =
    elim (le_or_lt a b) [
      | inl h ↦ omega (arith, mul-le-mul_right c h, parts a b h)
      | inr h ↦ omega (arith, mul-le-mul_right c (le_of_lt h), parts b a (le_of_lt h))
    ]
  where
    back : (a b : ℕ) → a ≤ b → a + (b - a) ≡ b
    back a b h = omega arith

    none : (a b : ℕ) → a ≤ b → (distance a b ≡ b - a) × (distance b a ≡ b - a)
    none a b h = (omega arith, omega arith)

    parts : (a b : ℕ) → a ≤ b → (a * c + (b - a) * c ≡ b * c) × (distance a b * c ≡ (b - a) * c) × (distance b a * c ≡ (b - a) * c)
    parts a b h = (sym (add-mul a (b - a) c) ∙ ap (λ (x : ℕ). x * c) (back a b h), ap (λ (x : ℕ). x * c) (none a b h).0, ap (λ (x : ℕ). x * c) (none a b h).1)

sub_size : (a b : ℕ) → nat_abs (sub_ℕ a b) ≡ distance a b
sub_size a b = go (ltb a b) (ltb→lt a b) (nltb→le a b)
  where
    go : (t : Bool) → (T t → a < b) → (T (not t) → b ≤ a) → nat_abs (cond t (negsuc (b - suc a)) (pos (a - b))) ≡ distance a b
    go true p q = let h : a < b = p tt in omega arith
    go false p q = let h : b ≤ a = q tt in omega arith

pub apart : (s : Bool) (a b : ℕ) → nat_abs (signed_by s a -ℤ signed_by s b) ≡ distance a b
apart false a b = ap nat_abs (minus_is a b) ∙ sub_size a b
apart true a b = ap (λ (z : ℤ). nat_abs (neg_ℤ (pos a) +ℤ z)) (neg_ℤ-neg_ℤ (pos b)) ∙ ap nat_abs (minus_was a b) ∙ sub_size b a ∙ turn a b
  where
    turn : (a b : ℕ) → distance b a ≡ distance a b
    turn a b = omega arith

pub opposed : (s : Bool) (a b : ℕ) → nat_abs (signed_by (not s) a -ℤ signed_by s b) ≡ a + b
opposed s a b = ap (λ (z : ℤ). nat_abs (signed_by (not s) a +ℤ z)) (sym (turned s b)) ∙ ap nat_abs (both (not s) a b) ∙ size_of (not s) (a + b)

-- ---- sizes of products and sums
pub size_times : (x y : ℤ) → nat_abs (x *ℤ y) ≡ nat_abs x * nat_abs y
size_times (pos a) (pos b) = refl
size_times (pos a) (negsuc b) = size_of true (a * suc b)
size_times (negsuc a) (pos b) = size_of true (suc a * b)
size_times (negsuc a) (negsuc b) = refl

-- a sum's size is the sum or the difference of the sizes
abbrev pub Either : ℕ → ℕ → ℕ → Type 0
Either s x y = (s ≡ x + y) ⊎ (s ≡ distance x y)

pub size_plus : (x y : ℤ) → Either (nat_abs (x +ℤ y)) (nat_abs x) (nat_abs y)
size_plus (pos a) (pos b) = inl refl
size_plus (pos a) (negsuc b) = inr (sub_size a (suc b))
size_plus (negsuc a) (pos b) = inr (sub_size b (suc a) ∙ turn b (suc a))
  where
    turn : (a b : ℕ) → distance a b ≡ distance b a
    turn a b = omega arith
size_plus (negsuc a) (negsuc b) = inl (omega arith)

pub size_minus : (x y : ℤ) → Either (nat_abs (x -ℤ y)) (nat_abs x) (nat_abs y)
size_minus x y = subst (Either (nat_abs (x -ℤ y)) (nat_abs x)) (size_neg y) (size_plus x (neg_ℤ y))
  where
    size_neg : (y : ℤ) → nat_abs (neg_ℤ y) ≡ nat_abs y
    size_neg (pos n) = size_of true n
    size_neg (negsuc n) = refl
