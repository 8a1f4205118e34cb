-- What "the exact result rounded once" says of `+ - * /` and of conversions, in the words of IEEE 754: the result is "as if it first produced an
-- intermediate result correct to infinite precision and with unbounded range, and then rounded". An exact number is a fraction of whole numbers.
-- `proofs/Rounded.antt` shows each claim of every kind, `proofs/Unique.antt` that each leaves one answer, and `proofs/Halves.antt` that F16 by F32 is F16 rounded
-- once. Assumes nothing.
use Rattle.std.specs.Prelude.{◌≡◌, ℕ, zero, suc, ◌*◌, ◌^◌, ◌≤◌, Bool, true, false, cond, not, ◌&&◌, ◌⊎◌, ℤ, pos, negsuc, ◌+ℤ◌, ◌-ℤ◌, ◌*ℤ◌, neg_ℤ, ◌≢◌, unsigned_abs, Float}
use Rattle.std.specs.Float.{nan, inf, fin}
use Rattle.std.specs.Float.Ieee.{up, down, unlike}
use Rattle.rounding.specs.Kind.{Kind, half, single, least, convert, of_integer}
use Rattle.rounding.specs.Arithmetic.{add, sub, mul, div}
use Rattle.rounding.specs.Bits.{of_bits, finite}
use Rattle.rounding.specs.Nearest.{OfKind, Even, Beyond}

-- ---- exact numbers

-- a whole number over a positive one
pub record Exact : Type 0 where
  pub top : ℤ
  pub bottom : ℕ

abbrev pub ratio : ℤ → ℕ → Exact
ratio a b = record { top = a; bottom = b }

-- n, or -n where s is true
abbrev pub signed_by : Bool → ℕ → ℤ
signed_by s n = cond s (neg_ℤ (pos n)) (pos n)

-- "a finite float being one times a power of two": m * 2 ^ e with its sign; no claim asks for the number of an infinity or a NaN
abbrev pub exact_of : Float → Exact
exact_of nan = ratio (pos 0) 1
exact_of (inf s) = ratio (pos 0) 1
exact_of (fin s m e) = ratio (signed_by s (m * up e)) (down e)

-- the sign of a float, which a zero has too
abbrev pub sign_of : Float → Bool
sign_of nan = false
sign_of (inf s) = s
sign_of (fin s m e) = s

-- two fractions are one number
abbrev pub Same : Exact → Exact → Type 0
Same x y = x.top *ℤ pos y.bottom ≡ y.top *ℤ pos x.bottom

abbrev pub plus : Exact → Exact → Exact
plus x y = ratio (x.top *ℤ pos y.bottom +ℤ y.top *ℤ pos x.bottom) (x.bottom * y.bottom)

abbrev pub minus : Exact → Exact → Exact
minus x y = ratio (x.top *ℤ pos y.bottom -ℤ y.top *ℤ pos x.bottom) (x.bottom * y.bottom)

abbrev pub times : Exact → Exact → Exact
times x y = ratio (x.top *ℤ y.top) (x.bottom * y.bottom)

-- 1 or -1
abbrev pub unit : ℤ → ℤ
unit (pos n) = pos 1
unit (negsuc n) = negsuc 0

-- the quotient by a y that is not 0; its sign stands above
abbrev pub over : Exact → Exact → Exact
over x y = ratio (x.top *ℤ pos y.bottom *ℤ unit y.top) (unsigned_abs y.top * x.bottom)

-- ---- rounded once

-- x is a value of the kind: so many of the smallest ones, with their sign
pub record Holds (k : Kind) (x : Exact) : Type 0 where
  pub units : ℤ
  pub value : Same x (ratio units (2 ^ least k))
  pub of_kind : OfKind k (unsigned_abs units)

-- how far u smallest values of the kind, with their sign, are from x, times x's bottom
abbrev pub away : Kind → Exact → ℤ → ℕ
away k x u = unsigned_abs (u *ℤ pos x.bottom -ℤ x.top *ℤ pos (2 ^ least k))

-- r is a value of the kind with the sign s; no value of the kind, of either sign, is nearer to x, and where another is as near r's last digit is even
pub record NearestTo (k : Kind) (s : Bool) (x : Exact) (r : Float) : Type 0 where
  pub is_finite : finite r ≡ true
  pub sign : sign_of r ≡ s
  pub held : Holds k (exact_of r)
  pub nearest : (v : ℤ) → OfKind k (unsigned_abs v) → away k x held.units ≤ away k x v
  pub even : (v : ℤ) → OfKind k (unsigned_abs v) → away k x v ≡ away k x held.units → (v ≡ held.units) ⊎ Even k (unsigned_abs held.units)

-- IEEE 754, 4.3.1: from half a step beyond the largest finite value on a number "shall round to ∞ with no change in sign"
abbrev pub TooLarge : Kind → Exact → Type 0
TooLarge k x = Beyond k (unsigned_abs x.top) x.bottom

-- what answers x rounded once: `found` of the nearest value, or `none` where x is too large
pub record RoundedOr {A : Type 0} (k : Kind) (s : Bool) (x : Exact) (found : Float → A) (none : A) (answer : A) : Type 0 where
  pub within : (TooLarge k x → ⊥) → (r : Float) × NearestTo k s x r × (answer ≡ found r)
  pub beyond : TooLarge k x → answer ≡ none

-- r is x rounded once: the nearest value, or the infinity with its sign
abbrev pub RoundedOnce : Kind → Bool → Exact → Float → Type 0
RoundedOnce k s x r = RoundedOr k s x (λ v. v) (inf s) r

-- "one F32 operation and rounds once to F16": the F32 nearest to x, which is in its range, rounded once
pub record RoundedTwice {A : Type 0} (s : Bool) (x : Exact) (found : Float → A) (none : A) (answer : A) : Type 0 where
  pub between : Float
  pub first : NearestTo single s x between
  pub second : RoundedOr half s (exact_of between) found none answer

-- ---- by operator

-- IEEE 754, 6.3, on signs: a number has its own, and one that is exactly 0 has s
abbrev pub own_sign : ℤ → Bool → Bool
own_sign (pos zero) s = s
own_sign (pos (suc n)) s = false
own_sign (negsuc n) s = true

-- a sum that is exactly 0 is +0, but of two negative zeros -0; a difference is "regarded as a sum x + (-y)"
abbrev pub sum_sign : Float → Float → Bool
sum_sign x y = own_sign (plus (exact_of x) (exact_of y)).top (sign_of x && sign_of y)

abbrev pub difference_sign : Float → Float → Bool
difference_sign x y = own_sign (minus (exact_of x) (exact_of y)).top (sign_of x && not (sign_of y))

-- "the sign of a product or quotient is the exclusive OR of the operands' signs"
abbrev pub product_sign : Float → Float → Bool
product_sign x y = unlike (sign_of x) (sign_of y)

-- "A float `+ - * /` .. is the exact result rounded once": of any two finite values, a divisor not being 0
abbrev pub SumRounded : Kind → Type 0
SumRounded k = (x y : Float) → finite x ≡ true → finite y ≡ true
    → RoundedOnce k (sum_sign x y) (plus (exact_of x) (exact_of y)) (add k x y)

abbrev pub DifferenceRounded : Kind → Type 0
DifferenceRounded k = (x y : Float) → finite x ≡ true → finite y ≡ true
    → RoundedOnce k (difference_sign x y) (minus (exact_of x) (exact_of y)) (sub k x y)

abbrev pub ProductRounded : Kind → Type 0
ProductRounded k = (x y : Float) → finite x ≡ true → finite y ≡ true
    → RoundedOnce k (product_sign x y) (times (exact_of x) (exact_of y)) (mul k x y)

abbrev pub QuotientRounded : Kind → Type 0
QuotientRounded k = (x y : Float) → finite x ≡ true → finite y ≡ true → ((exact_of y).top ≢ pos 0)
    → RoundedOnce k (product_sign x y) (over (exact_of x) (exact_of y)) (div k x y)

-- "To a float: rounded once": of any finite value, and of any integer, whose 0 is +0
abbrev pub ConversionRounded : Kind → Type 0
ConversionRounded k = (x : Float) → finite x ≡ true → RoundedOnce k (sign_of x) (exact_of x) (convert k x)

abbrev pub IntegerRounded : Kind → Type 0
IntegerRounded k = (z : ℤ) → RoundedOnce k (own_sign z false) (ratio z 1) (of_integer k z)

-- "F16 arithmetic widens exactly": the value of each finite pattern of F16 is a value of F32
abbrev pub WidenedExactly : Type 0
WidenedExactly = (b : ℕ) → finite (of_bits half b) ≡ true → Holds single (exact_of (of_bits half b))
