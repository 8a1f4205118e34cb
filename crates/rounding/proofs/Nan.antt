-- Where a float is a NaN, by a test or by its bits, in either of the language's formats. Assumes nothing.
use Rattle.std.proofs.Common.{◌≡◌, ℕ, ◌+◌, ◌*◌, ◌/◌, ◌%◌, ◌≤◌, Bool, true, false, not, T, sym, refl, ap, ◌∙◌, subst, le-ltb}
use mathlib.Core.Bool.{false≢true}
use lib.Ieee as Ieee
use lib.Ieee.{Float, Format, binary32, binary64, nan, inf, fin, is_nan, nan_bits, fits, ne}
use lib.Ieee.Bits.{of_bits-to_bits, nan_bits_is, nan_bits_above}
use Rattle.rounding.specs.Kind.{Kind, half, convert}
use Rattle.rounding.specs.Bits.{to_bits, of_bits, signed, full, hidden}
use Rattle.rounding.proofs.Same.{of}
use Rattle.rounding.proofs.Back.{bits_back}

-- ---- by the test `x.is_nan()`
is_nan_lem : (x : Float) → is_nan x ≡ true → nan ≡ x
unfolding is_nan
is_nan_lem nan h = refl
is_nan_lem (inf s) h = absurd (false≢true h)
is_nan_lem (fin s m e) h = absurd (false≢true h)

-- what a NaN is rounded to
nan_converted : (k : Kind) → convert k nan ≡ nan
unfolding convert
nan_converted k = refl

pub nan_narrowed : (k : Kind) (x : Float) → is_nan x ≡ true → convert k x ≡ nan
nan_narrowed k x h = ap (convert k) (sym (is_nan_lem x h)) ∙ nan_converted k

pub nan_half : (x : Float) → is_nan x ≡ true → 0x7E00 ≡ to_bits half (convert half x)
unfolding to_bits
nan_half x h = ap (to_bits half) (sym (nan_narrowed half x h))

-- ---- by the bits
-- from the bits b of an F32 or F64 that is a number
pub real : (f : Format) (x : Float) {b : ℕ} → T (fits f x) → is_nan x ≡ false → b ≡ to_bits (of f) x → of_bits (of f) b ≡ nan → ⊥
unfolding is_nan
real f x t h e n = false≢true (sym h ∙ ap is_nan (sym (bits_back f x t) ∙ ap (of_bits (of f)) (sym e) ∙ n))

pub no_nan_bits : (f : Format) (x : Float) → T (fits f x) → T (not (is_nan x)) → T (not (nan_bits f (Ieee.to_bits f x)))
no_nan_bits f x t n = subst (λ (b : Bool). T (not b)) (sym (nan_bits_is f (Ieee.to_bits f x) ∙ ap is_nan (of_bits-to_bits f x t))) n

-- the pattern of the NaN
pub nan_pattern : (f : Format) → Ieee.of_bits f (full (of f) * hidden (of f) + hidden (of f) / 2) ≡ nan
unfolding Ieee.of_bits
nan_pattern binary32 = refl
nan_pattern binary64 = refl

pub read_plain : (f : Format) (b : ℕ) → b % signed (of f) ≤ full (of f) * hidden (of f) → T (not (nan_bits f b))
read_plain f b h = subst (λ (x : Bool). T (not x)) (sym (nan_bits_above f b ∙ le-ltb (full (of f) * hidden (of f)) (b % signed (of f)) h)) tt
