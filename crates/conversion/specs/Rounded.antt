-- 01, Operands: "To a float: rounded once, nearest, ties to even; an infinite or NaN source, or a rounded result beyond the finite range, has no conversion",
-- said of each conversion to a float type. `proofs/Rounded.antt` shows each claim of each target. Assumes nothing.
use Rattle.std.specs.Prelude.{ℕ, ◌≡◌, true, false, ℤ, Float, Some, None}
use Rattle.rounding.specs.Kind.{Kind, half, single, double}
use Rattle.rounding.specs.Bits.{to_bits, finite}
use Rattle.rounding.specs.Rounded.{ratio, exact_of, sign_of, own_sign, RoundedOr}
use Rattle.value.specs.declared.Scalar.{Scalar}
use Rattle.value.specs.declared.Scalar.TheVariants.{AbstractInt, AbstractFloat, F32, F16}
use Rattle.conversion.specs.Convert.{convert_to}

-- a float type as a target: its code, its kind, and the scalar that stands for a float
pub record Target : Type 0 where
  pub code : ℕ
  pub kind : Kind
  pub scalar : Float → Scalar

abbrev pub to_abstract_float : Target
to_abstract_float = record { code = 2; kind = double; scalar = AbstractFloat }

abbrev pub to_f32 : Target
to_f32 = record { code = 5; kind = single; scalar = F32 }

abbrev pub to_f16 : Target
to_f16 = record { code = 6; kind = half; scalar = λ r. F16 (to_bits half r) }

-- "AbstractInt goes to any other but Bool": the integer rounded once; none where it is too large for the kind
abbrev pub IntegerConverts : Target → Type 0
IntegerConverts t = (z : ℤ) → RoundedOr t.kind (own_sign z false) (ratio z 1) (λ r. Some (t.scalar r)) None (convert_to t.code (AbstractInt z))

-- "AbstractFloat to F32 or F16": a finite value rounded once; an infinity and a NaN have no conversion
abbrev pub FloatConverts : Target → Type 0
FloatConverts t = (x : Float) → finite x ≡ true → RoundedOr t.kind (sign_of x) (exact_of x) (λ r. Some (t.scalar r)) None (convert_to t.code (AbstractFloat x))

abbrev pub NotFiniteRefused : Target → Type 0
NotFiniteRefused t = (x : Float) → finite x ≡ false → convert_to t.code (AbstractFloat x) ≡ None
