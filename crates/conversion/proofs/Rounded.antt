-- Each conversion to a float type rounds once: the claims of `specs/Rounded.antt`. Assumes nothing.
use mathlib.Core.Path.{◌≡◌, refl, sym, ap, ◌∙◌}
use mathlib.Core.Bool.{Bool, false, false≢true}
use lib.Ieee.{Float, nan, inf, fin}
use Rattle.std.specs.Prelude.{Some, None}
use Rattle.rounding.specs.Kind.{Kind, half, single, double, convert, of_integer}
use Rattle.rounding.specs.Bits.{to_bits, finite}
use Rattle.rounding.specs.Rounded.{Exact, RoundedOnce, RoundedOr, ratio, exact_of, sign_of, own_sign}
use Rattle.rounding.proofs.Rounded.{answered, conversion_rounded, integer_rounded}
use Rattle.rounding.proofs.Reread.{convert_back, integer_back, half_not_finite}
use Rattle.rounding.proofs.Units.{half_sized, single_sized, double_sized}
use Rattle.types.proofs.Choice.{picked, passed}
use Rattle.value.specs.declared.Scalar.{Scalar}
use Rattle.value.specs.declared.Scalar.TheVariants.{AbstractFloat, F32, F16}
use Rattle.value.specs.Scalar.{finite_of}
use Rattle.conversion.specs.Convert.{when_finite}
use Rattle.conversion.specs.Rounded.{to_abstract_float, to_f32, to_f16, IntegerConverts, FloatConverts, NotFiniteRefused}

-- what is rounded once is converted where it is finite
converted : (k : Kind) (s : Bool) (x : Exact) (r : Float) (make : Float → Scalar) → RoundedOnce k s x r → finite_of (make r) ≡ finite r
    → RoundedOr k s x (λ v. Some (make v)) None (when_finite (make r))
converted k s x r make h q =
    answered k s x r (λ v. Some (make v)) h (λ f. sym (picked (Some (make r)) None (q ∙ f))) (λ e. sym (passed (Some (make r)) None (q ∙ ap finite e)))

-- ---- from AbstractInt
pub integer_to_float : IntegerConverts to_abstract_float
integer_to_float z = converted double (own_sign z false) (ratio z 1) (of_integer double z) AbstractFloat (integer_rounded double double_sized z) refl

pub integer_to_f32 : IntegerConverts to_f32
integer_to_f32 z = converted single (own_sign z false) (ratio z 1) (of_integer single z) F32 (integer_rounded single single_sized z) refl

pub integer_to_f16 : IntegerConverts to_f16
integer_to_f16 z =
    converted half (own_sign z false) (ratio z 1) (of_integer half z) (λ r. F16 (to_bits half r)) (integer_rounded half half_sized z) (ap finite (integer_back half half_sized z))

-- ---- from AbstractFloat
pub float_to_f32_lem : FloatConverts to_f32
float_to_f32_lem x f = converted single (sign_of x) (exact_of x) (convert single x) F32 (conversion_rounded single single_sized x f) refl

pub float_to_f16_lem : FloatConverts to_f16
float_to_f16_lem x f =
    converted half (sign_of x) (exact_of x) (convert half x) (λ r. F16 (to_bits half r)) (conversion_rounded half half_sized x f) (ap finite (convert_back half half_sized x f))

pub not_finite_f32 : NotFiniteRefused to_f32
unfolding convert
not_finite_f32 nan f = refl
not_finite_f32 (inf s) f = refl
not_finite_f32 (fin s m e) f = absurd (false≢true (sym f))

pub not_finite_f16 : NotFiniteRefused to_f16
not_finite_f16 x f = sym (passed (Some (F16 (to_bits half (convert half x)))) None (half_not_finite x f))
