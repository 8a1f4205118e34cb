-- For each public call a witness at which a wrong program's answer is not the one that the contract asks for. Assumes nothing.
use mathlib.Core.Path.{◌≡◌, refl}
use mathlib.Core.Bool.{true, false}
use lib.IntN.{negsuc}
use Rattle.rounding.specs.Bits.{of_fields, of_bits}
use Rattle.value.specs.declared.Scalar.TheVariants.{Bool as bool, I32, U32, F16}
use Rattle.value.specs.declared.ShaderStage.TheVariants.{Exec}
use Rattle.std.specs.Prelude.{None, Err}
use Rattle.value.specs.declared.OperatorError.TheVariants.{DivByZero, ShrOverflow}
use Rattle.value.specs.Answer.{carries, refused_by, answer_of, number_of, detail_of, scalar_in, strict, stage_of}
use Rattle.value.specs.Pattern.{proper_of, kept_of}
use Rattle.value.specs.Scalar.{type_of, finite_of, bits_of, kept_scalar, scalar_of}
use Rattle.value.specs.Pair.{both_of}

-- the left shift's refusal alone; every refusal with a detail
pub both_shifts_carry : (carries 9 ≡ true) × (carries 10 ≡ true) × (carries 11 ≡ false)
both_shifts_carry = (refl, refl, refl)

-- the detail for the number, no detail, the count for the operand; an operand of DivByZero
pub shift_said : (number_of (refused_by (ShrOverflow 40 (U32 7))) ≡ 10) × (detail_of (refused_by (ShrOverflow 40 (U32 7))) ≡ 40)
    × (scalar_in (answer_of (Err (ShrOverflow 40 (U32 7)))) ≡ U32 7) × (scalar_in (answer_of (Err DivByZero)) ≡ bool false)
shift_said = (refl, refl, refl, refl)

-- every stage strict
pub exec_lets_pass : strict Exec ≡ false
exec_lets_pass = refl

-- every F16 finite
pub half_infinity : finite_of (F16 0x7C00) ≡ false
unfolding of_fields of_bits
half_infinity = refl

-- a pattern of a code that names no type, a Bool of 2, an I32 with bits above
pub not_patterns : (proper_of 7 0 ≡ false) × (proper_of 0 2 ≡ false) × (proper_of 3 0x100000000 ≡ false)
not_patterns = (refl, refl, refl)

-- NaNs as they come; an infinity taken for a NaN
pub one_nan_kept : (kept_of 5 0xFF800001 ≡ 0x7FC00000) × (kept_of 5 0xFF800000 ≡ 0xFF800000)
unfolding kept_of
one_nan_kept = (refl, refl)

-- an F16's NaN as it came; any bits of an F16 taken for a NaN's
pub half_kept : (kept_scalar (F16 0xFC01) ≡ F16 0x7E00) × (kept_scalar (F16 0xFC00) ≡ F16 0xFC00)
unfolding kept_of
half_kept = (refl, refl)

-- Override for every code past Const's
pub two_is_exec : stage_of 2 ≡ Exec
two_is_exec = refl

-- I32 and U32 under one code
pub signs_apart : (type_of (I32 (negsuc 0)) ≡ 3) × (type_of (U32 0) ≡ 4)
signs_apart = (refl, refl)

-- a negative I32 as 64 bits
pub zero_above : bits_of (I32 (negsuc 0)) ≡ 0xFFFFFFFF
zero_above = refl

-- a pattern with bits above cut to its type, alone or in a pair
pub too_wide : (scalar_of 3 0x100000000 ≡ None) × (both_of (scalar_of 3 1) (scalar_of 3 0x100000000) ≡ None)
too_wide = (refl, refl)
