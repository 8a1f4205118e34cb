-- 01, Operands, "Common type". Assumes nothing.
use Rattle.std.specs.Prelude.{ℕ, Option, Some, None, Bool, false, List, [], ◌∷◌, eqb, ℤ, pos, negsuc, nat_abs, get_or, Float}
use Rattle.std.specs.Int.{Width, w32}
use Rattle.integer.specs.Range.{pick, in_signed, in_unsigned}
use Rattle.rounding.specs.Kind.{half, single, double, convert, of_integer}
use Rattle.rounding.specs.Bits.{to_bits}
use Rattle.types.specs.Types.{common_type}
use Rattle.value.specs.declared.Scalar.{Scalar}
use Rattle.value.specs.declared.Scalar.TheVariants.{Bool as bool, AbstractInt, AbstractFloat, I32, U32, F32, F16}
use Rattle.value.specs.declared.Pair.{Pair}
use Rattle.value.specs.Pair.{pair_of, both_of}
use Rattle.value.specs.Scalar.{type_of, finite_of, kept_scalar}

-- "An integer must lie in an integer target."
abbrev pub in_natural : Width → ℤ → Bool
in_natural w (pos n) = in_unsigned w n
in_natural w (negsuc n) = false

abbrev pub int_to_i32 : ℤ → Option Scalar
int_to_i32 x = pick (in_signed w32 x) (Some (I32 x)) None

abbrev pub int_to_u32 : ℤ → Option Scalar
int_to_u32 x = pick (in_natural w32 x) (Some (U32 (nat_abs x))) None

-- "To a float: rounded once; an infinite or NaN source, or a rounded result beyond the finite range, has no conversion."
abbrev pub when_finite : Scalar → Option Scalar
when_finite s = pick (finite_of s) (Some s) None

abbrev pub int_to_float : ℤ → Option Scalar
int_to_float x = when_finite (AbstractFloat (of_integer double x))

abbrev pub int_to_f32 : ℤ → Option Scalar
int_to_f32 x = when_finite (F32 (of_integer single x))

abbrev pub int_to_f16 : ℤ → Option Scalar
int_to_f16 x = when_finite (F16 (to_bits half (of_integer half x)))

abbrev pub float_to_f32 : Float → Option Scalar
float_to_f32 x = when_finite (F32 (convert single x))

abbrev pub float_to_f16 : Float → Option Scalar
float_to_f16 x = when_finite (F16 (to_bits half (convert half x)))

-- "AbstractInt goes to any other but Bool": by the target's code
abbrev pub targets : ℤ → List (Option Scalar)
targets x = Some (AbstractInt x) ∷ int_to_float x ∷ int_to_i32 x ∷ int_to_u32 x ∷ int_to_f32 x ∷ int_to_f16 x ∷ []

abbrev pub from_int : ℕ → ℤ → Option Scalar
from_int ty x = get_or (None ∷ targets x) ty None

-- "AbstractFloat to F32 or F16"
abbrev pub from_float : ℕ → Float → Option Scalar
from_float ty x = get_or (None ∷ None ∷ Some (AbstractFloat x) ∷ None ∷ None ∷ float_to_f32 x ∷ float_to_f16 x ∷ []) ty None

-- "equal types, which stand unconverted", a NaN as it is kept
abbrev pub stands : ℕ → Scalar → Option Scalar
stands ty s = pick (eqb (type_of s) ty) (Some (kept_scalar s)) None

-- a scalar as one of a type
abbrev pub convert_to : ℕ → Scalar → Option Scalar
convert_to ty (bool x) = stands ty (bool x)
convert_to ty (AbstractInt x) = from_int ty x
convert_to ty (AbstractFloat x) = from_float ty x
convert_to ty (I32 x) = stands ty (I32 x)
convert_to ty (U32 x) = stands ty (U32 x)
convert_to ty (F32 x) = stands ty (F32 x)
convert_to ty (F16 x) = stands ty (F16 x)

-- two operands of one type, which need no conversion; a NaN as it is kept
abbrev pub kept_pair : Scalar → Scalar → Option Pair
kept_pair l r = pair_of (kept_scalar l) (kept_scalar r)

-- two operands of their common type; "otherwise none"
abbrev pub in_common : Option ℕ → Scalar → Scalar → Option Pair
in_common (Some ty) l r = both_of (convert_to ty l) (convert_to ty r)
in_common None l r = None

unfoldable pub common_of : Scalar → Scalar → Option Pair
common_of l r = in_common (common_type (type_of l) (type_of r)) l r
