-- For each public call a witness at which a wrong program's answer is not the one that the contract asks for. Assumes nothing.
use mathlib.Core.Path.{◌≡◌, refl}
use mathlib.Core.Bool.{true}
use lib.IntN.{pos, negsuc}
use Rattle.types.specs.Types.{common_type}
use Rattle.value.specs.declared.Scalar.TheVariants.{Bool as bool, AbstractInt, I32, U32, F16}
use Rattle.std.specs.Prelude.{Some, None}
use Rattle.value.specs.declared.Pair.TheVariants as P
use Rattle.value.specs.Pattern.{kept_of}
use Rattle.conversion.specs.Convert.{convert_to, kept_pair, common_of}

-- an integer cut to its target; a concrete type converted
pub outside_target : (convert_to 3 (AbstractInt (pos 2147483648)) ≡ None) × (convert_to 4 (AbstractInt (negsuc 0)) ≡ None) × (convert_to 4 (I32 (pos 1)) ≡ None)
outside_target = (refl, refl, refl)

-- an F16's NaN handed on as it came, by a conversion to its own type, in a pair, or as an operand of the common type
pub nan_kept : (convert_to 6 (F16 0xFE01) ≡ Some (F16 0x7E00)) × (kept_pair (F16 0x7C01) (F16 0x3C00) ≡ Some (P.F16 0x7E00 0x3C00)) × (common_of (F16 0x3C00) (F16 0x7D00) ≡ Some (P.F16 0x3C00 0x7E00))
unfolding kept_of common_type common_of
nan_kept = (refl, refl, refl)

-- two scalars of unlike types paired
pub unlike_types : kept_pair (I32 (pos 1)) (U32 1) ≡ None
unlike_types = refl

-- the right one converted where the left is; a truth value met with a number
pub left_converted : (common_of (AbstractInt (pos 1)) (U32 5) ≡ Some (P.U32 1 5)) × (common_of (bool true) (AbstractInt (pos 1)) ≡ None)
unfolding common_type common_of
left_converted = (refl, refl)
