-- For each public call a witness at which a wrong program's answer is not the one that the contract asks for. Assumes nothing.
use mathlib.Core.Path.{◌≡◌, refl}
use mathlib.Core.Bool.{true, false}
use lib.Dec.{eqb}
use Rattle.std.specs.Prelude.{Some, None}
use Rattle.types.specs.Types.{known_of, class_of, width_of, most_of, float_of, integer_of, concrete_of, goes_to, common_type, right_of, unary_right_of, result_type}

-- Bool, whose code is 0, taken for no type
pub bool_known : known_of 0 ≡ true
bool_known = refl

-- AbstractInt as a class of its own
pub abstract_signed : class_of 1 ≡ class_of 3
abstract_signed = refl

-- 32 bits for every type
pub half_width : eqb (width_of 6) 32 ≡ false
half_width = refl

-- any pattern, or none but 0, for a code that names no type
pub no_pattern : (most_of 7 ≡ 0) × (most_of 255 ≡ 0)
no_pattern = (refl, refl)

-- integers with matrices
pub integer_no_float : (float_of 1 ≡ false) × (float_of 7 ≡ false)
integer_no_float = (refl, refl)

-- Bool or AbstractFloat shifted; AbstractInt not
pub integers_alone : (integer_of 0 ≡ false) × (integer_of 2 ≡ false) × (integer_of 1 ≡ true)
integers_alone = (refl, refl, refl)

-- an abstract setting
pub abstract_no_setting : (concrete_of 2 ≡ false) × (concrete_of 7 ≡ false)
abstract_no_setting = (refl, refl)

-- AbstractInt going to Bool, AbstractFloat to an integer, any type to itself or to a code that names none
pub goes_nowhere : (goes_to 1 0 ≡ false) × (goes_to 2 3 ≡ false) × (goes_to 1 1 ≡ false) × (goes_to 1 7 ≡ false)
goes_nowhere = (refl, refl, refl, refl)

-- the left's type always; a common type of concrete types; a code that names no type as its own common type
pub common_right : (common_type 1 5 ≡ Some 5) × (common_type 3 4 ≡ None) × (common_type 7 7 ≡ None)
unfolding common_type
common_right = (refl, refl, refl)

-- Bools ordered; floats with bits; 0 and 200 for operators; a right of no type
pub no_right : (right_of 10 0 ≡ false) × (right_of 14 5 ≡ false) × (right_of 0 0 ≡ false) × (right_of 200 1 ≡ false) × (right_of 8 7 ≡ false)
no_right = (refl, refl, refl, refl, refl)

-- `!` on integers; a U32 negated; a right of no type
pub no_unary_right : (unary_right_of 1 3 ≡ false) × (unary_right_of 2 4 ≡ false) × (unary_right_of 2 7 ≡ false)
no_unary_right = (refl, refl, refl)

-- a comparison of the operands' type
pub compares_to_bool : (result_type 8 5 ≡ 0) × (result_type 13 5 ≡ 0)
compares_to_bool = (refl, refl)
