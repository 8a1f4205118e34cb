-- Operators on scalars by their codes in a record, and what of their results a record says. Assumes nothing.
use Rattle.std.specs.Prelude.{ℕ, Option, Bool, false, ◌&&◌, List, [], ◌∷◌, eqb, get_or}
use Rattle.std.specs.Option.{unwrap_or}
use Rattle.value.specs.declared.Scalar.{Scalar}
use Rattle.value.specs.declared.Scalar.TheVariants.{Bool as bool}
use Rattle.value.specs.declared.ShaderStage.{ShaderStage}
use Rattle.value.specs.Answer.{Result, number_of, detail_of, scalar_in}
use Rattle.value.specs.Scalar.{type_of, bits_of, scalar_of}
use Rattle.value.specs.Pair.{pair_of}
use Rattle.conversion.specs.Convert.{common_of, convert_to}
use Rattle.relation.specs.Logical.{not_of, or_of, and_of}
use Rattle.relation.specs.Comparison.{eq_of, ne_of, lt_of, le_of, gt_of, ge_of}
use Rattle.arithmetic.specs.Arithmetic.{neg_of, add_of, sub_of, mul_of, div_of, rem_of}
use Rattle.bitwise.specs.Bits.{bit_not_of, bit_or_of, bit_and_of, bit_xor_of}
use Rattle.bitwise.specs.Shift.{shl_of, shr_of}
use Rattle.booth.specs.Answer.{packed_answer}
use Rattle.cases.specs.Record.{number_at}

-- "1 `!`, 2 `-`, 3 `~`"; a list has no other code, and any other is taken as 3
abbrev pub unary_results : Scalar → List Result
unary_results s = not_of s ∷ neg_of s ∷ []

unfoldable pub unary_by : ℕ → Scalar → Result
unary_by op s = get_or (bit_not_of s ∷ unary_results s) op (bit_not_of s)

-- "1 `||`, 2 `&&`, 3 to 7 `+ - * / %`, 8 to 13 `== != < <= > >=`, 14 to 16 `| & ^`, 17 `<<`, 18 `>>`"; any other is taken as 16
abbrev pub binary_results : ShaderStage → Scalar → Scalar → List Result
binary_results stage l r =
    or_of (pair_of l r) ∷ and_of (pair_of l r)
    ∷ add_of stage (common_of l r) ∷ sub_of stage (common_of l r) ∷ mul_of stage (common_of l r) ∷ div_of stage (common_of l r) ∷ rem_of stage (common_of l r)
    ∷ eq_of (common_of l r) ∷ ne_of (common_of l r) ∷ lt_of (common_of l r) ∷ le_of (common_of l r) ∷ gt_of (common_of l r) ∷ ge_of (common_of l r)
    ∷ bit_or_of (common_of l r) ∷ bit_and_of (common_of l r) ∷ bit_xor_of (common_of l r)
    ∷ shl_of stage l (convert_to 4 r) ∷ shr_of stage l (convert_to 4 r) ∷ []

unfoldable pub binary_by : ℕ → ShaderStage → Scalar → Scalar → Result
binary_by op stage l r = get_or (bit_xor_of (common_of l r) ∷ binary_results stage l r) op (bit_xor_of (common_of l r))

-- the scalar that is an operand, of its type and its pattern; a list of scalars has no other operand, and any other is taken as false
abbrev pub scalar_found : Option Scalar → Scalar
scalar_found f = unwrap_or f (bool false)

unfoldable pub scalar_read : List ℕ → Scalar
scalar_read o = scalar_found (scalar_of (get_or o 0 0) (number_at o 4))

-- a result's number and detail, packed as C has them; a value has the number 0
abbrev pub packed_result : Result → ℕ
packed_result x = packed_answer (number_of x) (detail_of x)

-- the type and the pattern of a value, or of the operand that is carried, are those that the rest of a record says; zeros where there is neither
abbrev pub value_said : Result → List ℕ → Bool
value_said x rest = eqb (type_of (scalar_in x)) (get_or rest 5 0) && eqb (bits_of (scalar_in x)) (number_at rest 9)
