-- For each public call witnesses at which a wrong program's answer is not the one that the contract asks for. Assumes nothing.
use mathlib.Core.Path.{◌≡◌, refl}
use Rattle.integer.specs.Wrap.{wrap_u, wrap_s}
use Rattle.rounding.specs.Kind.{round_to, units_in}
use Rattle.rounding.specs.Arithmetic.{mul}
use Rattle.rounding.specs.Bits.{of_bits, to_bits}
use Rattle.value.specs.Answer.{refusal}
use Rattle.std.specs.Prelude.{Ok, Err, Some, None}
use Rattle.scalar.specs.Step.{unary_step_of, step_of, product_added, conv_of}

-- a detail, or an operand's type, beside the number
pub refusal_witness : refusal 7 0 ≡ record { number = 7; detail = 0; ty = 0; bits = 0 }
refusal_witness = refl

-- all refused, the left pattern, the operands exchanged; a code past the operators' taken for the last one's
pub binary_witnesses : (step_of 4 0 3 5 2 ≡ Ok (3, 3)) × (step_of 10 0 4 1 2 ≡ Ok (0, 1)) × (step_of 19 0 3 5 2 ≡ Err (refusal 2 0))
unfolding wrap_u wrap_s step_of
binary_witnesses = (refl, refl, refl)

-- a shift refused with its count as the operand, with the operand's type lost, or with a number where the pattern belongs
pub shift_witness : step_of 17 0 3 0xFFFFFFFD 40 ≡ Err (record { number = 9; detail = 40; ty = 3; bits = 0xFFFFFFFD })
unfolding step_of
shift_witness = refl

-- the pattern itself; a code past the operators' taken for the last one's
pub unary_witnesses : (unary_step_of 2 3 5 ≡ Ok (3, 0xFFFFFFFB)) × (unary_step_of 4 3 5 ≡ Err (refusal 1 0))
unfolding wrap_u wrap_s unary_step_of
unary_witnesses = (refl, refl)

-- a conversion by bits; one to Bool
pub conversion_witnesses : (conv_of 1 4 0xFFFFFFFFFFFFFFFF ≡ None) × (conv_of 1 4 5 ≡ Some 5) × (conv_of 1 0 1 ≡ None)
unfolding conv_of
conversion_witnesses = (refl, refl, refl)

-- a product that is not finite: in Exec refused in F32, or let through in F64
pub infinity_witnesses : (step_of 5 2 5 0x7F000000 0x7F000000 ≡ Ok (5, 0x7F800000)) × (step_of 5 2 2 0x7FE0000000000000 0x7FE0000000000000 ≡ Err (refusal 6 0))
unfolding step_of mul round_to units_in of_bits to_bits
infinity_witnesses = (refl, refl)

-- in a sum of products the product is judged before the sum
pub product_judged : product_added 0 5 0 0x7F000000 0x7F000000 ≡ Err (refusal 6 0)
unfolding step_of product_added mul round_to units_in of_bits to_bits
product_judged = refl

-- the product without the sum, the sum without the product
pub product_witness : product_added 0 3 1 2 3 ≡ Ok (3, 7)
unfolding wrap_u wrap_s step_of product_added
product_witness = refl
