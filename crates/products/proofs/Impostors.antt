-- For each public call a witness at which a wrong program's answer is not the one that the contract asks for. Assumes nothing.
use mathlib.Core.Path.{◌≡◌, refl}
use mathlib.Core.List.{List, [], ◌∷◌, ◌++◌}
use Prim.Native.Nat.{ℕ, ◌-◌}
use lib.ListN.{length, replicate}
use Rattle.rounding.specs.Arithmetic.{sum, add, mul}
use Rattle.rounding.specs.Bits.{of_fields, of_bits, to_bits}
use Rattle.rounding.specs.Kind.{units_in, round_to, convert}
use Rattle.std.specs.Prelude.{Ok, Err}
use Rattle.value.specs.Answer.{refusal}
use Rattle.value.specs.Pattern.{kept_of}
use Rattle.scalar.specs.Step.{step_of}
use Rattle.low.specs.Bytes.{up_to}
use Rattle.components.specs.Components.{all_or_refusal, each_component}
use Rattle.products.specs.Products.{sum_to, cell_at, vector_matrix}

abbrev sixteen : List ℕ → List ℕ
sixteen xs = xs ++ replicate (16 - length xs) 0

-- F32 columns (3,4),(5,6) times (1,2): (13,16), and not the rows' (11,17); vector times matrix the other way round
pub sides : (each_component (cell_at 0 5 (sixteen (0x40400000 ∷ 0x40800000 ∷ 0x40A00000 ∷ 0x40C00000 ∷ [])) (sixteen (0x3F800000 ∷ 0x40000000 ∷ [])) 2 2) 2
    ≡ Ok (sixteen (0x41500000 ∷ 0x41800000 ∷ [])))
    × (vector_matrix 0 5 (sixteen (0x3F800000 ∷ 0x40000000 ∷ [])) (sixteen (0x40400000 ∷ 0x40800000 ∷ 0x40A00000 ∷ 0x40C00000 ∷ [])) 2 2 1
    ≡ Ok (sixteen (0x41300000 ∷ 0x41880000 ∷ [])))
unfolding sum add mul of_fields of_bits to_bits units_in round_to convert kept_of step_of up_to all_or_refusal sum_to
sides = (refl, refl)

-- F16 (32768,32768) times columns (1,1),(4,0): in vector times matrix the product 32768 * 4 comes first and is MulOverflow; a component finished
-- after the other would have the sum 32768 + 32768 first, which is AddOverflow
pub product_first : vector_matrix 0 6 (sixteen (0x7800 ∷ 0x7800 ∷ [])) (sixteen (0x3C00 ∷ 0x3C00 ∷ 0x4400 ∷ 0 ∷ [])) 2 2 1 ≡ Err (refusal 6 0)
unfolding sum add mul of_fields of_bits to_bits units_in round_to convert kept_of step_of up_to all_or_refusal sum_to
product_first = refl
