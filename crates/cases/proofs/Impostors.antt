-- Wrong judges that the contracts exclude: records at which the definitions ask for another answer than such a judge gives. Assumes nothing.
use mathlib.Core.Path.{◌≡◌, refl}
use mathlib.Core.Bool.{true, false}
use mathlib.Core.List.{List, [], ◌∷◌, ◌++◌, map}
use Prim.Native.Nat.{ℕ}
use lib.ListN.{replicate}
use Rattle.rounding.specs.Bits.{of_fields, of_bits, to_bits}
use Rattle.dispatch.specs.Meaning.{unary_meaning, binary_meaning}
use Rattle.low.specs.Bytes.{lows, whole, part, eights, numbers}
use Rattle.slot.specs.Slot.{bytes_of, said_by, slot, each, component_formed, components_formed, value_formed, blank, formed, well_formed}
use Rattle.booth.specs.Operand.{into_slot, direct_answer, direct_bytes}
use Rattle.cases.specs.Record.{components_in, instance_in, second_place, answer_in, outcome_in, asked_by}
use Rattle.cases.specs.Scalars.{unary_by, binary_by, scalar_read}
use Rattle.cases.specs.Judged.{answered_so, slot_right, conversion_of, rounding_right, same, shape_right, result_said, scalar_right, operator_right}

-- number and detail are both asked: ShlOverflow by 32 is not one by 0, nor ShrOverflow by 32
pub answers_answers : map (answered_so 38654705696) ((9 ∷ 32 ∷ []) ∷ (9 ∷ []) ∷ (10 ∷ 32 ∷ []) ∷ []) ≡ true ∷ false ∷ false ∷ []
unfolding whole part
answers_answers = refl

-- a slot that is not well formed is not right because it is refused: the record has to say so
pub slots_answers : map (λ (said : ℕ). slot_right (replicate 136 0 ++ said ∷ [])) (0 ∷ 1 ∷ []) ≡ true ∷ false ∷ []
unfolding whole part numbers said_by slot each component_formed components_formed value_formed blank formed well_formed slot_right
slots_answers = refl

-- eight bytes of which the four low ones are these
abbrev low : ℕ → ℕ → ℕ → ℕ → List ℕ
low a b c d = a ∷ b ∷ c ∷ d ∷ replicate 4 0

-- a NaN of F32 is kept as 7FC00000, not as it was; and nothing is asked by the codes 0 and 13
pub roundings_answers : map rounding_right (
    (8 ∷ replicate 7 0 ++ low 1 0 128 127 ++ low 0 0 192 127)
    ∷ (8 ∷ replicate 7 0 ++ low 1 0 128 127 ++ low 1 0 128 127)
    ∷ replicate 24 0
    ∷ (13 ∷ replicate 23 0)
    ∷ [])
    ≡ true ∷ false ∷ false ∷ false ∷ []
unfolding whole part of_fields of_bits to_bits conversion_of rounding_right
roundings_answers = refl

-- records of an operator that is not known: its refusal is 25, and stands after one operand or after two
abbrev unknown : ℕ → List (List ℕ)
unknown status = (1 ∷ 4 ∷ 0 ∷ replicate 4 0 ++ status ∷ []) ∷ (2 ∷ 19 ∷ 0 ∷ replicate 8 0 ++ status ∷ []) ∷ (2 ∷ 19 ∷ 0 ∷ replicate 4 0 ++ status ∷ []) ∷ []

-- the refusal is not looked for at one place for both, nor is any other taken for it
pub shapes_answers : map shape_right (unknown 25 ++ unknown 26) ≡ true ∷ true ∷ false ∷ false ∷ false ∷ false ∷ []
unfolding lows whole part eights numbers bytes_of unary_meaning binary_meaning components_in instance_in second_place answer_in outcome_in asked_by same shape_right
shapes_answers = refl

pub operators_answers : map operator_right (unknown 25 ++ unknown 26) ≡ true ∷ true ∷ false ∷ false ∷ false ∷ false ∷ []
unfolding whole part numbers unary_meaning binary_meaning into_slot direct_answer direct_bytes components_in instance_in second_place answer_in outcome_in asked_by same operator_right
operators_answers = refl

-- `!` of a Bool, and what is said of it: status, type and pattern
abbrev negated : ℕ → ℕ → ℕ → List ℕ
negated status ty bits = 1 ∷ 1 ∷ 0 ∷ (0 ∷ 1 ∷ 1 ∷ 1 ∷ low 1 0 0 0) ++ status ∷ replicate 4 0 ++ (ty ∷ 1 ∷ 1 ∷ 1 ∷ low bits 0 0 0)

-- U32 1 << 32, and the operand that is said to be carried: its type and pattern
abbrev refused_shift : ℕ → ℕ → List ℕ
refused_shift ty bits =
    2 ∷ 17 ∷ 0 ∷ (4 ∷ 1 ∷ 1 ∷ 1 ∷ low 1 0 0 0) ++ (4 ∷ 1 ∷ 1 ∷ 1 ∷ low 32 0 0 0) ++ 9 ∷ 32 ∷ replicate 3 0 ++ (ty ∷ 1 ∷ 1 ∷ 1 ∷ low bits 0 0 0)

-- neither the count nor zeros nor another type is taken for it
pub carried_answers : map scalar_right (refused_shift 4 1 ∷ refused_shift 4 32 ∷ refused_shift 0 0 ∷ refused_shift 3 1 ∷ []) ≡ true ∷ false ∷ false ∷ false ∷ []
unfolding whole part binary_by scalar_read result_said scalar_right
carried_answers = refl

-- neither a refusal nor another type nor another pattern is taken for the value
pub scalars_answers : map scalar_right (negated 0 0 0 ∷ negated 1 0 0 ∷ negated 0 3 0 ∷ negated 0 0 1 ∷ []) ≡ true ∷ false ∷ false ∷ false ∷ []
unfolding whole part unary_by scalar_read result_said scalar_right
scalars_answers = refl
