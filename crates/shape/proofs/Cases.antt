-- The table cases, proved together: one statement over one list about the definitions. Assumes nothing.
use mathlib.Core.Path.{◌≡◌, refl}
use mathlib.Core.List.{List, [], ◌∷◌, ◌++◌, map}
use Prim.Native.Nat.{ℕ, ◌-◌}
use lib.ListN.{length, replicate}
use Rattle.value.specs.Pattern.{kept_of}
use Rattle.scalar.specs.Step.{step_of, conv_of}
use Rattle.operand.specs.Operand.{every, operand_formed}
use Rattle.low.specs.Bytes.{up_to}
use Rattle.components.specs.Components.{all_or_refusal}
use Rattle.products.specs.Products.{sum_to}
use Rattle.pairing.specs.Pairing.{targets_of}
use Rattle.types.specs.Types.{common_type}
use Rattle.operand.specs.Outcome.{refused_with, refused_on, value_of}
use Rattle.dispatch.specs.Meaning.{by_component, matrix_product, on_converted, converted_to, judged, binary_meaning}
use Rattle.operand.specs.declared.Instance.{Instance}
use Rattle.operand.specs.declared.Outcome.{Outcome}
use Rattle.integer.specs.Wrap.{wrap_u, wrap_s}
use Rattle.rounding.specs.Arithmetic.{sum, add, mul}
use Rattle.rounding.specs.Bits.{of_fields, of_bits, to_bits}
use Rattle.rounding.specs.Kind.{units_in, round_to, convert}

-- an operand of a type and shape
abbrev pub value : ℕ → ℕ → ℕ → List ℕ → Instance
value ty c r cs = record { ty = ty; cols = c; rows = r; comps = cs ++ replicate (16 - length cs) 0 }

-- a scalar of a type
abbrev pub one : ℕ → ℕ → Instance
one ty b = value ty 1 1 (b ∷ [])

-- an operator, a stage, two operands, and what they give
pub record Case : Type 0 where
  pub op : ℕ
  pub stage : ℕ
  pub left : Instance
  pub right : Instance
  pub gives : Outcome

abbrev pub case : ℕ → ℕ → Instance → Instance → Outcome → Case
case op stage l r o = record { op = op; stage = stage; left = l; right = r; gives = o }

-- where a case leaves stage, count or type open: Const, a U32 count, F32
pub cases : List Case
cases =
    -- AbstractInt 9223372036854775807 + 1: AddOverflow
    case 3 0 (one 1 9223372036854775807) (one 1 1) (refused_with 4 0)
    -- I32 minimum / -1: Const 7, Exec minimum
    ∷ case 6 0 (one 3 0x80000000) (one 3 0xFFFFFFFF) (refused_with 7 0)
    ∷ case 6 2 (one 3 0x80000000) (one 3 0xFFFFFFFF) (value_of (one 3 0x80000000))
    -- I32 7 % 0: Override 8, Exec 0
    ∷ case 7 1 (one 3 7) (one 3 0) (refused_with 8 0)
    ∷ case 7 2 (one 3 7) (one 3 0) (value_of (one 3 0))
    -- U32 1 << 32: Const 9, Exec 1
    ∷ case 17 0 (one 4 1) (one 4 32) (refused_on 9 32 (one 4 1))
    ∷ case 17 2 (one 4 1) (one 4 32) (value_of (one 4 1))
    -- I32 -1 << 31: Const minimum; 1 << 31: Const 9
    ∷ case 17 0 (one 3 0xFFFFFFFF) (one 4 31) (value_of (one 3 0x80000000))
    ∷ case 17 0 (one 3 1) (one 4 31) (refused_on 9 31 (one 3 1))
    -- AbstractInt -5 >> 65 = -1
    ∷ case 18 0 (one 1 0xFFFFFFFFFFFFFFFB) (one 4 65) (value_of (one 1 0xFFFFFFFFFFFFFFFF))
    -- Bool true >> 0: Binary
    ∷ case 18 0 (one 0 1) (one 4 0) (refused_with 2 0)
    -- AbstractInt 5 / I32 0: Exec I32 5
    ∷ case 6 2 (one 1 5) (one 3 0) (value_of (one 3 5))
    -- F16 65504 + 15 = 65504; 65504 + 16: Const 4
    ∷ case 3 0 (one 6 0x7BFF) (one 6 0x4B80) (value_of (one 6 0x7BFF))
    ∷ case 3 0 (one 6 0x7BFF) (one 6 0x4C00) (refused_with 4 0)
    -- (1,2) times columns (3,4),(5,6) = (11,17)
    ∷ case 5 0 (value 5 1 2 (0x3F800000 ∷ 0x40000000 ∷ [])) (value 5 2 2 (0x40400000 ∷ 0x40800000 ∷ 0x40A00000 ∷ 0x40C00000 ∷ []))
    (value_of (value 5 1 2 (0x41300000 ∷ 0x41880000 ∷ [])))
    -- true && false = false
    ∷ case 2 0 (one 0 1) (one 0 0) (value_of (one 0 0))
    ∷ []

pub table : map (λ (c : Case). binary_meaning c.op c.stage c.left c.right) cases ≡ map (λ (c : Case). c.gives) cases
unfolding cases wrap_u wrap_s sum add mul of_fields of_bits to_bits units_in round_to convert kept_of step_of conv_of
    up_to every operand_formed all_or_refusal sum_to targets_of common_type by_component matrix_product on_converted converted_to judged binary_meaning
table = refl
