-- Operators by 01's codes on patterns, as the layer above calls them. Assumes nothing.
use Rattle.std.specs.Prelude.{ℕ, List, [], ◌∷◌, Bool, not, ◌&&◌, eqb, leb, get_or, Option, Some, None, Ok, Err, option_map, option_and_then}
use Rattle.std.specs.Prelude as std
use Rattle.value.specs.declared.Scalar.{Scalar}
use Rattle.value.specs.declared.ShaderStage.{ShaderStage}
use Rattle.value.specs.declared.Refusal.{Refusal}
use Rattle.value.specs.declared.Pair.{Pair}
pub use Rattle.value.specs.Answer.{refusal}
use Rattle.value.specs.Answer.{Result, value, refused, shift_refused, unary, binary, stage_of}
use Rattle.value.specs.Pattern.{pick}
use Rattle.value.specs.Refusals as No
use Rattle.rounding.specs.Kind.{Kind}
use Rattle.rounding.specs.Arithmetic.{add, mul}
use Rattle.rounding.specs.Bits.{to_bits, of_bits, finite}
use Rattle.value.specs.Scalar.{type_of, bits_of, scalar_of}
use Rattle.conversion.specs.Convert.{convert_to, common_of}
use Rattle.value.specs.Pair.{pair_of, both_of}
use Rattle.relation.specs.Logical.{not_of, or_of, and_of}
use Rattle.arithmetic.specs.Arithmetic.{neg_of, add_of, sub_of, mul_of, div_of, rem_of}
use Rattle.bitwise.specs.Bits.{bit_not_of, bit_or_of, bit_and_of, bit_xor_of}
use Rattle.relation.specs.Comparison.{eq_of, ne_of, lt_of, le_of, gt_of, ge_of}
use Rattle.bitwise.specs.Shift.{shl_of, shr_of}

-- a shift's refusal by codes: its number, the count, and the type and bits of the left operand
abbrev pub carrying : ℕ → ℕ → Scalar → Refusal
carrying n d l = record { number = n; detail = d; ty = type_of l; bits = bits_of l }

-- one operation: the result's type and bits, or a refusal
abbrev pub Step : Type 0
Step = std.Result (ℕ × ℕ) Refusal

-- a result as a type and bits, or a refusal
abbrev pub stepped : Result → Step
stepped (value s) = Ok (type_of s, bits_of s)
stepped (refused r) = Err r
stepped (shift_refused n d l) = Err (carrying n d l)

-- "1 `!`, 2 `-`, 3 `~`"
abbrev pub unaries : Scalar → List Result
unaries s = not_of s ∷ neg_of s ∷ bit_not_of s ∷ []

abbrev pub unary_of : ℕ → Scalar → Result
unary_of op s = get_or (unary ∷ unaries s) op unary

abbrev pub on_scalar : Option Scalar → (Scalar → Result) → Result → Result
on_scalar (Some s) f other = f s
on_scalar None f other = other

unfoldable pub unary_step_of : ℕ → ℕ → ℕ → Step
unary_step_of op ty v = stepped (on_scalar (scalar_of ty v) (unary_of op) unary)

-- "1 `||`, 2 `&&`, 3 to 7 `+ - * / %`, 8 to 13 `== != < <= > >=`, 14 to 16 `| & ^`"
abbrev pub binaries : ShaderStage → Option Pair → List Result
binaries stage p =
    or_of p ∷ and_of p ∷ add_of stage p ∷ sub_of stage p ∷ mul_of stage p ∷ div_of stage p ∷ rem_of stage p
    ∷ eq_of p ∷ ne_of p ∷ lt_of p ∷ le_of p ∷ gt_of p ∷ ge_of p ∷ bit_or_of p ∷ bit_and_of p ∷ bit_xor_of p ∷ []

abbrev pub binary_of : ℕ → ShaderStage → Option Pair → Result
binary_of op stage p = get_or (binary ∷ binaries stage p) op binary

-- "17 `<<`, 18 `>>`"
abbrev pub shift_of : ℕ → ShaderStage → Option Scalar → Option Scalar → Result
shift_of op stage l count = on_scalar l (λ s. pick (eqb op 17) (shl_of stage s count) (pick (eqb op 18) (shr_of stage s count) binary)) binary

-- what `op_or` to `op_shr` answer on two scalars, by their codes: "`||`, `&&`: .. No conversion"; "Shifts: the count converts to U32"; all others
-- take the common type
abbrev pub operator_of : ℕ → ShaderStage → Scalar → Scalar → Result
operator_of op stage l r =
    pick (leb 17 op) (shift_of op stage (Some l) (convert_to 4 r)) (binary_of op stage (pick (leb op 2) (pair_of l r) (common_of l r)))

-- an operator on two patterns of one type; a shift's right one is a U32's
unfoldable pub step_of : ℕ → ℕ → ℕ → ℕ → ℕ → Step
step_of op stage ty l r =
    pick (leb 17 op)
    (stepped (shift_of op (stage_of stage) (scalar_of ty l) (scalar_of 4 r)))
    (stepped (binary_of op (stage_of stage) (both_of (scalar_of ty l) (scalar_of ty r))))

-- a step's bits go on; its refusal stands
abbrev pub on_bits : Step → (ℕ → Step) → Step
on_bits (Ok (t, b)) k = k b
on_bits (Err r) k = Err r

-- the product of two patterns, and the sum with it; the product's refusal comes first
unfoldable pub product_added : ℕ → ℕ → ℕ → ℕ → ℕ → Step
product_added stage ty s l r = on_bits (step_of 5 stage ty l r) (step_of 3 stage ty s)

-- a pattern of one type as one of another, if it has one
abbrev pub converted : Option Scalar → Option ℕ
converted f = option_map bits_of f

unfoldable pub conv_of : ℕ → ℕ → ℕ → Option ℕ
conv_of from to b = option_and_then (λ s. converted (convert_to to s)) (scalar_of from b)

-- ---- cited by private contracts alone
-- a result's bits; or, where finite results are asked for (s), the refusal n of one that is not finite (f)
abbrev pub checked_of : Bool → Bool → ℕ → ℕ → ℕ → Step
checked_of s f n ty b = pick (s && not f) (Err (refusal n 0)) (Ok (ty, b))

-- the same of a sum, after the refusal of a product that is not finite (f)
abbrev pub outcome_of : Bool → Bool → Bool → ℕ → ℕ → Step
outcome_of s f g ty b = pick (s && not f) (Err (refusal No.MulOverflow 0)) (checked_of s g No.AddOverflow ty b)

-- the product of two patterns of a kind, and the sum with it
abbrev pub product_at : Kind → Bool → ℕ → ℕ → ℕ → Step
product_at k s ty l r = let p = mul k (of_bits k l) (of_bits k r) in checked_of s (finite p) No.MulOverflow ty (to_bits k p)

abbrev pub sum_at : Kind → Bool → ℕ → ℕ → ℕ → ℕ → Step
sum_at k s ty sum l r =
    let p = mul k (of_bits k l) (of_bits k r) in
    let t = add k (of_bits k sum) p in
    outcome_of s (finite p) (finite t) ty (to_bits k t)
