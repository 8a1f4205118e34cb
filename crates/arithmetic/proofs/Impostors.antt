-- Wrong programs that the contracts exclude: at these operands each definition has another answer than they. Assumes nothing.
use mathlib.Core.Path.{◌≡◌, refl}
use mathlib.Core.List.{List, [], ◌∷◌}
use Rattle.std.proofs.Common.{Some, None}
use lib.IntN.{pos, negsuc}
use Rattle.integer.specs.Wrap.{wrap_u, wrap_s}
use Rattle.rounding.specs.Kind.{convert}
use Rattle.rounding.specs.Bits.{to_bits, of_bits}
use Rattle.rounding.specs.Arithmetic.{div}
use Rattle.value.specs.declared.Scalar.TheVariants.{I32, U32, F16}
use Rattle.value.specs.declared.ShaderStage.TheVariants.{Const, Override, Exec}
use Rattle.value.specs.declared.Pair.TheVariants as P
use Rattle.value.specs.Answer.{Result, value, refused, refusal, unary, binary}
use Rattle.value.specs.Pattern.{kept_of}
use Rattle.arithmetic.specs.Arithmetic.{add_of, sub_of, mul_of, div_of, rem_of, neg_of}

pub arithmetic_witnesses : List Result
arithmetic_witnesses =
    -- `+` that refuses where an I32 wraps; that wraps where an AbstractInt refuses, in Exec too
    add_of Const (Some (P.I32 (pos 0x7FFFFFFF) (pos 1))) ∷ add_of Exec (Some (P.AbstractInt (pos 0x7FFFFFFFFFFFFFFF) (pos 1)))
    -- `-` that stops at 0; that has the operands swapped
    ∷ sub_of Const (Some (P.U32 0 1)) ∷ sub_of Const (Some (P.I32 (pos 5) (pos 3)))
    -- `*` that gives the product's high half; that multiplies Bools
    ∷ mul_of Const (Some (P.U32 0x10000 0x10001)) ∷ mul_of Const None
    -- `/` that wraps the minimum by -1; that gives 0 in Exec, as `%` does; that lets Override pass
    ∷ div_of Const (Some (P.I32 (negsuc 0x7FFFFFFF) (negsuc 0))) ∷ div_of Exec (Some (P.U32 7 0)) ∷ div_of Override (Some (P.U32 7 0))
    -- that hands an F16's NaN back as it came
    ∷ div_of Exec (Some (P.F16 0x7C01 0x3C00))
    -- `%` that takes the right sign; that gives the left operand in Exec, as `/` does
    ∷ rem_of Const (Some (P.I32 (negsuc 4) (pos 3))) ∷ rem_of Exec (Some (P.U32 7 0))
    -- negation that refuses the minimum; that takes a U32
    ∷ neg_of (I32 (negsuc 0x7FFFFFFF)) ∷ neg_of (U32 5) ∷ []

pub arithmetic_answers : arithmetic_witnesses ≡ (
    value (I32 (negsuc 0x7FFFFFFF)) ∷ refused (refusal 4 0)
    ∷ value (U32 0xFFFFFFFF) ∷ value (I32 (pos 2))
    ∷ value (U32 0x10000) ∷ binary
    ∷ refused (refusal 7 0) ∷ value (U32 7) ∷ refused (refusal 7 0)
    ∷ value (F16 0x7E00)
    ∷ value (I32 (negsuc 1)) ∷ value (U32 0)
    ∷ value (I32 (negsuc 0x7FFFFFFF)) ∷ unary ∷ [])
unfolding arithmetic_witnesses wrap_u wrap_s of_bits to_bits convert div kept_of
arithmetic_answers = refl
