-- Wrong programs that the contracts exclude: at these operands each definition has another answer than they. Assumes nothing.
use mathlib.Core.Path.{◌≡◌, refl}
use mathlib.Core.List.{List, [], ◌∷◌}
use mathlib.Core.Bool.{true, false}
use lib.IntN.{pos, negsuc}
use Rattle.integer.specs.Wrap.{wrap_u, wrap_s}
use Rattle.value.specs.declared.Scalar.TheVariants.{Bool as bool, AbstractInt, I32, U32}
use Rattle.value.specs.declared.ShaderStage.TheVariants.{Const, Override, Exec}
use Rattle.std.proofs.Common.{Some, None}
use Rattle.value.specs.declared.Pair.TheVariants as P
use Rattle.value.specs.Answer.{Result, value, unary, binary}
use Rattle.bitwise.specs.Bits.{bit_or_of, bit_and_of, bit_xor_of, bit_not_of}
use Rattle.bitwise.specs.Shift.{shl_overflow, shr_overflow, shl_of, shr_of}

pub bitwise_witnesses : List Result
bitwise_witnesses =
    -- `|`, `&` and `^` worked as one another; `^` of Bools
    bit_or_of (Some (P.U32 5 3)) ∷ bit_and_of (Some (P.U32 5 3)) ∷ bit_xor_of (Some (P.U32 5 3)) ∷ bit_xor_of (Some (P.Bool true false))
    -- `|` of a negative number by its size; `~` that changes the sign; `~` of a Bool
    ∷ bit_or_of (Some (P.I32 (negsuc 0) (pos 2))) ∷ bit_not_of (I32 (pos 5)) ∷ bit_not_of (bool true)
    -- `<<` that tests r top bits and not r + 1; that takes a count of 32 modulo 32 in Override; that refuses it in Exec; by nothing
    ∷ shl_of Const (I32 (pos 1)) (Some (U32 31)) ∷ shl_of Override (U32 0) (Some (U32 32)) ∷ shl_of Exec (U32 3) (Some (U32 33)) ∷ shl_of Exec (U32 3) None
    -- `<<` of an AbstractInt that takes its count modulo 64, or refuses 0 shifted far
    ∷ shl_of Exec (AbstractInt (pos 3)) (Some (U32 64)) ∷ shl_of Const (AbstractInt (pos 0)) (Some (U32 100))
    -- `>>` that truncates; that takes a count of 32 modulo 32 in Const; that carries the count, or the operand's size; that refuses it in Exec
    ∷ shr_of Const (I32 (negsuc 4)) (Some (U32 1)) ∷ shr_of Const (U32 8) (Some (U32 32)) ∷ shr_of Override (I32 (negsuc 6)) (Some (U32 40)) ∷ shr_of Exec (U32 8) (Some (U32 33)) ∷ []

pub bitwise_answers : bitwise_witnesses ≡ (
    value (U32 7) ∷ value (U32 1) ∷ value (U32 6) ∷ binary
    ∷ value (I32 (negsuc 0)) ∷ value (I32 (negsuc 5)) ∷ unary
    ∷ shl_overflow 31 (I32 (pos 1)) ∷ shl_overflow 32 (U32 0) ∷ value (U32 6) ∷ binary
    ∷ value (AbstractInt (pos 0)) ∷ value (AbstractInt (pos 0))
    ∷ value (I32 (negsuc 2)) ∷ shr_overflow 32 (U32 8) ∷ shr_overflow 40 (I32 (negsuc 6)) ∷ value (U32 4) ∷ [])
unfolding bitwise_witnesses wrap_u wrap_s
bitwise_answers = refl
