-- 01, Operators: `+ - * / %` on two operands of one type. Assumes nothing.
use Rattle.std.specs.Prelude.{ℕ, ◌/◌, ◌%◌, eqb, ℤ, pos, neg_ℤ, ◌+ℤ◌, ◌-ℤ◌, ◌*ℤ◌, Float, Option, Some, None, option_map}
use Rattle.std.specs.Int.Signed.{quot_z, rem_z}
use Rattle.std.specs.Float.Ieee.{neg}
use Rattle.std.specs.Int.{w32, w64}
use Rattle.integer.specs.Range.{pick, whole_of}
use Rattle.integer.specs.Wrap.{wrap_u, wrap_s}
use Rattle.quotient.specs.Quotient.{no_quotient}
use Rattle.rounding.specs.Kind.{Kind, half, single, double, convert}
use Rattle.rounding.specs.Arithmetic.{add, sub, mul, div, rem}
use Rattle.rounding.specs.Bits.{to_bits, of_bits}
use Rattle.value.specs.declared.Scalar.{Scalar}
use Rattle.value.specs.declared.Scalar.TheVariants.{Bool as bool, AbstractInt, AbstractFloat, I32, U32, F32, F16}
use Rattle.value.specs.declared.ShaderStage.{ShaderStage}
use Rattle.value.specs.declared.OperatorError.TheVariants.{AddOverflow, SubOverflow, MulOverflow, DivByZero, RemZeroDiv}
use Rattle.value.specs.declared.Pair.{Pair}
use Rattle.value.specs.declared.Pair.TheVariants as P
use Rattle.value.specs.Answer.{Result, value, refused_by, unary, binary, strict}
use Rattle.value.specs.Scalar.{finite_of, kept_scalar}

-- in Const and Override a refusal, in Exec the scalar
abbrev pub in_exec : ShaderStage → Result → Scalar → Result
in_exec stage why s = pick (strict stage) why (value s)

-- a finite result, or else
abbrev pub finite_or : Scalar → Result → Result
finite_or s other = pick (finite_of s) (value s) other

-- "A float result that is not finite refuses .. for F32 and F16 in Const and Override"
abbrev pub settled : ShaderStage → Result → Scalar → Result
settled stage why s = finite_or s (in_exec stage why s)

-- what was found, or else
abbrev pub value_or : Option Scalar → Result → Result
value_or (Some s) other = value s
value_or None other = other

-- "AbstractInt outside its range refuses in every stage"
abbrev pub whole_or : Option ℤ → Result → Result
whole_or o why = value_or (option_map AbstractInt o) why

-- "F16 arithmetic widens exactly, does one F32 operation and rounds once to F16"
abbrev pub half_bits : (Kind → Float → Float → Float) → ℕ → ℕ → ℕ
half_bits f x y = to_bits half (convert half (f single (of_bits half x) (of_bits half y)))

abbrev pub half_of : (Kind → Float → Float → Float) → ℕ → ℕ → Scalar
half_of f x y = F16 (half_bits f x y)

-- `+ - *`, being z on whole numbers and f on floats: "I32 and U32 wrap around at 32 bits in every stage"
abbrev pub arithmetic : (ℤ → ℤ → ℤ) → (Kind → Float → Float → Float) → Result → ShaderStage → Option Pair → Result
arithmetic z f why stage (Some (P.Bool x y)) = binary
arithmetic z f why stage (Some (P.AbstractInt x y)) = whole_or (whole_of (z x y)) why
arithmetic z f why stage (Some (P.AbstractFloat x y)) = finite_or (AbstractFloat (f double x y)) why
arithmetic z f why stage (Some (P.I32 x y)) = value (I32 (wrap_s w32 (z x y)))
arithmetic z f why stage (Some (P.U32 x y)) = value (U32 (wrap_u w32 (z (pos x) (pos y))))
arithmetic z f why stage (Some (P.F32 x y)) = settled stage why (F32 (f single x y))
arithmetic z f why stage (Some (P.F16 x y)) = settled stage why (half_of f x y)
arithmetic z f why stage None = binary

abbrev pub add_of : ShaderStage → Option Pair → Result
add_of stage p = arithmetic ◌+ℤ◌ add (refused_by AddOverflow) stage p

abbrev pub sub_of : ShaderStage → Option Pair → Result
sub_of stage p = arithmetic ◌-ℤ◌ sub (refused_by SubOverflow) stage p

abbrev pub mul_of : ShaderStage → Option Pair → Result
mul_of stage p = arithmetic ◌*ℤ◌ mul (refused_by MulOverflow) stage p

-- "DivByZero in Const and Override, the converted left operand in Exec"
abbrev pub no_div : ShaderStage → Scalar → Result
no_div stage left = in_exec stage (refused_by DivByZero) left

-- "`/` truncates. Zero divisor, minimum by -1, or a float result that is not finite"; an F16 that is handed back has its NaN as it is kept
abbrev pub div_of : ShaderStage → Option Pair → Result
div_of stage (Some (P.Bool x y)) = binary
div_of stage (Some (P.AbstractInt x y)) = pick (no_quotient w64 x y) (no_div stage (AbstractInt x)) (value (AbstractInt (quot_z x y)))
div_of stage (Some (P.AbstractFloat x y)) = finite_or (AbstractFloat (div double x y)) (no_div stage (AbstractFloat x))
div_of stage (Some (P.I32 x y)) = pick (no_quotient w32 x y) (no_div stage (I32 x)) (value (I32 (quot_z x y)))
div_of stage (Some (P.U32 x y)) = pick (eqb y 0) (no_div stage (U32 x)) (value (U32 (x / y)))
div_of stage (Some (P.F32 x y)) = finite_or (F32 (div single x y)) (no_div stage (F32 x))
div_of stage (Some (P.F16 x y)) = finite_or (half_of div x y) (no_div stage (kept_scalar (F16 x)))
div_of stage None = binary

-- "RemZeroDiv in Const and Override, 0 in Exec"
abbrev pub no_rem : ShaderStage → Scalar → Result
no_rem stage zero = in_exec stage (refused_by RemZeroDiv) zero

-- "`%` takes the left sign. .. Floats: .. one not finite gives RemZeroDiv where `+` would refuse, and else stands"
abbrev pub rem_of : ShaderStage → Option Pair → Result
rem_of stage (Some (P.Bool x y)) = binary
rem_of stage (Some (P.AbstractInt x y)) = pick (no_quotient w64 x y) (no_rem stage (AbstractInt (pos 0))) (value (AbstractInt (rem_z x y)))
rem_of stage (Some (P.AbstractFloat x y)) = finite_or (AbstractFloat (rem double x y)) (refused_by RemZeroDiv)
rem_of stage (Some (P.I32 x y)) = pick (no_quotient w32 x y) (no_rem stage (I32 (pos 0))) (value (I32 (rem_z x y)))
rem_of stage (Some (P.U32 x y)) = pick (eqb y 0) (no_rem stage (U32 0)) (value (U32 (x % y)))
rem_of stage (Some (P.F32 x y)) = settled stage (refused_by RemZeroDiv) (F32 (rem single x y))
rem_of stage (Some (P.F16 x y)) = settled stage (refused_by RemZeroDiv) (half_of rem x y)
rem_of stage None = binary

-- "3 to 7 `+ - * / %`": one of five by the code
abbrev pub of_five : {A : Type 0} → ℕ → A → A → A → A → A → A
of_five op a b c d e = pick (eqb op 3) a (pick (eqb op 4) b (pick (eqb op 5) c (pick (eqb op 6) d e)))

abbrev pub arithmetic_by : ℕ → ShaderStage → Option Pair → Result
arithmetic_by op stage p = of_five op (add_of stage p) (sub_of stage p) (mul_of stage p) (div_of stage p) (rem_of stage p)

-- the exact result of a code, rounded once
abbrev pub float_by : ℕ → Kind → Float → Float → Float
float_by op k x y = of_five op (add k x y) (sub k x y) (mul k x y) (div k x y) (rem k x y)

-- what a float s that is not finite answers: `/` by the stage, the others by a stage of their own, which is Const for AbstractFloat
abbrev pub not_finite : ℕ → ShaderStage → ShaderStage → Scalar → Scalar → Result
not_finite op own stage left s =
    of_five op
    (in_exec own (refused_by AddOverflow) s)
    (in_exec own (refused_by SubOverflow) s)
    (in_exec own (refused_by MulOverflow) s)
    (no_div stage left)
    (in_exec own (refused_by RemZeroDiv) s)

-- "Negation: integers wrap at the minimum; U32, Bool refused"; a float changes its sign, a NaN stays as it is kept
abbrev pub neg_of : Scalar → Result
neg_of (bool x) = unary
neg_of (AbstractInt x) = value (AbstractInt (wrap_s w64 (neg_ℤ x)))
neg_of (AbstractFloat x) = value (AbstractFloat (neg x))
neg_of (I32 x) = value (I32 (wrap_s w32 (neg_ℤ x)))
neg_of (U32 x) = unary
neg_of (F32 x) = value (F32 (neg x))
neg_of (F16 x) = value (F16 (to_bits half (neg (of_bits half x))))
