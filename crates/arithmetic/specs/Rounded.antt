-- 01, Operators: "A float `+ - * /` in F32 or AbstractFloat is the exact result rounded once", and "F16 arithmetic widens exactly, does one F32 operation and
-- rounds once to F16", said of what each operator answers on two finite floats of one type. `proofs/Rounded.antt` shows each claim of each type, and of F16 also
-- that its two roundings are one: no F16 is nearer to the exact result. Assumes nothing.
use Rattle.std.specs.Prelude.{ℕ, ◌≡◌, Bool, true, pos, Float, Some}
use Rattle.std.specs.Float.{inf}
use Rattle.rounding.specs.Kind.{Kind, half, single, double}
use Rattle.rounding.specs.Bits.{to_bits, of_bits, finite}
use Rattle.rounding.specs.Rounded.{Exact, exact_of, plus, minus, times, over, RoundedOr, RoundedTwice, sum_sign, difference_sign, product_sign}
use Rattle.value.specs.declared.Scalar.{Scalar}
use Rattle.value.specs.declared.Scalar.TheVariants.{AbstractFloat, F32, F16}
use Rattle.value.specs.declared.ShaderStage.{ShaderStage}
use Rattle.value.specs.declared.ShaderStage.TheVariants.{Const}
use Rattle.value.specs.declared.OperatorError.TheVariants.{AddOverflow, SubOverflow, MulOverflow}
use Rattle.value.specs.declared.Pair.{Pair}
use Rattle.value.specs.declared.Pair.TheVariants as P
use Rattle.value.specs.Answer.{Result, value, refused_by}
use Rattle.arithmetic.specs.Arithmetic.{add_of, sub_of, mul_of, div_of, half_bits, in_exec, no_div}

-- ---- the three float types

-- an operand, the float it stands for, and the operand that stands for a float; what the type's scalars and pairs are; whether a result not finite refuses
-- by the stage or, as in Const, always; and how an exact result is rounded
pub record FloatType : Type 1 where
  pub Operand : Type 0
  pub float : Operand → Float
  pub operand : Float → Operand
  pub scalar : Operand → Scalar
  pub pair : Operand → Operand → Pair
  pub own : ShaderStage → ShaderStage
  pub Rounds : Bool → Exact → (Float → Result) → Result → Result → Type 0

abbrev pub abstract_float : FloatType
abstract_float =
    record {
      Operand = Float;
      float = λ x. x;
      operand = λ x. x;
      scalar = AbstractFloat;
      pair = P.AbstractFloat;
      own = λ stage. Const;
      Rounds = RoundedOr double;
    }

abbrev pub f32 : FloatType
f32 = record { Operand = Float; float = λ x. x; operand = λ x. x; scalar = F32; pair = P.F32; own = λ stage. stage; Rounds = RoundedOr single }

-- F16 by F32, as 01 has it; and rounded once, which comes to the same
abbrev pub f16_by : (Bool → Exact → (Float → Result) → Result → Result → Type 0) → FloatType
f16_by rounds = record { Operand = ℕ; float = of_bits half; operand = to_bits half; scalar = F16; pair = P.F16; own = λ stage. stage; Rounds = rounds }

abbrev pub f16 : FloatType
f16 = f16_by RoundedTwice

abbrev pub f16_once : FloatType
f16_once = f16_by (RoundedOr half)

-- ---- what an operator answers

-- x is the exact result, with the sign s: its rounded value answers, and where x is too large what 01 says of a result not finite
abbrev pub Answers : (t : FloatType) → Bool → Exact → Result → Result → Type 0
Answers t s x none answer = t.Rounds s x (λ r. value (t.scalar (t.operand r))) none answer

-- "A float result that is not finite refuses for AbstractFloat always, for F32 and F16 in Const and Override"; in Exec it is the infinity
abbrev pub overflows : (t : FloatType) → ShaderStage → Result → Bool → Result
overflows t stage why s = in_exec (t.own stage) why (t.scalar (t.operand (inf s)))

-- `+`
abbrev pub AddRounded : FloatType → Type 0
AddRounded t =
    (stage : ShaderStage) (l r : t.Operand) → finite (t.float l) ≡ true → finite (t.float r) ≡ true
    → let x = t.float l in
    let y = t.float r in
    Answers t (sum_sign x y) (plus (exact_of x) (exact_of y)) (overflows t stage (refused_by AddOverflow) (sum_sign x y)) (add_of stage (Some (t.pair l r)))

-- `-`
abbrev pub SubRounded : FloatType → Type 0
SubRounded t =
    (stage : ShaderStage) (l r : t.Operand) → finite (t.float l) ≡ true → finite (t.float r) ≡ true
    → let x = t.float l in
    let y = t.float r in
    Answers t (difference_sign x y) (minus (exact_of x) (exact_of y)) (overflows t stage (refused_by SubOverflow) (difference_sign x y)) (sub_of stage (Some (t.pair l r)))

-- `*`
abbrev pub MulRounded : FloatType → Type 0
MulRounded t =
    (stage : ShaderStage) (l r : t.Operand) → finite (t.float l) ≡ true → finite (t.float r) ≡ true
    → let x = t.float l in
    let y = t.float r in
    Answers t (product_sign x y) (times (exact_of x) (exact_of y)) (overflows t stage (refused_by MulOverflow) (product_sign x y)) (mul_of stage (Some (t.pair l r)))

-- `/` by a divisor that is not 0; "a float result that is not finite: DivByZero in Const and Override, the converted left operand in Exec"
abbrev pub DivRounded : FloatType → Type 0
DivRounded t =
    (stage : ShaderStage) (l r : t.Operand) → finite (t.float l) ≡ true → finite (t.float r) ≡ true → ((exact_of (t.float r)).top ≡ pos 0 → ⊥)
    → let x = t.float l in
    let y = t.float r in
    Answers t (product_sign x y) (over (exact_of x) (exact_of y)) (no_div stage (t.scalar l)) (div_of stage (Some (t.pair l r)))

-- `/` by a zero of either sign
abbrev pub DivByZeroRefused : FloatType → Type 0
DivByZeroRefused t =
    (stage : ShaderStage) (l r : t.Operand) → finite (t.float l) ≡ true → finite (t.float r) ≡ true → (exact_of (t.float r)).top ≡ pos 0
    → div_of stage (Some (t.pair l r)) ≡ no_div stage (t.scalar l)

-- ---- F16 by F32 is F16's own operator: the exact result rounded once to F16
abbrev pub HalfIs : (Kind → Float → Float → Float) → ℕ → ℕ → Type 0
HalfIs f l r = half_bits f l r ≡ to_bits half (f half (of_bits half l) (of_bits half r))
