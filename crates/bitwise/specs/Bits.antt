-- 01, Operators: "`| &` on Bool and integers, `^` on integers". Assumes nothing.
use Rattle.std.specs.Prelude.{ℕ, Bool, ◌&&◌, ◌||◌, eqb, ℤ, Option, Some, None}
use Rattle.std.specs.Int.Bits.{bit_and, bit_or, bit_xor}
use Rattle.std.specs.Int.{Width, w32, w64}
use Rattle.std.proofs.Common.{to_z, of_z}
use Rattle.integer.specs.Range.{pick}
use Rattle.integer.specs.Wrap.{not_z, not_u}
use Rattle.value.specs.declared.Scalar.{Scalar}
use Rattle.value.specs.declared.Scalar.TheVariants.{Bool as bool, AbstractInt, AbstractFloat, I32, U32, F32, F16}
use Rattle.value.specs.declared.Pair.{Pair}
use Rattle.value.specs.declared.Pair.TheVariants as P
use Rattle.value.specs.Answer.{Result, value, unary, binary}

-- an operation on the bits of two signed numbers
abbrev pub signed_bits : Width → (ℕ → ℕ → ℕ) → ℤ → ℤ → ℤ
signed_bits w op x y = to_z w (op (of_z w x) (of_z w y))

-- an operator by what it does to Bools and to bits
abbrev pub bitwise : (Bool → Bool → Result) → (ℕ → ℕ → ℕ) → Option Pair → Result
bitwise bools op (Some (P.Bool x y)) = bools x y
bitwise bools op (Some (P.AbstractInt x y)) = value (AbstractInt (signed_bits w64 op x y))
bitwise bools op (Some (P.AbstractFloat x y)) = binary
bitwise bools op (Some (P.I32 x y)) = value (I32 (signed_bits w32 op x y))
bitwise bools op (Some (P.U32 x y)) = value (U32 (op x y))
bitwise bools op (Some (P.F32 x y)) = binary
bitwise bools op (Some (P.F16 x y)) = binary
bitwise bools op None = binary

abbrev pub either : Bool → Bool → Result
either x y = value (bool (x || y))

abbrev pub both : Bool → Bool → Result
both x y = value (bool (x && y))

abbrev pub neither : Bool → Bool → Result
neither x y = binary

-- "14 to 16 `| & ^`": one of three by the code
abbrev pub of_three : {A : Type 0} → ℕ → A → A → A → A
of_three op or and xor = pick (eqb op 14) or (pick (eqb op 15) and xor)

-- what the operator of a code does to truths and to bits
abbrev pub truths_by : ℕ → Bool → Bool → Result
truths_by op = of_three op either both neither

abbrev pub bits_by : ℕ → ℕ → ℕ → ℕ
bits_by op = of_three op bit_or bit_and bit_xor

-- "`| &` on Bool and integers"
abbrev pub bit_or_of : Option Pair → Result
bit_or_of = bitwise either bit_or

abbrev pub bit_and_of : Option Pair → Result
bit_and_of = bitwise both bit_and

-- "`^` on integers"
abbrev pub bit_xor_of : Option Pair → Result
bit_xor_of = bitwise neither bit_xor

-- an operator that integers have, by what it does to each of them; the others get the refusal
abbrev pub on_integer : Result → (ℤ → Result) → (ℤ → Result) → (ℕ → Result) → Scalar → Result
on_integer refusal whole signed unsigned (bool x) = refusal
on_integer refusal whole signed unsigned (AbstractInt x) = whole x
on_integer refusal whole signed unsigned (AbstractFloat x) = refusal
on_integer refusal whole signed unsigned (I32 x) = signed x
on_integer refusal whole signed unsigned (U32 x) = unsigned x
on_integer refusal whole signed unsigned (F32 x) = refusal
on_integer refusal whole signed unsigned (F16 x) = refusal

-- "`~` on integers"
abbrev pub bit_not_of : Scalar → Result
bit_not_of s = on_integer unary (λ x. value (AbstractInt (not_z x))) (λ x. value (I32 (not_z x))) (λ x. value (U32 (not_u w32 x))) s
