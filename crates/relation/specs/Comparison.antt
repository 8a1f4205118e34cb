-- 01, Operators: comparisons of two operands of one type. Those of floats, "as in IEEE 754", are the language's own (`lib.Ieee`): -0 equals +0, and a NaN is
-- neither equal to nor below anything. Assumes nothing.
use Rattle.std.specs.Prelude.{ℕ, Bool, Option, Some, None, option_map, not, ℤ, pos, ◌==◌, int_le, int_lt, nat_le, Float}
use Rattle.std.specs.Bool.{beq}
use Rattle.std.specs.Float.Ieee.{eq, ne, lt, le}
use Rattle.integer.specs.Range.{pick}
use Rattle.integer.specs.Equal.{eq_z}
use Rattle.rounding.specs.Kind.{half}
use Rattle.rounding.specs.Bits.{of_bits}
use Rattle.value.specs.declared.Scalar.TheVariants.{Bool as bool}
use Rattle.value.specs.declared.Pair.{Pair}
use Rattle.value.specs.declared.Pair.TheVariants as P
use Rattle.relation.specs.declared.Numbers.{Numbers}
use Rattle.relation.specs.declared.Numbers.TheVariants as N
use Rattle.value.specs.Answer.{Result, value, binary}

-- two operands of one type as the numbers that they are
abbrev pub as_numbers : Pair → Numbers
as_numbers (P.Bool x y) = N.Truths x y
as_numbers (P.AbstractInt x y) = N.Wholes x y
as_numbers (P.AbstractFloat x y) = N.Reals x y
as_numbers (P.I32 x y) = N.Wholes x y
as_numbers (P.U32 x y) = N.Wholes (pos x) (pos y)
as_numbers (P.F32 x y) = N.Reals x y
as_numbers (P.F16 x y) = N.Reals (of_bits half x) (of_bits half y)

abbrev pub numbers_of : Option Pair → Option Numbers
numbers_of p = option_map as_numbers p

abbrev pub truth : Bool → Result
truth b = value (bool b)

-- "`== !=` on all types": b on truths, z on whole numbers, f on floats
abbrev pub equality : (Bool → Bool → Bool) → (ℤ → ℤ → Bool) → (Float → Float → Bool) → Option Numbers → Result
equality b z f (Some (N.Truths x y)) = truth (b x y)
equality b z f (Some (N.Wholes x y)) = truth (z x y)
equality b z f (Some (N.Reals x y)) = truth (f x y)
equality b z f None = binary

-- "`< <= > >=` not on Bool"
abbrev pub order : (ℤ → ℤ → Bool) → (Float → Float → Bool) → Option Numbers → Result
order z f (Some (N.Truths x y)) = binary
order z f (Some (N.Wholes x y)) = truth (z x y)
order z f (Some (N.Reals x y)) = truth (f x y)
order z f None = binary

abbrev pub eq_of : Option Pair → Result
eq_of p = equality beq eq_z eq (numbers_of p)

abbrev pub ne_of : Option Pair → Result
ne_of p = equality (λ x y. not (beq x y)) (λ x y. not (eq_z x y)) ne (numbers_of p)

abbrev pub lt_of : Option Pair → Result
lt_of p = order int_lt lt (numbers_of p)

abbrev pub le_of : Option Pair → Result
le_of p = order int_le le (numbers_of p)

abbrev pub gt_of : Option Pair → Result
gt_of p = order (λ x y. int_lt y x) (λ x y. lt y x) (numbers_of p)

abbrev pub ge_of : Option Pair → Result
ge_of p = order (λ x y. int_le y x) (λ x y. le y x) (numbers_of p)

-- "8 to 13 `== != < <= > >=`": one of six by the code
abbrev pub of_six : {A : Type 0} → ℕ → A → A → A → A → A → A → A
of_six op a b c d e f = pick (op == 8) a (pick (op == 9) b (pick (op == 10) c (pick (op == 11) d (pick (op == 12) e f))))

-- the comparison of a code on truths, which have two of the six, on whole numbers and on floats
abbrev pub same_by : ℕ → Bool → Bool → Bool
same_by op x y = pick (op == 8) (beq x y) (not (beq x y))

abbrev pub wholes_by : ℕ → ℤ → ℤ → Bool
wholes_by op x y = of_six op (eq_z x y) (not (eq_z x y)) (int_lt x y) (int_le x y) (int_lt y x) (int_le y x)

abbrev pub reals_by : ℕ → Float → Float → Bool
reals_by op x y = of_six op (eq x y) (ne x y) (lt x y) (le x y) (lt y x) (le y x)

abbrev pub compared : ℕ → Option Numbers → Result
compared op n = pick (nat_le op 9) (equality (same_by op) (wholes_by op) (reals_by op) n) (order (wholes_by op) (reals_by op) n)
