-- Every operator on scalars answers with a NaN as it is kept, whatever bits an F16 operand came with. Assumes nothing.
use Prim.Native.Nat.{ℕ, ◌+◌, ◌-◌, ◌*◌, ◌/◌, ◌%◌, ◌^◌, ◌≤◌, ◌<◌}
use mathlib.Core.Path.{◌≡◌, refl, sym, ap, subst, ◌∙◌}
use mathlib.Core.Bool.{Bool, true, false, not, ◌&&◌, ◌||◌, beq}
use mathlib.Core.List.{◌∷◌}
use mathlib.Core.Logic.{⊎_elim}
use native.Mathlib.Omega.{arith}
use lib.Bits.{bit_and, bit_or, bit_xor}
use lib.Dec.{eqb, ltb, leb}
use lib.IntN.{ℤ, pos, ◌+ℤ◌, ◌-ℤ◌, ◌*ℤ◌}
use lib.Ieee.{Float, neg, eq, ne, lt, le}
use lib.Signed.{lt_z, le_z, quot_z, rem_z, shr_z}
use borrow.Author.Tests.{le-ltb, ltb-true, ltb-false}
use mir.Syntax.{w32, w64}
use Rattle.std.specs.Prelude.{Option, Some, None}
use Rattle.integer.specs.Equal.{eq_z}
use Rattle.integer.specs.Range.{in_signed, whole_of}
use Rattle.quotient.specs.Quotient.{no_quotient}
use Rattle.shift.specs.Shift.{shl_over, shl_over_u}
use Rattle.rounding.specs.Kind.{Kind, half, single, double, convert}
use Rattle.rounding.specs.Arithmetic.{add, sub, mul, div, rem}
use Rattle.rounding.specs.Bits.{to_bits, of_bits}
use Rattle.rounding.proofs.Units.{half_sized}
use Rattle.rounding.proofs.Width.{kept_pattern}
use Rattle.value.specs.declared.Scalar.{Scalar}
use Rattle.value.specs.declared.Scalar.TheVariants.{Bool as bool, AbstractInt, AbstractFloat, I32, U32, F32, F16}
use Rattle.value.specs.declared.ShaderStage.{ShaderStage}
use Rattle.value.specs.declared.OperatorError.TheVariants.{AddOverflow, SubOverflow, MulOverflow, DivByZero, RemZeroDiv}
use Rattle.value.specs.declared.Pair.{Pair}
use Rattle.value.specs.declared.Pair.TheVariants as P
use Rattle.value.specs.Answer.{Result, value, refused, shift_refused, refused_by, unary, binary, strict}
use Rattle.value.specs.Pattern.{pick, nan_pattern, kept_of}
use Rattle.value.specs.Scalar.{finite_of, kept_scalar}
use Rattle.value.proofs.Sound.{Sound, kept_once}
use Rattle.value.specs.Pair.{pair_of}
use Rattle.conversion.specs.Convert.{convert_to, common_of}
use Rattle.relation.specs.Logical.{logical, not_of}
use Rattle.relation.specs.Comparison.{equality, order, numbers_of}
use Rattle.arithmetic.specs.Arithmetic.{in_exec, settled, whole_or, half_of, arithmetic, no_div, div_of, no_rem, rem_of, neg_of}
use Rattle.arithmetic.proofs.Negated.{sign_set, sign_cleared, half_nan}
use Rattle.bitwise.specs.Bits.{bitwise, either, both, neither, bit_not_of}
use Rattle.bitwise.specs.Shift.{shl_overflow, shr_overflow, by_count, shl_by, shr_by, shl_of, shr_of}
use Rattle.scalar.specs.Step.{unaries, unary_of, binaries, binary_of, shift_of, operator_of}
use Rattle.scalar.proofs.Promises.{entry}

-- a value has its NaN kept
abbrev pub KeptNan : Result → Type 0
KeptNan (value s) = kept_scalar s ≡ s
KeptNan (refused r) = Unit {0}
KeptNan (shift_refused n d l) = kept_scalar l ≡ l

-- whichever of two
one_of : (t : Bool) (a b : Result) → KeptNan a → KeptNan b → KeptNan (pick t a b)
one_of true a b h k = h
one_of false a b h k = k

settles : (stage : ShaderStage) (why : Result) (s : Scalar) → KeptNan why → kept_scalar s ≡ s → KeptNan (settled stage why s)
settles stage why s w k = one_of (finite_of s) (value s) (in_exec stage why s) k (one_of (strict stage) why (value s) w k)

-- ---- F16
-- bits that are the kept NaN's, or no NaN's
kept_nan : (b : ℕ) → b ≡ 32256 → kept_of 6 b ≡ b
unfolding kept_of
kept_nan b e = go (nan_pattern half b)
  where
    go : (t : Bool) → pick t 0x7E00 b ≡ b
    go true = sym e
    go false = refl

no_nan : (b : ℕ) → b % 32768 ≤ 31744 → kept_of 6 b ≡ b
unfolding kept_of
no_nan b h = ap (λ (t : Bool). pick t 0x7E00 b) (le-ltb 31744 (b % 32768) h)

-- a rounded result
rounded : (v : Float) → kept_scalar (F16 (to_bits half (convert half v))) ≡ F16 (to_bits half (convert half v))
rounded v = ap F16 (⊎_elim (kept_nan (to_bits half (convert half v))) (no_nan (to_bits half (convert half v))) (kept_pattern half half_sized v))

-- a changed sign
negated : (x : ℕ) → x < 65536 → kept_scalar (F16 (to_bits half (neg (of_bits half x)))) ≡ F16 (to_bits half (neg (of_bits half x)))
negated x f = ap F16 (go (ltb 31744 (x % 32768)) (ltb x 32768) refl refl)
  where
    bits : ℕ
    bits = to_bits half (neg (of_bits half x))

    plain : (b : ℕ) → b ≡ bits → b % 32768 ≤ 31744 → kept_of 6 bits ≡ bits
    plain b e h = subst (λ (n : ℕ). kept_of 6 n ≡ n) e (no_nan b h)

    cleared : x - 32768 + 32768 ≡ x → (x - 32768) % 32768 ≤ 31744 → x - 32768 < 32768 → kept_of 6 bits ≡ bits
    cleared e n h = plain (x - 32768) (sign_cleared half (x - 32768) h half_sized n ∙ ap (λ (y : ℕ). to_bits half (neg (of_bits half y))) e) n

    go : (s t : Bool) → ltb 31744 (x % 32768) ≡ s → ltb x 32768 ≡ t → kept_of 6 bits ≡ bits
    go true t p q = kept_nan bits (sym (half_nan x (ltb-true 31744 (x % 32768) p)))
    go false true p q =
        let h = ltb-true x 32768 q in
        let n = ltb-false 31744 (x % 32768) p in
        plain (x + 32768) (sign_set half x h half_sized n) (omega (arith, n))
    go false false p q =
        let h = ltb-false x 32768 q in
        let n = ltb-false 31744 (x % 32768) p in
        cleared (omega arith) (omega arith) (omega arith)

-- ---- `+ - * / %`
whole_nan : (w : Option ℤ) (why : Result) → KeptNan why → KeptNan (whole_or w why)
whole_nan (Some z) why k = refl
whole_nan None why k = k

arithmetic_nan : (z : ℤ → ℤ → ℤ) (f : Kind → Float → Float → Float) (why : Result) → KeptNan why → (stage : ShaderStage) (p : Option Pair) → KeptNan (arithmetic z f why stage p)
arithmetic_nan z f why w stage p =
    elim p as (λ p. KeptNan (arithmetic z f why stage p)) [
      | Some (P.Bool x y) ↦ tt
      | Some (P.AbstractInt x y) ↦ whole_nan (whole_of (z x y)) why w
      | Some (P.AbstractFloat x y) ↦ one_of (finite_of (AbstractFloat (f double x y))) (value (AbstractFloat (f double x y))) why refl w
      | Some (P.I32 x y) ↦ refl
      | Some (P.U32 x y) ↦ refl
      | Some (P.F32 x y) ↦ settles stage why (F32 (f single x y)) w refl
      | Some (P.F16 x y) ↦ settles stage why (half_of f x y) w (rounded (f single (of_bits half x) (of_bits half y)))
      | None ↦ tt
    ]

-- what stands where `/` or `%` has no result
in_exec_lem : (stage : ShaderStage) (why : Result) (s : Scalar) → KeptNan why → kept_scalar s ≡ s → KeptNan (in_exec stage why s)
in_exec_lem stage why s w k = one_of (strict stage) why (value s) w k

div_nan : (stage : ShaderStage) (p : Option Pair) → KeptNan (div_of stage p)
div_nan stage p =
    elim p as (λ p. KeptNan (div_of stage p)) [
      | Some (P.Bool x y) ↦ tt
      | Some (P.AbstractInt x y) ↦ one_of (no_quotient w64 x y) (no_div stage (AbstractInt x)) (value (AbstractInt (quot_z x y))) (in_exec_lem stage (refused_by DivByZero) (AbstractInt x) tt refl) refl
      | Some (P.AbstractFloat x y) ↦
          one_of (finite_of (AbstractFloat (div double x y))) (value (AbstractFloat (div double x y))) (no_div stage (AbstractFloat x)) refl
          (in_exec_lem stage (refused_by DivByZero) (AbstractFloat x) tt refl)
      | Some (P.I32 x y) ↦ one_of (no_quotient w32 x y) (no_div stage (I32 x)) (value (I32 (quot_z x y))) (in_exec_lem stage (refused_by DivByZero) (I32 x) tt refl) refl
      | Some (P.U32 x y) ↦ one_of (eqb y 0) (no_div stage (U32 x)) (value (U32 (x / y))) (in_exec_lem stage (refused_by DivByZero) (U32 x) tt refl) refl
      | Some (P.F32 x y) ↦
          one_of (finite_of (F32 (div single x y))) (value (F32 (div single x y))) (no_div stage (F32 x)) refl (in_exec_lem stage (refused_by DivByZero) (F32 x) tt refl)
      | Some (P.F16 x y) ↦
          one_of (finite_of (half_of div x y)) (value (half_of div x y)) (no_div stage (kept_scalar (F16 x))) (rounded (div single (of_bits half x) (of_bits half y)))
          (in_exec_lem stage (refused_by DivByZero) (kept_scalar (F16 x)) tt (ap F16 (kept_once 6 x)))
      | None ↦ tt
    ]

rem_nan : (stage : ShaderStage) (p : Option Pair) → KeptNan (rem_of stage p)
rem_nan stage p =
    elim p as (λ p. KeptNan (rem_of stage p)) [
      | Some (P.Bool x y) ↦ tt
      | Some (P.AbstractInt x y) ↦
          one_of (no_quotient w64 x y) (no_rem stage (AbstractInt (pos 0))) (value (AbstractInt (rem_z x y))) (in_exec_lem stage (refused_by RemZeroDiv) (AbstractInt (pos 0)) tt refl) refl
      | Some (P.AbstractFloat x y) ↦ one_of (finite_of (AbstractFloat (rem double x y))) (value (AbstractFloat (rem double x y))) (refused_by RemZeroDiv) refl tt
      | Some (P.I32 x y) ↦ one_of (no_quotient w32 x y) (no_rem stage (I32 (pos 0))) (value (I32 (rem_z x y))) (in_exec_lem stage (refused_by RemZeroDiv) (I32 (pos 0)) tt refl) refl
      | Some (P.U32 x y) ↦ one_of (eqb y 0) (no_rem stage (U32 0)) (value (U32 (x % y))) (in_exec_lem stage (refused_by RemZeroDiv) (U32 0) tt refl) refl
      | Some (P.F32 x y) ↦ settles stage (refused_by RemZeroDiv) (F32 (rem single x y)) tt refl
      | Some (P.F16 x y) ↦ settles stage (refused_by RemZeroDiv) (half_of rem x y) tt (rounded (rem single (of_bits half x) (of_bits half y)))
      | None ↦ tt
    ]

-- ---- the others give no F16
logical_nan : (f : Bool → Bool → Bool) (p : Option Pair) → KeptNan (logical f p)
logical_nan f p =
    elim p as (λ p. KeptNan (logical f p)) [ Some (P.Bool x y) ↦ refl | Some (P.AbstractInt x y) ↦ tt | Some (P.AbstractFloat x y) ↦ tt | Some (P.I32 x y) ↦ tt | Some (P.U32 x y) ↦ tt | Some (P.F32 x y) ↦ tt | Some (P.F16 x y) ↦ tt | None ↦ tt ]

equality_nan : (b : Bool → Bool → Bool) (z : ℤ → ℤ → Bool) (f : Float → Float → Bool) (p : Option Pair) → KeptNan (equality b z f (numbers_of p))
equality_nan b z f p =
    elim p as (λ p. KeptNan (equality b z f (numbers_of p))) [
      | Some (P.Bool x y) ↦ refl
      | Some (P.AbstractInt x y) ↦ refl
      | Some (P.AbstractFloat x y) ↦ refl
      | Some (P.I32 x y) ↦ refl
      | Some (P.U32 x y) ↦ refl
      | Some (P.F32 x y) ↦ refl
      | Some (P.F16 x y) ↦ refl
      | None ↦ tt
    ]

order_nan : (z : ℤ → ℤ → Bool) (f : Float → Float → Bool) (p : Option Pair) → KeptNan (order z f (numbers_of p))
order_nan z f p =
    elim p as (λ p. KeptNan (order z f (numbers_of p))) [
      | Some (P.Bool x y) ↦ tt
      | Some (P.AbstractInt x y) ↦ refl
      | Some (P.AbstractFloat x y) ↦ refl
      | Some (P.I32 x y) ↦ refl
      | Some (P.U32 x y) ↦ refl
      | Some (P.F32 x y) ↦ refl
      | Some (P.F16 x y) ↦ refl
      | None ↦ tt
    ]

bitwise_nan : (bools : Bool → Bool → Result) (op : ℕ → ℕ → ℕ) → ((x y : Bool) → KeptNan (bools x y)) → (p : Option Pair) → KeptNan (bitwise bools op p)
bitwise_nan bools op h p =
    elim p as (λ p. KeptNan (bitwise bools op p)) [ Some (P.Bool x y) ↦ h x y | Some (P.AbstractInt x y) ↦ refl | Some (P.AbstractFloat x y) ↦ tt | Some (P.I32 x y) ↦ refl | Some (P.U32 x y) ↦ refl | Some (P.F32 x y) ↦ tt | Some (P.F16 x y) ↦ tt | None ↦ tt ]

pub binary_nan : (op : ℕ) (stage : ShaderStage) (p : Option Pair) → KeptNan (binary_of op stage p)
binary_nan op stage p =
    entry (λ i r. KeptNan r) (binary ∷ binaries stage p) binary (λ i. tt) tt (logical_nan ◌||◌ p) (logical_nan ◌&&◌ p)
    (arithmetic_nan ◌+ℤ◌ add (refused_by AddOverflow) tt stage p) (arithmetic_nan ◌-ℤ◌ sub (refused_by SubOverflow) tt stage p)
    (arithmetic_nan ◌*ℤ◌ mul (refused_by MulOverflow) tt stage p) (div_nan stage p) (rem_nan stage p)
    (equality_nan beq eq_z eq p) (equality_nan (λ x y. not (beq x y)) (λ x y. not (eq_z x y)) ne p)
    (order_nan lt_z lt p) (order_nan le_z le p) (order_nan (λ x y. lt_z y x) (λ x y. lt y x) p) (order_nan (λ x y. le_z y x) (λ x y. le y x) p)
    (bitwise_nan either bit_or (λ x y. refl) p) (bitwise_nan both bit_and (λ x y. refl) p) (bitwise_nan neither bit_xor (λ x y. tt) p) op

-- ---- shifts
counted : (count : Option Scalar) (by : ℕ → Result) → ((n : ℕ) → KeptNan (by n)) → KeptNan (by_count count by)
counted None by h = tt
counted (Some s) by h = elim s as (λ s. KeptNan (by_count (Some s) by)) [ bool x ↦ tt | AbstractInt x ↦ tt | AbstractFloat x ↦ tt | I32 x ↦ tt | U32 n ↦ h n | F32 x ↦ tt | F16 x ↦ tt ]

shl_nan : (stage : ShaderStage) (s : Scalar) (n : ℕ) → KeptNan (shl_by stage s n)
shl_nan stage s n =
    elim s as (λ s. KeptNan (shl_by stage s n)) [
      | bool x ↦ one_of (strict stage) _ _ tt tt
      | AbstractInt x ↦ one_of (strict stage) _ _ (one_of (in_signed w64 (x *ℤ pos (2 ^ n))) (value (AbstractInt (x *ℤ pos (2 ^ n)))) (shl_overflow n (AbstractInt x)) refl refl) refl
      | AbstractFloat x ↦ one_of (strict stage) _ _ tt tt
      | I32 x ↦ one_of (strict stage) _ _ (one_of (shl_over w32 x n) (shl_overflow n (I32 x)) (value (I32 (x *ℤ pos (2 ^ n)))) refl refl) refl
      | U32 x ↦ one_of (strict stage) _ _ (one_of (shl_over_u w32 x n) (shl_overflow n (U32 x)) (value (U32 (x * 2 ^ n))) refl refl) refl
      | F32 x ↦ one_of (strict stage) _ _ tt tt
      | F16 x ↦ one_of (strict stage) _ _ tt tt
    ]

shr_nan : (stage : ShaderStage) (s : Scalar) (n : ℕ) → KeptNan (shr_by stage s n)
shr_nan stage s n =
    elim s as (λ s. KeptNan (shr_by stage s n)) [
      | bool x ↦ one_of (strict stage) _ _ tt tt
      | AbstractInt x ↦ one_of (strict stage) _ _ refl refl
      | AbstractFloat x ↦ one_of (strict stage) _ _ tt tt
      | I32 x ↦ one_of (strict stage) _ _ (one_of (leb 32 n) (shr_overflow n (I32 x)) (value (I32 (shr_z x (2 ^ n)))) refl refl) refl
      | U32 x ↦ one_of (strict stage) _ _ (one_of (leb 32 n) (shr_overflow n (U32 x)) (value (U32 (x / 2 ^ n))) refl refl) refl
      | F32 x ↦ one_of (strict stage) _ _ tt tt
      | F16 x ↦ one_of (strict stage) _ _ tt tt
    ]

shift_nan : (op : ℕ) (stage : ShaderStage) (s : Scalar) (count : Option Scalar) → KeptNan (shift_of op stage (Some s) count)
shift_nan op stage s count =
    one_of (eqb op 17) (shl_of stage s count) (pick (eqb op 18) (shr_of stage s count) binary) (counted count (shl_by stage s) (shl_nan stage s))
    (one_of (eqb op 18) (shr_of stage s count) binary (counted count (shr_by stage s) (shr_nan stage s)) tt)

-- ---- every operator of two operands, and of one
pub operator_nan : (op : ℕ) (stage : ShaderStage) (l r : Scalar) → KeptNan (operator_of op stage l r)
operator_nan op stage l r =
    one_of (leb 17 op) (shift_of op stage (Some l) (convert_to 4 r)) (binary_of op stage (pick (leb op 2) (pair_of l r) (common_of l r)))
    (shift_nan op stage l (convert_to 4 r)) (binary_nan op stage (pick (leb op 2) (pair_of l r) (common_of l r)))

not_nan : (s : Scalar) → KeptNan (not_of s)
not_nan s = elim s as (λ s. KeptNan (not_of s)) [ bool x ↦ refl | AbstractInt x ↦ tt | AbstractFloat x ↦ tt | I32 x ↦ tt | U32 x ↦ tt | F32 x ↦ tt | F16 x ↦ tt ]

neg_nan : (s : Scalar) → Sound s → KeptNan (neg_of s)
neg_nan (bool x) h = tt
neg_nan (AbstractInt x) h = refl
neg_nan (AbstractFloat x) h = refl
neg_nan (I32 x) h = refl
neg_nan (U32 x) h = tt
neg_nan (F32 x) h = refl
neg_nan (F16 x) h = negated x h.fits

bitnot_nan : (s : Scalar) → KeptNan (bit_not_of s)
bitnot_nan s = elim s as (λ s. KeptNan (bit_not_of s)) [ bool x ↦ tt | AbstractInt x ↦ refl | AbstractFloat x ↦ tt | I32 x ↦ refl | U32 x ↦ refl | F32 x ↦ tt | F16 x ↦ tt ]

pub unary_nan : (op : ℕ) (s : Scalar) → Sound s → KeptNan (unary_of op s)
unary_nan op s h = entry (λ i r. KeptNan r) (unary ∷ unaries s) unary (λ i. tt) tt (not_nan s) (neg_nan s h) (bitnot_nan s) op
