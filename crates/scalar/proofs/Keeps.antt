-- Every operator on sound operands gives a sound scalar of the right type or one of 01's refusals. Assumes nothing.
use Prim.Native.Nat.{ℕ, ◌+◌, ◌-◌, ◌*◌, ◌/◌, ◌%◌, ◌^◌, ◌<◌, ◌≤◌}
use mathlib.Core.Path.{◌≡◌, refl, sym, subst, ◌∙◌}
use mathlib.Core.Bool.{Bool, true, false, not, ◌||◌, false≢true}
use native.Mathlib.Omega.{arith}
use lib.Dec.{T, eqb, ltb, leb}
use lib.Bits.{bit_and, bit_or, bit_xor}
use lib.IntN.{ℤ, pos, negsuc, ◌*ℤ◌, ◌+ℤ◌, ◌-ℤ◌}
use lib.Signed.{mag, quot_z, rem_z, shr_z, mag_rem, mag_shr}
use lib.Ieee.{Float, Format, binary32, binary64, fits, neg}
use lib.Ieee.Fits.{add-fits, sub-fits, mul-fits, div-fits, rem-fits, neg-fits}
use borrow.Author.Tests.{ltb-true, ltb-false, not-false}
use mir.Syntax.{Width, w16, w32, w64}
use mir.Val.{Fits, SFits, of_z}
use mir.ValLaws.{to_z-Fits, sfits_le, Fits-div, Fits-mod, Fits-not, Fits-and, Fits-or, Fits-xor}
use Rattle.std.specs.Prelude.{Option, Some, None}
use Rattle.integer.specs.Range.{pick, in_signed, in_unsigned, whole_of}
use Rattle.integer.specs.Wrap.{wrap_s, wrap_u, not_z}
use Rattle.quotient.specs.Quotient.{no_quotient}
use Rattle.shift.specs.Shift.{shl_over, shl_over_u}
use Rattle.integer.proofs.Wrap.{wrap_u_fits}
use Rattle.quotient.proofs.Division.{quot_fits}
use Rattle.types.specs.Types.{integer_of}
use Rattle.rounding.specs.Kind.{Kind, half, single, double, convert}
use Rattle.rounding.specs.Arithmetic.{add, sub, mul, div, rem}
use Rattle.rounding.specs.Bits.{to_bits, of_bits}
use Rattle.rounding.proofs.Same.{of, add_is, sub_is, mul_is, div_is, rem_is}
use Rattle.rounding.proofs.Units.{half_sized}
use Rattle.rounding.proofs.Width.{bits_lt}
use Rattle.value.specs.declared.Scalar.{Scalar}
use Rattle.value.specs.declared.Scalar.TheVariants.{Bool as bool, AbstractInt, AbstractFloat, I32, U32, F32, F16}
use Rattle.value.specs.declared.ShaderStage.{ShaderStage}
use Rattle.value.specs.declared.Refusal.{Refusal}
use Rattle.value.specs.declared.OperatorError.TheVariants.{AddOverflow, SubOverflow, MulOverflow, DivByZero, RemZeroDiv}
use Rattle.value.specs.declared.Pair.{Pair}
use Rattle.value.specs.declared.Pair.TheVariants as P
use Rattle.value.specs.Answer.{Result, value, refused, shift_refused, refusal, carries, refused_by, strict}
use Rattle.value.specs.Pattern.{proper_of, kept_of}
use Rattle.value.specs.Scalar.{type_of, finite_of, kept_scalar}
use Rattle.arithmetic.specs.Arithmetic.{in_exec, finite_or, settled, whole_or, half_of, arithmetic, add_of, sub_of, mul_of, no_div, div_of, no_rem, rem_of, neg_of}
use Rattle.relation.specs.Logical.{logical, not_of}
use Rattle.relation.specs.Comparison.{equality, order, numbers_of}
use Rattle.bitwise.specs.Bits.{bit_not_of, signed_bits, bitwise, bit_or_of, bit_and_of, bit_xor_of}
use Rattle.bitwise.specs.Shift.{shl_overflow, shr_overflow, shl_exact, shl_wrapped, shr_exact, shr_reduced, shl_by, shr_by, by_count, shl_of, shr_of}
use Rattle.value.specs.Refusals as No
use Rattle.scalar.specs.Step.{carrying}
use Rattle.value.proofs.Sound.{Sound, OfType, Couple, bits_fit, bits_proper, bits_kept, kept_sound}
use Rattle.arithmetic.proofs.Negated.{sign_set, sign_cleared, half_nan}

-- a refusal: its number 1, 2 or 4 to 10, its detail 0 but for the shifts', whose count is a U32 and whose operand is an integer's pattern
pub record Refuses (r : Refusal) : Type 0 where
  pub low : 1 ≤ r.number
  pub high : r.number ≤ 10
  pub shapeless : r.number ≡ 3 → ⊥
  pub plain : (r.number ≡ 9 → ⊥) → (r.number ≡ 10 → ⊥) → r.detail ≡ 0
  pub small : r.detail < 4294967296
  pub operand : carries r.number ≡ true → (integer_of r.ty ≡ true) × ((proper_of r.ty r.bits ≡ true) × (kept_of r.ty r.bits ≡ r.bits))

abbrev pub Kept : ℕ → Result → Type 0
Kept ty (value s) = (type_of s ≡ ty) × Sound s
Kept ty (refused r) = Refuses r
Kept ty (shift_refused n d l) = Refuses (carrying n d l)

plainly : (n : ℕ) → 1 ≤ n → n ≤ 10 → (n ≡ 3 → ⊥) → carries n ≡ false → Refuses (refusal n 0)
plainly n l h s e = record { low = l; high = h; shapeless = s; plain = λ a b. refl; small = omega arith; operand = λ c. absurd (false≢true (sym e ∙ c)) }

pub no_unary : Refuses (refusal No.Unary 0)
no_unary = plainly 1 (omega arith) (omega arith) (λ e. omega arith) refl

pub no_binary : Refuses (refusal No.Binary 0)
no_binary = plainly 2 (omega arith) (omega arith) (λ e. omega arith) refl

-- a shift's, of a sound integer
module _ (n : ℕ) (z : n < 4294967296) (l : Scalar) (i : integer_of (type_of l) ≡ true) (h : Sound l) where
  over_left : Refuses (carrying No.ShlOverflow n l)
  over_left =
      record { low = omega arith; high = omega arith; shapeless = λ e. omega arith; plain = λ a b. absurd (a refl); small = z; operand = λ c. (i, (bits_proper l h, bits_kept l h)) }

  over_right : Refuses (carrying No.ShrOverflow n l)
  over_right =
      record { low = omega arith; high = omega arith; shapeless = λ e. omega arith; plain = λ a b. absurd (b refl); small = z; operand = λ c. (i, (bits_proper l h, bits_kept l h)) }

-- ---- by a test
pub chosen : (ty : ℕ) (t : Bool) (a b : Result) → (t ≡ true → Kept ty a) → (t ≡ false → Kept ty b) → Kept ty (pick t a b)
chosen ty true a b f g = f refl
chosen ty false a b f g = g refl

exec : (ty : ℕ) (stage : ShaderStage) (why : Result) (s : Scalar) → Kept ty why → Kept ty (value s) → Kept ty (in_exec stage why s)
exec ty stage why s w k = chosen ty (strict stage) why (value s) (λ e. w) (λ e. k)

finite_or_lem : (ty : ℕ) (s : Scalar) (o : Result) → Kept ty (value s) → Kept ty o → Kept ty (finite_or s o)
finite_or_lem ty s o k w = chosen ty (finite_of s) (value s) o (λ e. k) (λ e. w)

settles : (ty : ℕ) (stage : ShaderStage) (why : Result) (s : Scalar) → Kept ty why → Kept ty (value s) → Kept ty (settled stage why s)
settles ty stage why s w k = finite_or_lem ty s (in_exec stage why s) k (exec ty stage why s w k)

-- ---- ranges
pub signed_in : (w : Width) (z : ℤ) → in_signed w z ≡ true → SFits w z
signed_in w z e = record { sfits = ltb-true (mag z) (2 ^ mir.Val.hbits w) e }

wrapped : (w : Width) (z : ℤ) → SFits w (wrap_s w z)
unfolding wrap_s
wrapped w z = to_z-Fits w (wrap_u w z) (wrap_u_fits w z)

rounded_half : (v : Float) → Fits w16 (to_bits half (convert half v))
rounded_half v = record { fits = bits_lt half half_sized v }

turned_fits : (w : Width) (x : ℤ) → SFits w x → SFits w (not_z x)
turned_fits w (pos n) f = record { sfits = f.sfits }
turned_fits w (negsuc n) f = record { sfits = f.sfits }

neg_half_fits : (x : ℕ) → Fits w16 x → Fits w16 (to_bits half (neg (of_bits half x)))
neg_half_fits x f = go (ltb 31744 (x % 32768)) (ltb x 32768) refl refl
  where
    back : x - 32768 + 32768 ≡ x → (x - 32768) % 32768 ≤ 31744 → x - 32768 < 32768 → Fits w16 (to_bits half (neg (of_bits half x)))
    back e n h = subst (λ (y : ℕ). Fits w16 (to_bits half (neg (of_bits half y)))) e (subst (Fits w16) (sign_cleared half (x - 32768) h half_sized n) (record { fits = omega arith }))

    go : (s t : Bool) → ltb 31744 (x % 32768) ≡ s → ltb x 32768 ≡ t → Fits w16 (to_bits half (neg (of_bits half x)))
    go true t p q = subst (Fits w16) (half_nan x (ltb-true 31744 (x % 32768) p)) (record { fits = omega arith })
    go false true p q =
        let h = ltb-true x 32768 q in
        subst (Fits w16) (sign_set half x h half_sized (ltb-false 31744 (x % 32768) p)) (record { fits = omega arith })
    go false false p q =
        let h = ltb-false x 32768 q in
        let n = ltb-false 31744 (x % 32768) p in
        back (omega arith) (omega (arith, f.fits)) (omega (arith, f.fits))

-- ---- `+ - * / %`
whole_kept : (ty : ℕ) (why : Result) (z : ℤ) → ty ≡ 1 → Kept ty why → Kept ty (whole_or (whole_of z) why)
whole_kept ty why z t w = go (in_signed w64 z) refl
  where
    go : (b : Bool) → in_signed w64 z ≡ b → Kept ty (whole_or (pick b (Some z) None) why)
    go true e = (sym t, signed_in w64 z e)
    go false e = w

module _ (z : ℤ → ℤ → ℤ) (f : Kind → Float → Float → Float) (fit : (g : Format) (x y : Float) → T (fits g (f (of g) x y))) (why : Result) (w : (ty : ℕ) → Kept ty why) where
  arithmetic_kept : (stage : ShaderStage) (ty : ℕ) (p : Option Pair) → Couple ty p → Kept ty (arithmetic z f why stage p)
  arithmetic_kept stage ty (Some (P.Bool x y)) h = no_binary
  arithmetic_kept stage ty (Some (P.AbstractInt x y)) h = whole_kept ty why (z x y) h.0 (w ty)
  arithmetic_kept stage ty (Some (P.AbstractFloat x y)) h = finite_or_lem ty (AbstractFloat (f double x y)) why (sym h.0, fit binary64 x y) (w ty)
  arithmetic_kept stage ty (Some (P.I32 x y)) h = (sym h.0, wrapped w32 (z x y))
  arithmetic_kept stage ty (Some (P.U32 x y)) h = (sym h.0, wrap_u_fits w32 (z (pos x) (pos y)))
  arithmetic_kept stage ty (Some (P.F32 x y)) h = settles ty stage why (F32 (f single x y)) (w ty) (sym h.0, fit binary32 x y)
  arithmetic_kept stage ty (Some (P.F16 x y)) h = settles ty stage why (half_of f x y) (w ty) (sym h.0, rounded_half (f single (of_bits half x) (of_bits half y)))
  arithmetic_kept stage ty None h = no_binary

add_fit : (g : Format) (x y : Float) → T (fits g (add (of g) x y))
add_fit g x y = subst (λ (v : Float). T (fits g v)) (add_is g x y) (add-fits g x y)

sub_fit : (g : Format) (x y : Float) → T (fits g (sub (of g) x y))
sub_fit g x y = subst (λ (v : Float). T (fits g v)) (sub_is g x y) (sub-fits g x y)

mul_fit : (g : Format) (x y : Float) → T (fits g (mul (of g) x y))
mul_fit g x y = subst (λ (v : Float). T (fits g v)) (mul_is g x y) (mul-fits g x y)

div_fit : (g : Format) (x y : Float) → T (fits g (div (of g) x y))
div_fit g x y = subst (λ (v : Float). T (fits g v)) (div_is g x y) (div-fits g x y)

rem_fit : (g : Format) (x y : Float) → T (fits g x) → T (fits g (rem (of g) x y))
rem_fit g x y f = subst (λ (v : Float). T (fits g v)) (rem_is g x y) (rem-fits g x y f)

pub add_kept : (stage : ShaderStage) (ty : ℕ) (p : Option Pair) → Couple ty p → Kept ty (add_of stage p)
add_kept = arithmetic_kept ◌+ℤ◌ add add_fit (refused_by AddOverflow) (λ ty. plainly 4 (omega arith) (omega arith) (λ e. omega arith) refl)

pub sub_kept : (stage : ShaderStage) (ty : ℕ) (p : Option Pair) → Couple ty p → Kept ty (sub_of stage p)
sub_kept = arithmetic_kept ◌-ℤ◌ sub sub_fit (refused_by SubOverflow) (λ ty. plainly 5 (omega arith) (omega arith) (λ e. omega arith) refl)

pub mul_kept : (stage : ShaderStage) (ty : ℕ) (p : Option Pair) → Couple ty p → Kept ty (mul_of stage p)
mul_kept = arithmetic_kept ◌*ℤ◌ mul mul_fit (refused_by MulOverflow) (λ ty. plainly 6 (omega arith) (omega arith) (λ e. omega arith) refl)

no_div_lem : Refuses (refusal No.DivByZero 0)
no_div_lem = plainly 7 (omega arith) (omega arith) (λ e. omega arith) refl

no_rem_lem : Refuses (refusal No.RemZeroDiv 0)
no_rem_lem = plainly 8 (omega arith) (omega arith) (λ e. omega arith) refl

pub div_kept : (stage : ShaderStage) (ty : ℕ) (p : Option Pair) → Couple ty p → Kept ty (div_of stage p)
div_kept stage ty (Some (P.Bool x y)) h = no_binary
div_kept stage ty (Some (P.AbstractInt x y)) h =
    chosen ty (no_quotient w64 x y) (no_div stage (AbstractInt x)) (value (AbstractInt (quot_z x y)))
    (λ e. exec ty stage (refused_by DivByZero) (AbstractInt x) no_div_lem (sym h.0, h.1.0)) (λ e. (sym h.0, quot_fits w64 x y h.1.0 h.1.1 e))
div_kept stage ty (Some (P.AbstractFloat x y)) h =
    finite_or_lem ty (AbstractFloat (div double x y)) (no_div stage (AbstractFloat x)) (sym h.0, div_fit binary64 x y)
    (exec ty stage (refused_by DivByZero) (AbstractFloat x) no_div_lem (sym h.0, h.1.0))
div_kept stage ty (Some (P.I32 x y)) h =
    chosen ty (no_quotient w32 x y) (no_div stage (I32 x)) (value (I32 (quot_z x y)))
    (λ e. exec ty stage (refused_by DivByZero) (I32 x) no_div_lem (sym h.0, h.1.0)) (λ e. (sym h.0, quot_fits w32 x y h.1.0 h.1.1 e))
div_kept stage ty (Some (P.U32 x y)) h =
    chosen ty (eqb y 0) (no_div stage (U32 x)) (value (U32 (x / y)))
    (λ e. exec ty stage (refused_by DivByZero) (U32 x) no_div_lem (sym h.0, h.1.0)) (λ e. (sym h.0, Fits-div x y h.1.0))
div_kept stage ty (Some (P.F32 x y)) h =
    finite_or_lem ty (F32 (div single x y)) (no_div stage (F32 x)) (sym h.0, div_fit binary32 x y)
    (exec ty stage (refused_by DivByZero) (F32 x) no_div_lem (sym h.0, h.1.0))
div_kept stage ty (Some (P.F16 x y)) h =
    finite_or_lem ty (half_of div x y) (no_div stage (kept_scalar (F16 x))) (sym h.0, rounded_half (div single (of_bits half x) (of_bits half y)))
    (exec ty stage (refused_by DivByZero) (kept_scalar (F16 x)) no_div_lem (sym h.0, kept_sound (F16 x) h.1.0))
div_kept stage ty None h = no_binary

zero_fits : (w : Width) → SFits w (pos 0)
zero_fits w = record { sfits = lib.Pow.pow_pos (mir.Val.hbits w) }

pub rem_kept : (stage : ShaderStage) (ty : ℕ) (p : Option Pair) → Couple ty p → Kept ty (rem_of stage p)
rem_kept stage ty (Some (P.Bool x y)) h = no_binary
rem_kept stage ty (Some (P.AbstractInt x y)) h =
    chosen ty (no_quotient w64 x y) (no_rem stage (AbstractInt (pos 0))) (value (AbstractInt (rem_z x y)))
    (λ e. exec ty stage (refused_by RemZeroDiv) (AbstractInt (pos 0)) no_rem_lem (sym h.0, zero_fits w64)) (λ e. (sym h.0, sfits_le (mag_rem x y) h.1.0))
rem_kept stage ty (Some (P.AbstractFloat x y)) h = finite_or_lem ty (AbstractFloat (rem double x y)) (refused_by RemZeroDiv) (sym h.0, rem_fit binary64 x y h.1.0) no_rem_lem
rem_kept stage ty (Some (P.I32 x y)) h =
    chosen ty (no_quotient w32 x y) (no_rem stage (I32 (pos 0))) (value (I32 (rem_z x y)))
    (λ e. exec ty stage (refused_by RemZeroDiv) (I32 (pos 0)) no_rem_lem (sym h.0, zero_fits w32)) (λ e. (sym h.0, sfits_le (mag_rem x y) h.1.0))
rem_kept stage ty (Some (P.U32 x y)) h =
    chosen ty (eqb y 0) (no_rem stage (U32 0)) (value (U32 (x % y)))
    (λ e. exec ty stage (refused_by RemZeroDiv) (U32 0) no_rem_lem (sym h.0, record { fits = omega arith })) (λ e. (sym h.0, Fits-mod x y h.1.0))
rem_kept stage ty (Some (P.F32 x y)) h = settles ty stage (refused_by RemZeroDiv) (F32 (rem single x y)) no_rem_lem (sym h.0, rem_fit binary32 x y h.1.0)
rem_kept stage ty (Some (P.F16 x y)) h = settles ty stage (refused_by RemZeroDiv) (half_of rem x y) no_rem_lem (sym h.0, rounded_half (rem single (of_bits half x) (of_bits half y)))
rem_kept stage ty None h = no_binary

-- ---- `|| &&` and comparisons
pub logical_kept : (f : Bool → Bool → Bool) (ty : ℕ) (p : Option Pair) → Couple ty p → Kept ty (logical f p)
logical_kept f ty (Some (P.Bool x y)) h = (sym h, tt)
logical_kept f ty (Some (P.AbstractInt x y)) h = no_binary
logical_kept f ty (Some (P.AbstractFloat x y)) h = no_binary
logical_kept f ty (Some (P.I32 x y)) h = no_binary
logical_kept f ty (Some (P.U32 x y)) h = no_binary
logical_kept f ty (Some (P.F32 x y)) h = no_binary
logical_kept f ty (Some (P.F16 x y)) h = no_binary
logical_kept f ty None h = no_binary

module _ (z : ℤ → ℤ → Bool) (f : Float → Float → Bool) where
  pub equality_kept : (b : Bool → Bool → Bool) (p : Option Pair) → Kept 0 (equality b z f (numbers_of p))
  equality_kept b (Some (P.Bool x y)) = (refl, tt)
  equality_kept b (Some (P.AbstractInt x y)) = (refl, tt)
  equality_kept b (Some (P.AbstractFloat x y)) = (refl, tt)
  equality_kept b (Some (P.I32 x y)) = (refl, tt)
  equality_kept b (Some (P.U32 x y)) = (refl, tt)
  equality_kept b (Some (P.F32 x y)) = (refl, tt)
  equality_kept b (Some (P.F16 x y)) = (refl, tt)
  equality_kept b None = no_binary

  pub order_kept : (p : Option Pair) → Kept 0 (order z f (numbers_of p))
  order_kept (Some (P.Bool x y)) = no_binary
  order_kept (Some (P.AbstractInt x y)) = (refl, tt)
  order_kept (Some (P.AbstractFloat x y)) = (refl, tt)
  order_kept (Some (P.I32 x y)) = (refl, tt)
  order_kept (Some (P.U32 x y)) = (refl, tt)
  order_kept (Some (P.F32 x y)) = (refl, tt)
  order_kept (Some (P.F16 x y)) = (refl, tt)
  order_kept None = no_binary

-- ---- bits
module _ (bools : Bool → Bool → Result) (op : ℕ → ℕ → ℕ) (k : (ty : ℕ) (x y : Bool) → ty ≡ 0 → Kept ty (bools x y))
    (fit : (w : Width) (a b : ℕ) → Fits w a → Fits w b → Fits w (op a b)) where
  on_bits_lem : (w : Width) (x y : ℤ) → SFits w x → SFits w y → SFits w (signed_bits w op x y)
  on_bits_lem w x y f g = to_z-Fits w (op (of_z w x) (of_z w y)) (fit w (of_z w x) (of_z w y) (bits_fit w x f) (bits_fit w y g))

  bitwise_kept : (ty : ℕ) (p : Option Pair) → Couple ty p → Kept ty (bitwise bools op p)
  bitwise_kept ty (Some (P.Bool x y)) h = k ty x y h
  bitwise_kept ty (Some (P.AbstractInt x y)) h = (sym h.0, on_bits_lem w64 x y h.1.0 h.1.1)
  bitwise_kept ty (Some (P.AbstractFloat x y)) h = no_binary
  bitwise_kept ty (Some (P.I32 x y)) h = (sym h.0, on_bits_lem w32 x y h.1.0 h.1.1)
  bitwise_kept ty (Some (P.U32 x y)) h = (sym h.0, fit w32 x y h.1.0 h.1.1)
  bitwise_kept ty (Some (P.F32 x y)) h = no_binary
  bitwise_kept ty (Some (P.F16 x y)) h = no_binary
  bitwise_kept ty None h = no_binary

pub bitor_kept : (ty : ℕ) (p : Option Pair) → Couple ty p → Kept ty (bit_or_of p)
bitor_kept = bitwise_kept Rattle.bitwise.specs.Bits.either bit_or (λ ty x y e. (sym e, tt)) (λ w a b f g. Fits-or a b f g)

pub bitand_kept : (ty : ℕ) (p : Option Pair) → Couple ty p → Kept ty (bit_and_of p)
bitand_kept = bitwise_kept Rattle.bitwise.specs.Bits.both bit_and (λ ty x y e. (sym e, tt)) (λ w a b f g. Fits-and a b f)

pub bitxor_kept : (ty : ℕ) (p : Option Pair) → Couple ty p → Kept ty (bit_xor_of p)
bitxor_kept = bitwise_kept Rattle.bitwise.specs.Bits.neither bit_xor (λ ty x y e. no_binary) (λ w a b f g. Fits-xor a b f g)

-- ---- one operand
module _ (ty : ℕ) where
  pub not_kept : (s : Scalar) → (type_of s ≡ ty) × Sound s → Kept ty (not_of s)
  not_kept (bool x) h = h
  not_kept (AbstractInt x) h = no_unary
  not_kept (AbstractFloat x) h = no_unary
  not_kept (I32 x) h = no_unary
  not_kept (U32 x) h = no_unary
  not_kept (F32 x) h = no_unary
  not_kept (F16 x) h = no_unary

  pub neg_kept : (s : Scalar) → (type_of s ≡ ty) × Sound s → Kept ty (neg_of s)
  neg_kept (bool x) h = no_unary
  neg_kept (AbstractInt x) h = (h.0, wrapped w64 (lib.IntN.neg_ℤ x))
  neg_kept (AbstractFloat x) h = (h.0, neg-fits binary64 x h.1)
  neg_kept (I32 x) h = (h.0, wrapped w32 (lib.IntN.neg_ℤ x))
  neg_kept (U32 x) h = no_unary
  neg_kept (F32 x) h = (h.0, neg-fits binary32 x h.1)
  neg_kept (F16 x) h = (h.0, neg_half_fits x h.1)

  pub bitnot_kept : (s : Scalar) → (type_of s ≡ ty) × Sound s → Kept ty (bit_not_of s)
  bitnot_kept (bool x) h = no_unary
  bitnot_kept (AbstractInt x) h = (h.0, turned_fits w64 x h.1)
  bitnot_kept (AbstractFloat x) h = no_unary
  bitnot_kept (I32 x) h = (h.0, turned_fits w32 x h.1)
  bitnot_kept (U32 x) h = (h.0, Fits-not w32 x)
  bitnot_kept (F32 x) h = no_unary
  bitnot_kept (F16 x) h = no_unary

  -- ---- shifts
  inside : (a b : Bool) → (a || not b) ≡ false → b ≡ true
  inside true b e = absurd (false≢true (sym e))
  inside false b e = not-false b e

  exact_kept : (s : Scalar) (n : ℕ) → n < 4294967296 → (type_of s ≡ ty) × Sound s → Kept ty (shl_exact s n)
  exact_kept (bool x) n z h = no_binary
  exact_kept (AbstractInt x) n z h =
      chosen ty (in_signed w64 (x *ℤ pos (2 ^ n))) (value (AbstractInt (x *ℤ pos (2 ^ n)))) (shl_overflow n (AbstractInt x))
      (λ e. (h.0, signed_in w64 (x *ℤ pos (2 ^ n)) e)) (λ e. over_left n z (AbstractInt x) refl h.1)
  exact_kept (AbstractFloat x) n z h = no_binary
  exact_kept (I32 x) n z h =
      chosen ty (shl_over w32 x n) (shl_overflow n (I32 x)) (value (I32 (x *ℤ pos (2 ^ n)))) (λ e. over_left n z (I32 x) refl h.1)
      (λ e. (h.0, signed_in w32 (x *ℤ pos (2 ^ n)) (inside (leb 32 n) (in_signed w32 (x *ℤ pos (2 ^ n))) e)))
  exact_kept (U32 x) n z h =
      chosen ty (shl_over_u w32 x n) (shl_overflow n (U32 x)) (value (U32 (x * 2 ^ n))) (λ e. over_left n z (U32 x) refl h.1)
      (λ e. (h.0, record { fits = ltb-true (x * 2 ^ n) 4294967296 (inside (leb 32 n) (in_unsigned w32 (x * 2 ^ n)) e) }))
  exact_kept (F32 x) n z h = no_binary
  exact_kept (F16 x) n z h = no_binary

  wrapped_kept : (s : Scalar) (n : ℕ) → (type_of s ≡ ty) × Sound s → Kept ty (shl_wrapped s n)
  wrapped_kept (bool x) n h = no_binary
  wrapped_kept (AbstractInt x) n h = (h.0, wrapped w64 (x *ℤ pos (2 ^ n)))
  wrapped_kept (AbstractFloat x) n h = no_binary
  wrapped_kept (I32 x) n h = (h.0, wrapped w32 (x *ℤ pos (2 ^ (n % 32))))
  wrapped_kept (U32 x) n h = (h.0, wrap_u_fits w32 (pos x *ℤ pos (2 ^ (n % 32))))
  wrapped_kept (F32 x) n h = no_binary
  wrapped_kept (F16 x) n h = no_binary

  floor_kept : (s : Scalar) (n : ℕ) → n < 4294967296 → (type_of s ≡ ty) × Sound s → Kept ty (shr_exact s n)
  floor_kept (bool x) n z h = no_binary
  floor_kept (AbstractInt x) n z h = (h.0, sfits_le (mag_shr x (2 ^ n)) h.1)
  floor_kept (AbstractFloat x) n z h = no_binary
  floor_kept (I32 x) n z h =
      chosen ty (ltb 31 n) (shr_overflow n (I32 x)) (value (I32 (shr_z x (2 ^ n)))) (λ e. over_right n z (I32 x) refl h.1) (λ e. (h.0, sfits_le (mag_shr x (2 ^ n)) h.1))
  floor_kept (U32 x) n z h =
      chosen ty (ltb 31 n) (shr_overflow n (U32 x)) (value (U32 (x / 2 ^ n))) (λ e. over_right n z (U32 x) refl h.1) (λ e. (h.0, Fits-div x (2 ^ n) h.1))
  floor_kept (F32 x) n z h = no_binary
  floor_kept (F16 x) n z h = no_binary

  reduced_kept : (s : Scalar) (n : ℕ) → (type_of s ≡ ty) × Sound s → Kept ty (shr_reduced s n)
  reduced_kept (bool x) n h = no_binary
  reduced_kept (AbstractInt x) n h = (h.0, sfits_le (mag_shr x (2 ^ n)) h.1)
  reduced_kept (AbstractFloat x) n h = no_binary
  reduced_kept (I32 x) n h = (h.0, sfits_le (mag_shr x (2 ^ (n % 32))) h.1)
  reduced_kept (U32 x) n h = (h.0, Fits-div x (2 ^ (n % 32)) h.1)
  reduced_kept (F32 x) n h = no_binary
  reduced_kept (F16 x) n h = no_binary

  counted : (count : Option Scalar) (by : ℕ → Result) → OfType 4 count → ((n : ℕ) → n < 4294967296 → Kept ty (by n)) → Kept ty (by_count count by)
  counted (Some (bool x)) by c k = no_binary
  counted (Some (AbstractInt x)) by c k = no_binary
  counted (Some (AbstractFloat x)) by c k = no_binary
  counted (Some (I32 x)) by c k = no_binary
  counted (Some (U32 n)) by c k = k n c.1.fits
  counted (Some (F32 x)) by c k = no_binary
  counted (Some (F16 x)) by c k = no_binary
  counted None by c k = no_binary

  pub shl_kept : (stage : ShaderStage) (s : Scalar) (count : Option Scalar) → OfType 4 count → (type_of s ≡ ty) × Sound s → Kept ty (shl_of stage s count)
  shl_kept stage s count c h = counted count (shl_by stage s) c (λ n z. chosen ty (strict stage) (shl_exact s n) (shl_wrapped s n) (λ e. exact_kept s n z h) (λ e. wrapped_kept s n h))

  pub shr_kept : (stage : ShaderStage) (s : Scalar) (count : Option Scalar) → OfType 4 count → (type_of s ≡ ty) × Sound s → Kept ty (shr_of stage s count)
  shr_kept stage s count c h = counted count (shr_by stage s) c (λ n z. chosen ty (strict stage) (shr_exact s n) (shr_reduced s n) (λ e. floor_kept s n z h) (λ e. reduced_kept s n h))
