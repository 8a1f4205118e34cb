-- The operators on scalars, and the steps on the scalars' patterns: they answer alike. Assumes nothing.
use Prim.Native.Nat.{ℕ, zero, suc}
use mathlib.Core.Path.{◌≡◌, refl, sym, ap, subst, ◌∙◌}
use mathlib.Core.Bool.{Bool, true, false, ◌&&◌, ◌||◌, true≢false}
use mathlib.Core.List.{[], ◌∷◌, map}
use native.Mathlib.Omega.{arith}
use lib.Dec.{eqb, leb}
use lib.IntN.{ℤ, nat_abs}
use lib.Ieee.{Float, binary32, binary64, neg}
use lib.ListN.{get_or}
use borrow.Author.Tests.{ltb-true, lt-leb}
use mir.Syntax.{w32, w64}
use mir.ValLaws.{to_z-of_z}
use Rattle.std.specs.Prelude.{Option, Some, None, option_and_then}
use Rattle.integer.specs.Range.{in_signed}
use Rattle.rounding.specs.Kind.{half, single, double, convert, of_integer}
use Rattle.rounding.specs.Bits.{to_bits, of_bits, finite}
use Rattle.rounding.proofs.Back.{bits_back}
use Rattle.types.specs.Types.{goes_to, common_type}
use Rattle.types.proofs.Choice.{picked, passed}
use Rattle.types.proofs.Rows.{by_code}
use Rattle.value.specs.declared.Scalar.{Scalar}
use Rattle.value.specs.declared.Scalar.TheVariants.{Bool as bool, AbstractInt, AbstractFloat, I32, U32, F32, F16}
use Rattle.value.specs.declared.ShaderStage.{ShaderStage}
use Rattle.value.specs.Answer.{value, unary, binary, stage_of}
use Rattle.value.specs.Pattern.{pick, nan_pattern, kept_of}
use Rattle.value.specs.Scalar.{type_of, finite_of, bits_of, kept_scalar, scalar_at, scalar_of}
use Rattle.value.specs.Pair.{pair_of, both_of}
use Rattle.value.proofs.Sound.{Sound, OfType, bits_proper, kept_once}
use Rattle.conversion.specs.Convert.{in_natural, stands, targets, float_to_f32, float_to_f16, from_int, from_float, convert_to, common_of}
use Rattle.relation.specs.Logical.{logical, not_of, or_of, and_of}
use Rattle.relation.specs.Comparison.{eq_of, ne_of, lt_of, le_of, gt_of, ge_of}
use Rattle.arithmetic.specs.Arithmetic.{neg_of, add_of, sub_of, mul_of, div_of, rem_of}
use Rattle.arithmetic.proofs.Negated.{half_reads}
use Rattle.bitwise.specs.Bits.{bit_not_of, bit_or_of, bit_and_of, bit_xor_of}
use Rattle.bitwise.specs.Shift.{shl_of, shr_of}
use Rattle.scalar.specs.Step.{stepped, unary_of, on_scalar, unary_step_of, binaries, binary_of, shift_of, operator_of, step_of, converted, conv_of}
use Rattle.scalar.proofs.Promises.{entry, convert_typed}
use Rattle.scalar.proofs.Reread.{truth}

-- ---- by name: each code's operator is what the contract of the Rust's name says
pub named : (stage : ShaderStage) (l r : Scalar) → (
    map (λ op. operator_of op stage l r) (1 ∷ 2 ∷ 3 ∷ 4 ∷ 5 ∷ 6 ∷ 7 ∷ 8 ∷ 9 ∷ 10 ∷ 11 ∷ 12 ∷ 13 ∷ 14 ∷ 15 ∷ 16 ∷ 17 ∷ 18 ∷ [])
    ≡ or_of (pair_of l r) ∷ and_of (pair_of l r)
    ∷ add_of stage (common_of l r) ∷ sub_of stage (common_of l r) ∷ mul_of stage (common_of l r) ∷ div_of stage (common_of l r) ∷ rem_of stage (common_of l r)
    ∷ eq_of (common_of l r) ∷ ne_of (common_of l r) ∷ lt_of (common_of l r) ∷ le_of (common_of l r) ∷ gt_of (common_of l r) ∷ ge_of (common_of l r)
    ∷ bit_or_of (common_of l r) ∷ bit_and_of (common_of l r) ∷ bit_xor_of (common_of l r)
    ∷ shl_of stage l (convert_to 4 r) ∷ shr_of stage l (convert_to 4 r) ∷ [])
named stage l r = refl

pub unary_named : (s : Scalar) → map (λ op. unary_of op s) (1 ∷ 2 ∷ 3 ∷ []) ≡ not_of s ∷ neg_of s ∷ bit_not_of s ∷ []
unary_named s = refl

-- ---- patterns read back
-- the pattern of a scalar that its type holds is read as that scalar, a NaN as it is kept
pub scalar_back : (s : Scalar) → Sound s → scalar_of (type_of s) (bits_of s) ≡ Some (kept_scalar s)
scalar_back s h = sym (picked (scalar_at (type_of s) (bits_of s)) None (bits_proper s h)) ∙ at s h
  where
    at : (s : Scalar) → Sound s → scalar_at (type_of s) (bits_of s) ≡ Some (kept_scalar s)
    at (bool x) h = ap (λ (t : Bool). Some (bool t)) (truth x)
    at (AbstractInt x) h = ap (λ (z : ℤ). Some (AbstractInt z)) (to_z-of_z w64 x h)
    at (AbstractFloat x) h = ap (λ (x : Float). Some (AbstractFloat x)) (bits_back binary64 x h)
    at (I32 x) h = ap (λ (z : ℤ). Some (I32 z)) (to_z-of_z w32 x h)
    at (U32 n) h = refl
    at (F32 x) h = ap (λ (x : Float). Some (F32 x)) (bits_back binary32 x h)
    at (F16 b) h = ap (λ (n : ℕ). Some (F16 n)) (kept_once 6 b)

-- ---- conversions
-- a scalar that is there has its NaN kept
abbrev KeptFound : Option Scalar → Type 0
KeptFound (Some u) = kept_scalar u ≡ u
KeptFound None = Unit {0}

found_kept : (t : Bool) (s : Scalar) → (t ≡ true → kept_scalar s ≡ s) → KeptFound (pick t (Some s) None)
found_kept true s h = h refl
found_kept false s h = tt

-- a finite F16 is no NaN
finite_kept : (b : ℕ) → finite_of (F16 b) ≡ true → kept_of 6 b ≡ b
unfolding kept_of
finite_kept b h = go (nan_pattern half b) refl
  where
    go : (t : Bool) → nan_pattern half b ≡ t → pick t 0x7E00 b ≡ b
    go true e = absurd (true≢false (sym h ∙ ap finite (half_reads b (ltb-true 31744 _ e))))
    go false e = refl

half_found : (b : ℕ) → KeptFound (pick (finite_of (F16 b)) (Some (F16 b)) None)
half_found b = found_kept (finite_of (F16 b)) (F16 b) (λ e. ap F16 (finite_kept b e))

kept_twice : (s : Scalar) → kept_scalar (kept_scalar s) ≡ kept_scalar s
kept_twice s =
    elim s as (λ s. kept_scalar (kept_scalar s) ≡ kept_scalar s) [ bool x ↦ refl | AbstractInt x ↦ refl | AbstractFloat x ↦ refl | I32 x ↦ refl | U32 x ↦ refl | F32 x ↦ refl | F16 x ↦ ap F16 (kept_once 6 x) ]

stands_kept : (to : ℕ) (s : Scalar) → KeptFound (stands to s)
stands_kept to s = found_kept (eqb (type_of s) to) (kept_scalar s) (λ e. kept_twice s)

-- every conversion gives a NaN as it is kept
pub conversion_kept : (to : ℕ) (s : Scalar) → KeptFound (convert_to to s)
conversion_kept to (bool x) = stands_kept to (bool x)
conversion_kept to (AbstractInt x) =
    entry (λ i f. KeptFound f) (None ∷ targets x) None (λ i. tt) tt refl
    (found_kept (finite (of_integer double x)) (AbstractFloat (of_integer double x)) (λ e. refl))
    (found_kept (in_signed w32 x) (I32 x) (λ e. refl)) (found_kept (in_natural w32 x) (U32 (nat_abs x)) (λ e. refl))
    (found_kept (finite (of_integer single x)) (F32 (of_integer single x)) (λ e. refl)) (half_found (to_bits half (of_integer half x))) to
conversion_kept to (AbstractFloat x) =
    entry (λ i f. KeptFound f) (None ∷ None ∷ Some (AbstractFloat x) ∷ None ∷ None ∷ float_to_f32 x ∷ float_to_f16 x ∷ []) None (λ i. tt)
    tt tt refl tt tt (found_kept (finite (convert single x)) (F32 (convert single x)) (λ e. refl)) (half_found (to_bits half (convert half x))) to
conversion_kept to (I32 x) = stands_kept to (I32 x)
conversion_kept to (U32 x) = stands_kept to (U32 x)
conversion_kept to (F32 x) = stands_kept to (F32 x)
conversion_kept to (F16 x) = stands_kept to (F16 x)

-- whether a NaN was kept before is nothing to a conversion
kept_before : (to : ℕ) (s : Scalar) → convert_to to (kept_scalar s) ≡ convert_to to s
kept_before to s =
    elim s as (λ s. convert_to to (kept_scalar s) ≡ convert_to to s) [
      | bool x ↦ refl
      | AbstractInt x ↦ refl
      | AbstractFloat x ↦ refl
      | I32 x ↦ refl
      | U32 x ↦ refl
      | F32 x ↦ refl
      | F16 x ↦ ap (λ (n : ℕ). pick (eqb 6 to) (Some (F16 n)) None) (kept_once 6 x)
    ]

-- a scalar's pattern converts as the scalar does
pub conversion_back : (to : ℕ) (s : Scalar) → Sound s → conv_of (type_of s) to (bits_of s) ≡ converted (convert_to to s)
unfolding conv_of
conversion_back to s h = ap (λ (f : Option Scalar). option_and_then (λ s. converted (convert_to to s)) f) (scalar_back s h) ∙ ap converted (kept_before to s)

-- and the converted scalar's pattern is read as it
pub target_back : (to : ℕ) (s u : Scalar) → Sound s → convert_to to s ≡ Some u → scalar_of to (bits_of u) ≡ Some u
target_back to s u h e =
    let k : OfType to (Some u) = subst (OfType to) e (convert_typed to s h) in
    let q : KeptFound (Some u) = subst KeptFound e (conversion_kept to s) in
    subst (λ (t : ℕ). scalar_of t (bits_of u) ≡ Some u) k.0 (scalar_back u k.1 ∙ ap Some q)

-- the own type: the scalar stands, its NaN kept
pub own_type : (s : Scalar) → convert_to (type_of s) s ≡ Some (kept_scalar s)
own_type s = elim s as (λ s. convert_to (type_of s) s ≡ Some (kept_scalar s)) [ bool x ↦ refl | AbstractInt x ↦ refl | AbstractFloat x ↦ refl | I32 x ↦ refl | U32 x ↦ refl | F32 x ↦ refl | F16 x ↦ refl ]

-- ---- steps
module _ (op stage ty : ℕ) (u v : Scalar) (p : scalar_of ty (bits_of u) ≡ Some u) where
  pub step_pair : leb 17 op ≡ false → scalar_of ty (bits_of v) ≡ Some v → step_of op stage ty (bits_of u) (bits_of v) ≡ stepped (binary_of op (stage_of stage) (pair_of u v))
  unfolding step_of
  step_pair t q = sym (passed _ _ t) ∙ (λ i. stepped (binary_of op (stage_of stage) (both_of (p i) (q i))))

  pub step_shift : leb 17 op ≡ true → scalar_of 4 (bits_of v) ≡ Some v
      → step_of op stage ty (bits_of u) (bits_of v) ≡ stepped (shift_of op (stage_of stage) (Some u) (Some v))
  unfolding step_of
  step_shift t q = sym (picked _ _ t) ∙ (λ i. stepped (shift_of op (stage_of stage) (p i) (q i)))

-- operands with no common type
pub none_binary : (op : ℕ) (stage : ShaderStage) → binary_of op stage None ≡ binary
none_binary op stage =
    entry (λ i r. r ≡ binary) (binary ∷ binaries stage None) binary (λ i. refl) refl refl refl refl refl refl refl refl refl refl refl refl refl refl refl refl refl op

-- a count that has no conversion; a left operand whose NaN is kept
pub no_count : (op : ℕ) (stage : ShaderStage) (s : Scalar) → shift_of op stage (Some s) None ≡ binary
no_count op stage s = go (eqb op 17) (eqb op 18)
  where
    go : (a b : Bool) → pick a binary (pick b binary binary) ≡ binary
    go true b = refl
    go false true = refl
    go false false = refl

pub shift_kept_left : (op : ℕ) (stage : ShaderStage) (s : Scalar) (count : Option Scalar) → shift_of op stage (Some (kept_scalar s)) count ≡ shift_of op stage (Some s) count
shift_kept_left op stage s count =
    elim s as (λ s. shift_of op stage (Some (kept_scalar s)) count ≡ shift_of op stage (Some s) count) [ bool x ↦ refl | AbstractInt x ↦ refl | AbstractFloat x ↦ refl | I32 x ↦ refl | U32 x ↦ refl | F32 x ↦ refl | F16 x ↦ refl ]

-- a type that is neither the own nor one that the own goes to: what `goes_to` says of types, conversions do to values
first_off : (a b : Bool) → (a || b) ≡ false → a ≡ false
first_off true b e = e
first_off false b e = refl

stood : (ty : ℕ) (s : Scalar) → (eqb (type_of s) ty || goes_to (type_of s) ty) ≡ false → stands ty s ≡ None
stood ty s e = sym (passed _ _ (first_off (eqb (type_of s) ty) (goes_to (type_of s) ty) e))

pub no_conversion : (ty : ℕ) (s : Scalar) → (eqb (type_of s) ty || goes_to (type_of s) ty) ≡ false → convert_to ty s ≡ None
no_conversion ty (bool x) e = stood ty (bool x) e
no_conversion ty (AbstractInt x) e =
    by_code (λ ty. (eqb 1 ty || goes_to 1 ty) ≡ false → from_int ty x ≡ None) (λ e. refl) (λ e. absurd (true≢false e)) (λ e. absurd (true≢false e))
    (λ e. absurd (true≢false e)) (λ e. absurd (true≢false e)) (λ e. absurd (true≢false e)) (λ e. absurd (true≢false e)) (λ n e. refl) ty e
no_conversion ty (AbstractFloat x) e =
    by_code (λ ty. (eqb 2 ty || goes_to 2 ty) ≡ false → from_float ty x ≡ None) (λ e. refl) (λ e. refl) (λ e. absurd (true≢false e)) (λ e. refl)
    (λ e. refl) (λ e. absurd (true≢false e)) (λ e. absurd (true≢false e)) (λ n e. refl) ty e
no_conversion ty (I32 x) e = stood ty (I32 x) e
no_conversion ty (U32 x) e = stood ty (U32 x) e
no_conversion ty (F32 x) e = stood ty (F32 x) e
no_conversion ty (F16 x) e = stood ty (F16 x) e

-- ---- `|| &&`: Bool scalars alone, with or without the common type
module _ (f : Bool → Bool → Bool) where
  -- a pair of which one part is no Bool
  right_part : (a s : Scalar) → (type_of s ≡ 0 → ⊥) → logical f (pair_of a s) ≡ binary
  right_part a (bool y) h = absurd (h refl)
  right_part a (AbstractInt y) h = elim a as (λ a. logical f (pair_of a (AbstractInt y)) ≡ binary) [ bool x ↦ refl | AbstractInt x ↦ refl | AbstractFloat x ↦ refl | I32 x ↦ refl | U32 x ↦ refl | F32 x ↦ refl | F16 x ↦ refl ]
  right_part a (AbstractFloat y) h = elim a as (λ a. logical f (pair_of a (AbstractFloat y)) ≡ binary) [ bool x ↦ refl | AbstractInt x ↦ refl | AbstractFloat x ↦ refl | I32 x ↦ refl | U32 x ↦ refl | F32 x ↦ refl | F16 x ↦ refl ]
  right_part a (I32 y) h = elim a as (λ a. logical f (pair_of a (I32 y)) ≡ binary) [ bool x ↦ refl | AbstractInt x ↦ refl | AbstractFloat x ↦ refl | I32 x ↦ refl | U32 x ↦ refl | F32 x ↦ refl | F16 x ↦ refl ]
  right_part a (U32 y) h = elim a as (λ a. logical f (pair_of a (U32 y)) ≡ binary) [ bool x ↦ refl | AbstractInt x ↦ refl | AbstractFloat x ↦ refl | I32 x ↦ refl | U32 x ↦ refl | F32 x ↦ refl | F16 x ↦ refl ]
  right_part a (F32 y) h = elim a as (λ a. logical f (pair_of a (F32 y)) ≡ binary) [ bool x ↦ refl | AbstractInt x ↦ refl | AbstractFloat x ↦ refl | I32 x ↦ refl | U32 x ↦ refl | F32 x ↦ refl | F16 x ↦ refl ]
  right_part a (F16 y) h = elim a as (λ a. logical f (pair_of a (F16 y)) ≡ binary) [ bool x ↦ refl | AbstractInt x ↦ refl | AbstractFloat x ↦ refl | I32 x ↦ refl | U32 x ↦ refl | F32 x ↦ refl | F16 x ↦ refl ]

  left_part : (s a : Scalar) → (type_of s ≡ 0 → ⊥) → logical f (pair_of s a) ≡ binary
  left_part (bool y) a h = absurd (h refl)
  left_part (AbstractInt y) a h = elim a as (λ a. logical f (pair_of (AbstractInt y) a) ≡ binary) [ bool x ↦ refl | AbstractInt x ↦ refl | AbstractFloat x ↦ refl | I32 x ↦ refl | U32 x ↦ refl | F32 x ↦ refl | F16 x ↦ refl ]
  left_part (AbstractFloat y) a h = elim a as (λ a. logical f (pair_of (AbstractFloat y) a) ≡ binary) [ bool x ↦ refl | AbstractInt x ↦ refl | AbstractFloat x ↦ refl | I32 x ↦ refl | U32 x ↦ refl | F32 x ↦ refl | F16 x ↦ refl ]
  left_part (I32 y) a h = elim a as (λ a. logical f (pair_of (I32 y) a) ≡ binary) [ bool x ↦ refl | AbstractInt x ↦ refl | AbstractFloat x ↦ refl | I32 x ↦ refl | U32 x ↦ refl | F32 x ↦ refl | F16 x ↦ refl ]
  left_part (U32 y) a h = elim a as (λ a. logical f (pair_of (U32 y) a) ≡ binary) [ bool x ↦ refl | AbstractInt x ↦ refl | AbstractFloat x ↦ refl | I32 x ↦ refl | U32 x ↦ refl | F32 x ↦ refl | F16 x ↦ refl ]
  left_part (F32 y) a h = elim a as (λ a. logical f (pair_of (F32 y) a) ≡ binary) [ bool x ↦ refl | AbstractInt x ↦ refl | AbstractFloat x ↦ refl | I32 x ↦ refl | U32 x ↦ refl | F32 x ↦ refl | F16 x ↦ refl ]
  left_part (F16 y) a h = elim a as (λ a. logical f (pair_of (F16 y) a) ≡ binary) [ bool x ↦ refl | AbstractInt x ↦ refl | AbstractFloat x ↦ refl | I32 x ↦ refl | U32 x ↦ refl | F32 x ↦ refl | F16 x ↦ refl ]

  right_found : (a : Option Scalar) (s : Scalar) → (type_of s ≡ 0 → ⊥) → logical f (both_of a (Some s)) ≡ binary
  right_found (Some a) s h = right_part a s h
  right_found None s h = refl

  left_found : (s : Scalar) (a : Option Scalar) → (type_of s ≡ 0 → ⊥) → logical f (both_of (Some s) a) ≡ binary
  left_found s (Some a) h = left_part s a h
  left_found s None h = refl

  pub logical_common : (l r : Scalar) → logical f (common_of l r) ≡ logical f (pair_of l r)
  unfolding common_type common_of
  logical_common (bool x) r = elim r as (λ r. logical f (common_of (bool x) r) ≡ logical f (pair_of (bool x) r)) [ bool y ↦ refl | AbstractInt y ↦ refl | AbstractFloat y ↦ refl | I32 y ↦ refl | U32 y ↦ refl | F32 y ↦ refl | F16 y ↦ refl ]
  logical_common (AbstractInt x) r =
      elim r as (λ r. logical f (common_of (AbstractInt x) r) ≡ logical f (pair_of (AbstractInt x) r)) [
        | bool y ↦ refl
        | AbstractInt y ↦ refl
        | AbstractFloat y ↦ right_found (from_int 2 x) (AbstractFloat y) (λ e. omega (arith, e))
        | I32 y ↦ right_found (from_int 3 x) (I32 y) (λ e. omega (arith, e))
        | U32 y ↦ right_found (from_int 4 x) (U32 y) (λ e. omega (arith, e))
        | F32 y ↦ right_found (from_int 5 x) (F32 y) (λ e. omega (arith, e))
        | F16 y ↦ right_found (from_int 6 x) (kept_scalar (F16 y)) (λ e. omega (arith, e))
      ]
  logical_common (AbstractFloat x) r =
      elim r as (λ r. logical f (common_of (AbstractFloat x) r) ≡ logical f (pair_of (AbstractFloat x) r)) [
        | bool y ↦ refl
        | AbstractInt y ↦ left_found (AbstractFloat x) (from_int 2 y) (λ e. omega (arith, e))
        | AbstractFloat y ↦ refl
        | I32 y ↦ refl
        | U32 y ↦ refl
        | F32 y ↦ right_found (from_float 5 x) (F32 y) (λ e. omega (arith, e))
        | F16 y ↦ right_found (from_float 6 x) (kept_scalar (F16 y)) (λ e. omega (arith, e))
      ]
  logical_common (I32 x) r =
      elim r as (λ r. logical f (common_of (I32 x) r) ≡ logical f (pair_of (I32 x) r)) [
        | bool y ↦ refl
        | AbstractInt y ↦ left_found (I32 x) (from_int 3 y) (λ e. omega (arith, e))
        | AbstractFloat y ↦ refl
        | I32 y ↦ refl
        | U32 y ↦ refl
        | F32 y ↦ refl
        | F16 y ↦ refl
      ]
  logical_common (U32 x) r =
      elim r as (λ r. logical f (common_of (U32 x) r) ≡ logical f (pair_of (U32 x) r)) [
        | bool y ↦ refl
        | AbstractInt y ↦ left_found (U32 x) (from_int 4 y) (λ e. omega (arith, e))
        | AbstractFloat y ↦ refl
        | I32 y ↦ refl
        | U32 y ↦ refl
        | F32 y ↦ refl
        | F16 y ↦ refl
      ]
  logical_common (F32 x) r =
      elim r as (λ r. logical f (common_of (F32 x) r) ≡ logical f (pair_of (F32 x) r)) [
        | bool y ↦ refl
        | AbstractInt y ↦ left_found (F32 x) (from_int 5 y) (λ e. omega (arith, e))
        | AbstractFloat y ↦ left_found (F32 x) (from_float 5 y) (λ e. omega (arith, e))
        | I32 y ↦ refl
        | U32 y ↦ refl
        | F32 y ↦ refl
        | F16 y ↦ refl
      ]
  logical_common (F16 x) r =
      elim r as (λ r. logical f (common_of (F16 x) r) ≡ logical f (pair_of (F16 x) r)) [
        | bool y ↦ refl
        | AbstractInt y ↦ left_found (kept_scalar (F16 x)) (from_int 6 y) (λ e. omega (arith, e))
        | AbstractFloat y ↦ left_found (kept_scalar (F16 x)) (from_float 6 y) (λ e. omega (arith, e))
        | I32 y ↦ refl
        | U32 y ↦ refl
        | F32 y ↦ refl
        | F16 y ↦ refl
      ]

-- so every code before the shifts' may be said over the common type
pub operator_common : (op : ℕ) (stage : ShaderStage) (l r : Scalar) → leb 17 op ≡ false → operator_of op stage l r ≡ binary_of op stage (common_of l r)
operator_common op stage l r t = sym (passed _ _ t) ∙ go op
  where
    go : (op : ℕ) → binary_of op stage (pick (leb op 2) (pair_of l r) (common_of l r)) ≡ binary_of op stage (common_of l r)
    go zero = refl
    go (suc zero) = sym (logical_common ◌||◌ l r)
    go (suc (suc zero)) = sym (logical_common ◌&&◌ l r)
    go (suc (suc (suc n))) = ap (λ (t : Bool). binary_of (suc (suc (suc n))) stage (pick t (pair_of l r) (common_of l r))) (lt-leb (suc (suc (suc n))) 2 (omega arith))

pub operator_shift : (op : ℕ) (stage : ShaderStage) (l r : Scalar) → leb 17 op ≡ true → operator_of op stage l r ≡ shift_of op stage (Some l) (convert_to 4 r)
operator_shift op stage l r t = sym (picked _ _ t)

-- ---- unary operators
-- a NaN of F16 is read alike, kept or not
half_kept : (b : ℕ) → of_bits half (kept_of 6 b) ≡ of_bits half b
unfolding kept_of
half_kept b = go (nan_pattern half b) refl
  where
    go : (t : Bool) → nan_pattern half b ≡ t → of_bits half (pick t 0x7E00 b) ≡ of_bits half b
    go true e = half_reads 0x7E00 (omega arith) ∙ sym (half_reads b (ltb-true 31744 _ e))
    go false e = refl

unary_kept_same : (op : ℕ) (s : Scalar) → unary_of op (kept_scalar s) ≡ unary_of op s
unary_kept_same op s =
    elim s as (λ s. unary_of op (kept_scalar s) ≡ unary_of op s) [
      | bool x ↦ refl
      | AbstractInt x ↦ refl
      | AbstractFloat x ↦ refl
      | I32 x ↦ refl
      | U32 x ↦ refl
      | F32 x ↦ refl
      | F16 x ↦ ap (λ (v : Float). get_or (unary ∷ unary ∷ value (F16 (to_bits half (neg v))) ∷ unary ∷ []) op unary) (half_kept x)
    ]

-- a unary step on a scalar's pattern answers what the operator answers on the scalar
pub unary_back : (op : ℕ) (s : Scalar) → Sound s → unary_step_of op (type_of s) (bits_of s) ≡ stepped (unary_of op s)
unfolding unary_step_of
unary_back op s h = ap (λ (f : Option Scalar). stepped (on_scalar f (unary_of op) unary)) (scalar_back s h) ∙ ap stepped (unary_kept_same op s)
