-- What a refused shift carries: the left operand as it was given, in its own type. Assumes nothing.
use Prim.Native.Nat.{ℕ, ◌*◌, ◌/◌, ◌^◌}
use mathlib.Core.Path.{◌≡◌, refl, sym, ap, ◌∙◌}
use mathlib.Core.Bool.{Bool, true, false, false≢true}
use native.Mathlib.Omega.{arith}
use lib.Dec.{eqb, leb}
use lib.IntN.{pos, ◌*ℤ◌}
use lib.Signed.{shr_z}
use borrow.Author.Tests.{ltb-true}
use mir.Syntax.{w32, w64}
use mir.Val.{to_z}
use mir.ValLaws.{of_z-to_z}
use Rattle.std.specs.Prelude.{Option, Some, None, Err}
use Rattle.integer.specs.Range.{in_signed}
use Rattle.shift.specs.Shift.{shl_over, shl_over_u}
use Rattle.types.specs.Types.{integer_of}
use Rattle.types.proofs.Choice.{picked}
use Rattle.types.proofs.Rows.{by_code}
use Rattle.value.specs.declared.Scalar.{Scalar}
use Rattle.value.specs.declared.Scalar.TheVariants.{Bool as bool, AbstractInt, AbstractFloat, I32, U32, F32, F16}
use Rattle.value.specs.declared.ShaderStage.{ShaderStage}
use Rattle.value.specs.declared.Refusal.{Refusal}
use Rattle.value.specs.Answer.{Result, value, refused, shift_refused, binary, carries, strict, stage_of}
use Rattle.value.specs.Pattern.{pick, proper_of}
use Rattle.value.specs.Scalar.{type_of, bits_of, scalar_at, scalar_of}
use Rattle.bitwise.specs.Shift.{shl_overflow, shr_overflow, by_count, shl_by, shr_by, shl_of, shr_of}
use Rattle.scalar.specs.Step.{stepped, shift_of, step_of}

-- an operand that a result carries is s
abbrev Carries : Scalar → Result → Type 0
Carries s (value v) = Unit {0}
Carries s (refused r) = carries r.number ≡ false
Carries s (shift_refused n d l) = l ≡ s

one_of : (s : Scalar) (t : Bool) (a b : Result) → Carries s a → Carries s b → Carries s (pick t a b)
one_of s true a b h k = h
one_of s false a b h k = k

shl_carries : (stage : ShaderStage) (s : Scalar) (n : ℕ) → Carries s (shl_by stage s n)
shl_carries stage s n =
    elim s as (λ s. Carries s (shl_by stage s n)) [
      | bool x ↦ one_of _ (strict stage) _ _ refl refl
      | AbstractInt x ↦ one_of _ (strict stage) _ _ (one_of _ (in_signed w64 (x *ℤ pos (2 ^ n))) (value (AbstractInt (x *ℤ pos (2 ^ n)))) (shl_overflow n (AbstractInt x)) tt refl) tt
      | AbstractFloat x ↦ one_of _ (strict stage) _ _ refl refl
      | I32 x ↦ one_of _ (strict stage) _ _ (one_of _ (shl_over w32 x n) (shl_overflow n (I32 x)) (value (I32 (x *ℤ pos (2 ^ n)))) refl tt) tt
      | U32 x ↦ one_of _ (strict stage) _ _ (one_of _ (shl_over_u w32 x n) (shl_overflow n (U32 x)) (value (U32 (x * 2 ^ n))) refl tt) tt
      | F32 x ↦ one_of _ (strict stage) _ _ refl refl
      | F16 x ↦ one_of _ (strict stage) _ _ refl refl
    ]

shr_carries : (stage : ShaderStage) (s : Scalar) (n : ℕ) → Carries s (shr_by stage s n)
shr_carries stage s n =
    elim s as (λ s. Carries s (shr_by stage s n)) [
      | bool x ↦ one_of _ (strict stage) _ _ refl refl
      | AbstractInt x ↦ one_of _ (strict stage) _ _ tt tt
      | AbstractFloat x ↦ one_of _ (strict stage) _ _ refl refl
      | I32 x ↦ one_of _ (strict stage) _ _ (one_of _ (leb 32 n) (shr_overflow n (I32 x)) (value (I32 (shr_z x (2 ^ n)))) refl tt) tt
      | U32 x ↦ one_of _ (strict stage) _ _ (one_of _ (leb 32 n) (shr_overflow n (U32 x)) (value (U32 (x / 2 ^ n))) refl tt) tt
      | F32 x ↦ one_of _ (strict stage) _ _ refl refl
      | F16 x ↦ one_of _ (strict stage) _ _ refl refl
    ]

counted : (s : Scalar) (count : Option Scalar) (by : ℕ → Result) → ((n : ℕ) → Carries s (by n)) → Carries s (by_count count by)
counted s None by h = refl
counted s (Some c) by h = elim c as (λ c. Carries s (by_count (Some c) by)) [ bool x ↦ refl | AbstractInt x ↦ refl | AbstractFloat x ↦ refl | I32 x ↦ refl | U32 n ↦ h n | F32 x ↦ refl | F16 x ↦ refl ]

shift_carries : (op : ℕ) (stage : ShaderStage) (s : Scalar) (count : Option Scalar) → Carries s (shift_of op stage (Some s) count)
shift_carries op stage s count =
    one_of s (eqb op 17) (shl_of stage s count) (pick (eqb op 18) (shr_of stage s count) binary) (counted s count (shl_by stage s) (shl_carries stage s))
    (one_of s (eqb op 18) (shr_of stage s count) binary (counted s count (shr_by stage s) (shr_carries stage s)) refl)

-- so says the step: its refusal has the type and bits of s
told : (s : Scalar) (x : Result) (q : Refusal) → Carries s x → stepped x ≡ Err q → carries q.number ≡ true → (q.ty ≡ type_of s) × (q.bits ≡ bits_of s)
told s (value v) q h e c = let z : ◌≡◌ {A = ℕ} 0 1 = cc in absurd (omega arith)
told s (refused r) q h e c = let z : r ≡ q = cc in absurd (false≢true (sym h ∙ ap (λ (r : Refusal). carries r.number) z ∙ c))
told s (shift_refused n d l) q h e c =
    let z : record { number = n; detail = d; ty = type_of l; bits = bits_of l } ≡ q = cc in
    (sym (ap (λ (r : Refusal). r.ty) z) ∙ ap type_of h, sym (ap (λ (r : Refusal). r.bits) z) ∙ ap bits_of h)

-- an integer's proper pattern is that of its scalar
module _ (op stage l r : ℕ) (q : Refusal) (past : leb 17 op ≡ true) where
  by_scalar : (ty : ℕ) (s : Scalar) → proper_of ty l ≡ true → scalar_at ty l ≡ Some s → type_of s ≡ ty → bits_of s ≡ l → step_of op stage ty l r ≡ Err q
      → carries q.number ≡ true → (q.ty ≡ ty) × (q.bits ≡ l)
  unfolding step_of
  by_scalar ty s h g t b e c =
      let f : scalar_of ty l ≡ Some s = sym (picked (scalar_at ty l) None h) ∙ g in
      let x = shift_of op (stage_of stage) (Some s) (scalar_of 4 r) in
      let k : stepped x ≡ Err q = ap (λ (f : Option Scalar). stepped (shift_of op (stage_of stage) f (scalar_of 4 r))) (sym f) ∙ picked _ _ past ∙ e in
      let w = told s x q (shift_carries op (stage_of stage) s (scalar_of 4 r)) k c in
      (w.0 ∙ t, w.1 ∙ b)

  -- a refusal of a shift carries the left pattern, and its type is its own
  pub carried_left : (ty : ℕ) → integer_of ty ≡ true → proper_of ty l ≡ true → step_of op stage ty l r ≡ Err q → carries q.number ≡ true → (q.ty ≡ ty) × (q.bits ≡ l)
  carried_left =
      by_code (λ ty. integer_of ty ≡ true → proper_of ty l ≡ true → step_of op stage ty l r ≡ Err q → carries q.number ≡ true → (q.ty ≡ ty) × (q.bits ≡ l))
      (λ i. absurd (false≢true i))
      (λ i h. by_scalar 1 (AbstractInt (to_z w64 l)) h refl refl (of_z-to_z w64 l (record { fits = ltb-true l 18446744073709551616 h })))
      (λ i. absurd (false≢true i))
      (λ i h. by_scalar 3 (I32 (to_z w32 l)) h refl refl (of_z-to_z w32 l (record { fits = ltb-true l 4294967296 h })))
      (λ i h. by_scalar 4 (U32 l) h refl refl refl)
      (λ i. absurd (false≢true i)) (λ i. absurd (false≢true i)) (λ n i. absurd (false≢true i))
