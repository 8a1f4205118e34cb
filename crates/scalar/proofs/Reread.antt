-- A conversion to the same type gives a pattern that is read as the same scalar, so no step tells the two apart. Assumes nothing.
use Prim.Native.Nat.{ℕ, ◌≤◌}
use mathlib.Core.Path.{◌≡◌, refl, sym, ap, subst, ◌∙◌}
use mathlib.Core.Bool.{Bool, true, false}
use native.Mathlib.Omega.{arith}
use lib.Dec.{eqb, leb}
use lib.IntN.{ℤ}
use lib.ListN.{get_or}
use lib.Ieee.{binary32, binary64}
use mir.Syntax.{w32, w64}
use mir.Val.{to_z}
use mir.ValLaws.{to_z-of_z}
use Rattle.std.specs.Prelude.{Option, Some, None, option_and_then}
use Rattle.rounding.specs.Kind.{single, double}
use Rattle.rounding.specs.Bits.{of_bits}
use Rattle.rounding.proofs.Back.{bits_back}
use Rattle.value.specs.declared.Scalar.{Scalar}
use Rattle.value.specs.declared.Scalar.TheVariants.{Bool as bool, AbstractInt, AbstractFloat, I32, U32, F32, F16}
use Rattle.value.specs.Pattern.{pick, proper_of, kept_of}
use Rattle.conversion.specs.Convert.{convert_to}
use Rattle.value.specs.Pair.{both_of}
use Rattle.value.specs.Scalar.{bits_of, scalars, scalar_of}
use Rattle.value.specs.Answer.{stage_of}
use Rattle.scalar.specs.Step.{Step, stepped, binary_of, shift_of, step_of, converted, conv_of}
use Rattle.types.proofs.Choice.{picked}
use Rattle.types.proofs.Rows.{by_code}
use Rattle.value.proofs.Sound.{Sound, OfType, of_type, bits_proper, kept_once}

-- ---- one pattern
-- the bits of a scalar, where there is one
abbrev pub found_bits : Option Scalar → ℕ
found_bits (Some s) = bits_of s
found_bits None = 0

-- the bits of the scalar that a pattern stands for
abbrev pub again : ℕ → ℕ → ℕ
again ty b = found_bits (scalar_of ty b)

-- a conversion to the same type gives those bits, and they stand for the same scalar
abbrev pub Rereads : ℕ → ℕ → Type 0
Rereads ty b = (conv_of ty ty b ≡ Some (again ty b)) × (scalar_of ty (again ty b) ≡ scalar_of ty b)

-- from the type's scalar of the pattern and of its bits
reread_by : (ty b : ℕ) (s : Scalar) → proper_of ty b ≡ true → get_or (scalars b) ty None ≡ Some s → convert_to ty s ≡ Some s
    → (Sound s → get_or (scalars (bits_of s)) ty None ≡ Some s) → Rereads ty b
unfolding conv_of
reread_by ty b s h g c q =
    let e : scalar_of ty b ≡ Some s = sym (picked (get_or (scalars b) ty None) None h) ∙ g in
    let k : OfType ty (Some s) = subst (OfType ty) e (of_type ty b) in
    let p : proper_of ty (bits_of s) ≡ true = subst (λ (t : ℕ). proper_of t (bits_of s) ≡ true) k.0 (bits_proper s k.1) in
    let r : scalar_of ty (bits_of s) ≡ Some s = sym (picked (get_or (scalars (bits_of s)) ty None) None p) ∙ q k.1 in (
      ap (λ (f : Option Scalar). option_and_then (λ s. converted (convert_to ty s)) f) e ∙ ap converted c ∙ sym (ap (λ (f : Option Scalar). Some (found_bits f)) e),
      ap (λ (f : Option Scalar). scalar_of ty (found_bits f)) e ∙ r ∙ sym e,
    )

-- of a Bool's two patterns
pub truth : (t : Bool) → eqb (pick t 1 0) 1 ≡ t
truth true = refl
truth false = refl

-- every proper pattern of a known type
pub rereads : (ty b : ℕ) → ty ≤ 6 → proper_of ty b ≡ true → Rereads ty b
rereads ty b =
    by_code (λ ty. ty ≤ 6 → proper_of ty b ≡ true → Rereads ty b)
    (λ k h. reread_by 0 b (bool (eqb b 1)) h refl refl (λ q. ap (λ (t : Bool). Some (bool t)) (truth (eqb b 1))))
    (λ k h. reread_by 1 b (AbstractInt (to_z w64 b)) h refl refl (λ q. ap (λ (z : ℤ). Some (AbstractInt z)) (to_z-of_z w64 (to_z w64 b) q)))
    (λ k h. reread_by 2 b (AbstractFloat (of_bits double b)) h refl refl (λ q. ap (λ x. Some (AbstractFloat x)) (bits_back binary64 (of_bits double b) q)))
    (λ k h. reread_by 3 b (I32 (to_z w32 b)) h refl refl (λ q. ap (λ (z : ℤ). Some (I32 z)) (to_z-of_z w32 (to_z w32 b) q)))
    (λ k h. reread_by 4 b (U32 b) h refl refl (λ q. refl))
    (λ k h. reread_by 5 b (F32 (of_bits single b)) h refl refl (λ q. ap (λ x. Some (F32 x)) (bits_back binary32 (of_bits single b) q)))
    (λ k h. reread_by 6 b (F16 (kept_of 6 b)) h refl (ap (λ (n : ℕ). Some (F16 n)) (kept_once 6 b)) (λ q. ap (λ (n : ℕ). Some (F16 n)) (kept_once 6 (kept_of 6 b) ∙ kept_once 6 b)))
    (λ n k h. absurd (omega arith)) ty

-- ---- one step
-- the type of an operator's right pattern: a shift's is a U32
abbrev pub right_type : ℕ → ℕ → ℕ
right_type op ty = pick (leb 17 op) 4 ty

-- an operator on two scalars, as a step: a shift, and any other
abbrev shifted : ℕ → ℕ → Option Scalar → Option Scalar → Step
shifted op stage x y = stepped (shift_of op (stage_of stage) x y)

abbrev paired : ℕ → ℕ → Option Scalar → Option Scalar → Step
paired op stage x y = stepped (binary_of op (stage_of stage) (both_of x y))

-- a step on patterns that stand for the same scalars is the same step
pub step_alike : (op stage ty l k r q : ℕ) → scalar_of ty l ≡ scalar_of ty k → scalar_of (right_type op ty) r ≡ scalar_of (right_type op ty) q
    → step_of op stage ty l r ≡ step_of op stage ty k q
unfolding step_of
step_alike op stage ty l k r q e f = go (leb 17 op) f
  where
    go : (t : Bool) → scalar_of (pick t 4 ty) r ≡ scalar_of (pick t 4 ty) q
        → pick t (shifted op stage (scalar_of ty l) (scalar_of 4 r)) (paired op stage (scalar_of ty l) (scalar_of ty r))
        ≡ pick t (shifted op stage (scalar_of ty k) (scalar_of 4 q)) (paired op stage (scalar_of ty k) (scalar_of ty q))
    go true f = λ i. shifted op stage (e i) (f i)
    go false f = λ i. paired op stage (e i) (f i)
