-- Operands of `|| &&` that have no right to them. Assumes nothing.
use Rattle.std.proofs.Common.{◌≡◌, ℕ, Bool, refl}
use Rattle.value.specs.declared.Scalar.{Scalar}
use Rattle.value.specs.declared.Scalar.TheVariants.{Bool as bool, AbstractInt, AbstractFloat, I32, U32, F32, F16}
use Rattle.value.specs.Answer.{Result}
use Rattle.value.specs.Pair.{pair_of}
use Rattle.value.specs.Pattern.{kept_of}
use Rattle.value.specs.Scalar.{kept_scalar}
use Rattle.conversion.specs.Convert.{kept_pair}
use Rattle.relation.specs.Logical.{logical}

-- whether a NaN is kept is nothing to `|| &&`, which floats do not have
pub kept_alike : (f : Bool → Bool → Bool) (l r : Scalar) → logical f (kept_pair l r) ≡ logical f (pair_of l r)
kept_alike f l r =
    elim l as (λ k. logical f (kept_pair k r) ≡ logical f (pair_of k r)) [
      | bool x ↦ same (λ s. logical f (pair_of (bool x) s)) r (λ y. refl)
      | AbstractInt x ↦ same (λ s. logical f (pair_of (AbstractInt x) s)) r (λ y. refl)
      | AbstractFloat x ↦ same (λ s. logical f (pair_of (AbstractFloat x) s)) r (λ y. refl)
      | I32 x ↦ same (λ s. logical f (pair_of (I32 x) s)) r (λ y. refl)
      | U32 x ↦ same (λ s. logical f (pair_of (U32 x) s)) r (λ y. refl)
      | F32 x ↦ same (λ s. logical f (pair_of (F32 x) s)) r (λ y. refl)
      | F16 x ↦ elim r as (λ k. logical f (kept_pair (F16 x) k) ≡ logical f (pair_of (F16 x) k)) [ bool y ↦ refl | AbstractInt y ↦ refl | AbstractFloat y ↦ refl | I32 y ↦ refl | U32 y ↦ refl | F32 y ↦ refl | F16 y ↦ refl ]
    ]
  where
    same : (g : Scalar → Result) (s : Scalar) → ((y : ℕ) → g (F16 (kept_of 6 y)) ≡ g (F16 y)) → g (kept_scalar s) ≡ g s
    same g s h = elim s as (λ s. g (kept_scalar s) ≡ g s) [ bool y ↦ refl | AbstractInt y ↦ refl | AbstractFloat y ↦ refl | I32 y ↦ refl | U32 y ↦ refl | F32 y ↦ refl | F16 y ↦ h y ]
