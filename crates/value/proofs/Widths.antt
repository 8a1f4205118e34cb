-- Proper patterns and the scalars that they are. Assumes nothing.
use Prim.Native.Nat.{ℕ, suc, ◌^◌, ◌<◌}
use mathlib.Core.Path.{◌≡◌, refl, sym, ap, ◌∙◌}
use mathlib.Core.Bool.{Bool, true, false, ◌&&◌}
use mathlib.Core.Logic.{inl, inr}
use native.Mathlib.Omega.{arith}
use lib.Dec.{leb, ltb}
use borrow.Author.Tests.{le-leb, lt-leb, lt-ltb, le-ltb, ltb-true}
use Rattle.integer.proofs.Order.{le_or_lt}
use Rattle.types.specs.Types.{known_of, width_of, most_of}
use Rattle.low.proofs.Tests.{both}
use Rattle.types.proofs.Rows.{by_code, most_width}
use Rattle.value.specs.Pattern.{proper_of, kept_of}

-- ---- patterns
-- a code beyond the types'
pub not_proper : (ty b : ℕ) → known_of ty ≡ false → false ≡ proper_of ty b
not_proper ty b h = sym (ap (λ (t : Bool). t && ltb b (2 ^ width_of ty)) h)

-- no larger than m is below the next number
below_next : (b m : ℕ) → leb b m ≡ ltb b (suc m)
below_next b m =
    elim (le_or_lt b m) [
      | inl h ↦ le-leb b m h ∙ sym (lt-ltb b (suc m) (omega arith))
      | inr h ↦ lt-leb b m h ∙ sym (le-ltb b (suc m) (omega arith))
    ]

-- no larger than the type's largest pattern is within the type's width
module _ (ty b : ℕ) {m : ℕ} (h : m ≡ most_of ty) where
  within : leb b m ≡ ltb b (2 ^ width_of ty)
  within = ap (leb b) h ∙ below_next b (most_of ty) ∙ ap (ltb b) (most_width ty)

  pub up_to_most : {k : Bool} → k ≡ known_of ty → (k && leb b m) ≡ proper_of ty b
  up_to_most e = λ i. e i && within i

pub proper_below : (ty b : ℕ) → proper_of ty b ≡ true → b < 2 ^ width_of ty
proper_below ty b e = ltb-true b (2 ^ width_of ty) (both (known_of ty) (ltb b (2 ^ width_of ty)) e).1

-- ---- types with no NaN
pub plain_kept : (ty b : ℕ) → ((Unit {0} × (ty ≡ 2 → ⊥)) × (ty ≡ 5 → ⊥)) × (ty ≡ 6 → ⊥) → b ≡ kept_of ty b
unfolding kept_of
plain_kept ty b =
    by_code (λ ty. ((Unit {0} × (ty ≡ 2 → ⊥)) × (ty ≡ 5 → ⊥)) × (ty ≡ 6 → ⊥) → b ≡ kept_of ty b)
    (λ n. refl) (λ n. refl) (λ n. absurd (n.0.0.1 refl)) (λ n. refl) (λ n. refl) (λ n. absurd (n.0.1 refl)) (λ n. absurd (n.1 refl)) (λ k n. refl) ty
