-- The rules end where the codes do: what is no operator has no rights, and what is no type has none, goes nowhere, and is gone to by none.
-- Assumes nothing.
use Prim.Native.Nat.{ℕ, ◌<◌}
use mathlib.Core.Path.{◌≡◌, refl}
use mathlib.Core.Bool.{Bool, true, false, ◌&&◌, and-false}
use native.Mathlib.Omega.{arith}
use lib.Dec.{eqb, leb}
use borrow.Author.Tests.{lt-leb, ltb-true, ne_eqb}
use Rattle.types.specs.Types.{bools, class_of, float_of, integer_of, goes_to, right_of, unary_right_of}
use Rattle.types.proofs.Rows.{by_code}
use Rattle.types.proofs.Goes.{goes_known}

-- "3 to 7", "8 to 13", "14 to 16", "17", "18": past the last operator
pub past_operators : (op ty : ℕ) → 18 < op → right_of op ty ≡ false
past_operators op ty h =
    rw (
      lt-leb op 2 (omega (arith, h)),
      lt-leb op 9 (omega (arith, h)),
      lt-leb op 15 (omega (arith, h)),
      lt-leb op 18 h,
      lt-leb op 13 (omega (arith, h)),
      and-false (leb 1 op),
      and-false (leb 8 op),
      and-false (leb 14 op),
      and-false (bools (class_of ty)),
      and-false (integer_of ty && leb 3 op),
      and-false (float_of ty && leb 3 op),
    )

-- "1 `!`, 2 `-`, 3 `~`": past the last
pub past_unary_operators : (op ty : ℕ) → 3 < op → unary_right_of op ty ≡ false
past_unary_operators op ty h =
    rw (ne_eqb op 1 (λ e. omega (arith, e, h)), ne_eqb op 2 (λ e. omega (arith, e, h)), ne_eqb op 3 (λ e. omega (arith, e, h)))

-- past the last type
module _ (op : ℕ) where
  pub past_types : (ty : ℕ) → 6 < ty → right_of op ty ≡ false
  past_types =
      by_code (λ ty. 6 < ty → right_of op ty ≡ false) (λ h. absurd (omega arith)) (λ h. absurd (omega arith)) (λ h. absurd (omega arith))
      (λ h. absurd (omega arith)) (λ h. absurd (omega arith)) (λ h. absurd (omega arith)) (λ h. absurd (omega arith)) (λ n h. refl)

  pub past_unary_types : (ty : ℕ) → 6 < ty → unary_right_of op ty ≡ false
  past_unary_types =
      by_code (λ ty. 6 < ty → unary_right_of op ty ≡ false) (λ h. absurd (omega arith)) (λ h. absurd (omega arith)) (λ h. absurd (omega arith))
      (λ h. absurd (omega arith)) (λ h. absurd (omega arith)) (λ h. absurd (omega arith)) (λ h. absurd (omega arith))
      (λ n h. rw (and-false (eqb op 1), and-false (eqb op 2), and-false (eqb op 3)))

-- to what is no type nothing goes
pub goes_to_types : (a b : ℕ) → 6 < b → goes_to a b ≡ false
goes_to_types a b h = go (goes_to a b) refl
  where
    go : (t : Bool) → goes_to a b ≡ t → t ≡ false
    go true e = absurd (omega (arith, h, ltb-true b 7 (goes_known a b e)))
    go false e = refl
