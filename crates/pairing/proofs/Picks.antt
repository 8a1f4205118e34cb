-- The tests of the code against what they pick. Assumes nothing.
use mathlib.Core.Path.{◌≡◌, refl}
use mathlib.Core.Bool.{Bool, true, false}
use Prim.Native.Nat.{ℕ}
use native.Mathlib.Omega.{arith}
use Rattle.std.specs.Prelude.{Ok}
use Rattle.value.specs.Pattern.{pick}
use Rattle.operand.specs.Operand.{is_scalar, Small}
use Rattle.operand.specs.declared.Shape.{Shape}
use Rattle.pairing.specs.Pairing.{result_shape, call_fault}

module _ {A : Type 0} (r b : Bool) (e : r ≡ b) (v x y : A) where
  pub pick_yes : r ≡ true → v ≡ x → v ≡ pick b x y
  pick_yes h q = rw (← e, h) q

  pub pick_no : r ≡ false → v ≡ y → v ≡ pick b x y
  pick_no h q = rw (← e, h) q

-- of two small shapes the answer's is small
pub result_small : (a b : Shape) → Small a → Small b → Small (result_shape a b)
result_small a b h k = go (is_scalar a)
  where
    go : (t : Bool) → Small (pick t b a)
    go true = k
    go false = h

-- ---- the checks before an operator is asked
-- nothing refuses a call of a known operator at a known stage on well-formed operands, and no other
pub no_fault : (k s f : Bool) → call_fault k s f ≡ Ok tt → (k ≡ true) × (s ≡ true) × (f ≡ true)
no_fault true true true e = (refl, refl, refl)
no_fault true true false e = let z : ◌≡◌ {A = ℕ} 0 1 = cc in absurd (omega arith)
no_fault true false f e = let z : ◌≡◌ {A = ℕ} 0 1 = cc in absurd (omega arith)
no_fault false s f e = let z : ◌≡◌ {A = ℕ} 0 1 = cc in absurd (omega arith)
