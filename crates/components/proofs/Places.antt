-- The places of an operand's components are among sixteen. Assumes nothing.
use Prim.Native.Nat.{ℕ, ◌≤◌}
use mathlib.Core.Bool.{Bool, true, false}
use native.Mathlib.Omega.{arith}
use Rattle.value.specs.Pattern.{pick}
use Rattle.operand.specs.Operand.{is_scalar}
use Rattle.operand.specs.declared.Shape.{Shape}
use Rattle.components.specs.Components.{stride_of, Inside}

pub stride_inside : (s : Shape) (n : ℕ) → n ≤ 16 → Inside 0 (stride_of s) n
stride_inside s n h = go (is_scalar s)
  where
    go : (b : Bool) → Inside 0 (pick b 0 1) n
    go true i q = omega arith
    go false i q = omega arith
