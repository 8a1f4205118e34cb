-- A product of two bytes is below 65536.
use native.Mathlib.Omega.{arith}
use native.Mathlib.Nat.{mul-le-mul_left, lt_of_le_of_lt, le_of_lt}
use Prim.Native.Nat.{ℕ, ◌*◌, ◌<◌}
use mathlib.Core.Path.{refl}
use Rattle.sheet.proofs.literals.area.Goals as goal

small : (a b : ℕ) → a < 256 → b < 256 → a * b < 65536
small a b h k = lt_of_le_of_lt (mul-le-mul_left a (le_of_lt k)) (omega arith)

pub overflow_mul-result : goal.overflow_mul-result
overflow_mul-result c = omega (arith, small _ _ c.ranges.cols.fits c.ranges.rows.fits)

pub returns : goal.returns
returns c = (refl, small _ _ c.ranges.cols.fits c.ranges.rows.fits)
