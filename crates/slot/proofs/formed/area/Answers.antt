-- Two bytes multiplied fit.
use native.Mathlib.Omega.{arith}
use native.Mathlib.Nat.{mul-le-mul}
use Prim.Native.Nat.{◌≤◌}
use borrow.Author.Rules.{rules}
use Rattle.slot.proofs.formed.area.Goals as goal

pub overflow_mul-result : goal.overflow_mul-result
overflow_mul-result c = omega (arith, mul-le-mul (let p : c.args.cols ≤ 255 = omega arith in p) (let q : c.args.rows ≤ 255 = omega arith in q))
