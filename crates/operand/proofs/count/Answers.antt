-- `operand::count` meets its contract. Assumes nothing.
use native.Mathlib.Omega.{arith}
use Rattle.operand.proofs.Shapes.{count_small}
use Rattle.operand.proofs.count.Goals as goal

pub overflow_mul-result : goal.overflow_mul-result
overflow_mul-result c = omega (arith, count_small _ c.requires)
