-- `integer::wrapping::mul_u32` meets its contract. Assumes nothing.
use Rattle.std.proofs.Common.{mul-le-mul, arith, w32, rules}
use Rattle.integer.proofs.Wrap.{wrap_u_pos}
use Rattle.integer.proofs.wrapping.mul_u32.Goals as goal

pub overflow_mul-result : goal.overflow_mul-result
overflow_mul-result c = omega (arith, mul-le-mul {n₁ = c.args.x} {m₁ = c.args.y} {n₂ = 4294967295} {m₂ = 4294967295} (omega arith) (omega arith))

pub returns : goal.returns
returns c = wrap_u_pos w32 _
