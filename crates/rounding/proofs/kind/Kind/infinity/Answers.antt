-- The infinity's bits without the sign. Assumes nothing.
use Rattle.std.proofs.Common.{arith}
use Rattle.rounding.proofs.Weights.{infinity_is, infinity_small}
use Rattle.rounding.proofs.kind.Kind.infinity.Goals as goal

pub returns : goal.returns
returns c = infinity_is c.args.self.digits c.args.self.reach c.weight.ensures

pub overflow_mul-result-2 : goal.overflow_mul-result-2
overflow_mul-result-2 c = omega (arith, returns c, infinity_small c.args.self.digits c.args.self.reach c.args.self.sized.1 c.args.self.sized.3)
