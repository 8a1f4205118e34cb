-- The weight of the sign. Assumes nothing.
use Rattle.std.proofs.Common.{arith}
use Rattle.rounding.proofs.Weights.{sign_is, sign_small}
use Rattle.rounding.proofs.kind.Kind.sign_weight.Goals as goal

pub returns : goal.returns
returns c = sign_is c.args.self.digits c.args.self.reach c.weight.ensures

pub overflow_mul-result-2 : goal.overflow_mul-result-2
overflow_mul-result-2 c = omega (arith, returns c, sign_small c.args.self.digits c.args.self.reach c.args.self.sized.1 c.args.self.sized.3)
