-- The weight of a field. Assumes nothing.
use Rattle.std.proofs.Common.{arith}
use Rattle.rounding.proofs.Weights.{weight_is}
use Rattle.rounding.proofs.kind.Kind.weight.Goals as goal

pub returns : goal.returns
returns c = weight_is c.args.self.digits (omega (arith, c.args.self.sized.1))
