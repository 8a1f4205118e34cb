-- The product at the kind of the format. Assumes nothing.
use lib.Ieee.{binary64}
use Rattle.rounding.proofs.Same.{mul_is}
use Rattle.rounding.proofs.floats.F64Float.times.Goals as goal

pub returns : goal.returns
returns c = mul_is binary64 _ _
