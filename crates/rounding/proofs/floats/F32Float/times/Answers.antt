-- The product at the kind of the format. Assumes nothing.
use lib.Ieee.{binary32}
use Rattle.rounding.proofs.Same.{mul_is}
use Rattle.rounding.proofs.floats.F32Float.times.Goals as goal

pub returns : goal.returns
returns c = mul_is binary32 _ _
