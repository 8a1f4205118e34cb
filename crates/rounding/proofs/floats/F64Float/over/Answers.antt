-- The quotient at the kind of the format. Assumes nothing.
use lib.Ieee.{binary64}
use Rattle.rounding.proofs.Same.{div_is}
use Rattle.rounding.proofs.floats.F64Float.over.Goals as goal

pub returns : goal.returns
returns c = div_is binary64 _ _
