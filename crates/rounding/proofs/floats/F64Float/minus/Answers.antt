-- The difference at the kind of the format. Assumes nothing.
use lib.Ieee.{binary64}
use Rattle.rounding.proofs.Same.{sub_is}
use Rattle.rounding.proofs.floats.F64Float.minus.Goals as goal

pub returns : goal.returns
returns c = sub_is binary64 _ _
