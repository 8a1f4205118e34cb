-- The sum at the kind of the format. Assumes nothing.
use lib.Ieee.{binary32}
use Rattle.rounding.proofs.Same.{add_is}
use Rattle.rounding.proofs.floats.F32Float.plus.Goals as goal

pub returns : goal.returns
returns c = add_is binary32 _ _
