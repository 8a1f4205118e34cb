-- The NaN by its pattern. Assumes nothing.
use lib.Ieee.{binary32}
use Rattle.rounding.proofs.Nan.{nan_pattern}
use Rattle.rounding.proofs.floats.F32Float.nan.Goals as goal

pub returns : goal.returns
returns c = nan_pattern binary32
