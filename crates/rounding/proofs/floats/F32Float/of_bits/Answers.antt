-- The value of a pattern, any NaN's for the NaN. Assumes nothing.
use mathlib.Core.Path.{◌∙◌}
use lib.Ieee.{binary32}
use Rattle.rounding.proofs.Same.{of_bits_is}
use Rattle.rounding.proofs.floats.F32Float.of_bits.Goals as goal

pub returns : goal.returns
returns c = c.f32_from_bits_with_nan.ensures ∙ of_bits_is binary32 c.args.b
