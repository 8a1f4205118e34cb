-- The library's own rounding of an integer to F64. Assumes nothing.
use Rattle.std.proofs.Common.{ap, ◌∙◌, w64}
use lib.Ieee.{binary64}
use mir.ValLaws.{to_z-of_z}
use Rattle.rounding.specs.Kind.{double, of_integer}
use Rattle.rounding.proofs.Same.{of_int_is}
use Rattle.rounding.proofs.narrow.i64_to_f64.Goals as goal

pub returns : goal.returns
returns c = c.nearest_i64_to_f64.ensures ∙ of_int_is binary64 _ ∙ ap (of_integer double) (to_z-of_z w64 c.args.n c.ranges.n)
