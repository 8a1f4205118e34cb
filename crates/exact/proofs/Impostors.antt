-- Wrong programs beside those of must-fail/: at these arguments each contract asks for another answer than the wrong program has. Assumes nothing.
use mathlib.Core.Path.{◌≡◌, refl}
use lib.IntN.{pos, negsuc, ◌+ℤ◌, ◌-ℤ◌, ◌*ℤ◌}
use mir.Syntax.{w64}
use Rattle.std.proofs.Common.{Some, None}
use Rattle.integer.specs.Range.{minimum, whole_of}

-- a sum that wraps, which has the minimum; a sum of two signs refused at the end of the range
pub sums : (whole_of (pos 9223372036854775807 +ℤ pos 1) ≡ None) × (whole_of (pos 9223372036854775807 +ℤ minimum w64) ≡ Some (negsuc 0))
sums = (refl, refl)

-- the minimum never subtracted, as by a program that adds the negative; a difference that wraps, which has the maximum
pub differences : (whole_of (negsuc 0 -ℤ minimum w64) ≡ Some (pos 9223372036854775807)) × (whole_of (minimum w64 -ℤ pos 1) ≡ None)
differences = (refl, refl)

-- one limit on the size whatever the sign, which refuses the minimum; a product that wraps, which has 0
pub products : (whole_of (minimum w64 *ℤ pos 1) ≡ Some (minimum w64)) × (whole_of (pos 4294967296 *ℤ pos 4294967296) ≡ None)
products = (refl, refl)
