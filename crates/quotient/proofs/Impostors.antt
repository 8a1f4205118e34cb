-- Wrong programs beside those of must-fail/: at these arguments each contract asks for another answer than the wrong program has. Assumes nothing.
use mathlib.Core.Path.{◌≡◌, refl}
use mathlib.Core.Bool.{true}
use lib.IntN.{pos, negsuc}
use lib.Signed.{quot_z, rem_z}
use mir.Syntax.{w32, w64}
use Rattle.integer.specs.Range.{minimum}
use Rattle.quotient.specs.Quotient.{no_quotient}

-- the operands swapped, which has 0; a quotient rounded down, which has -4
pub quotients : (quot_z (pos 7) (pos 2) ≡ pos 3) × (quot_z (negsuc 6) (pos 2) ≡ negsuc 2)
quotients = (refl, refl)

-- the operands swapped, which has 2; a remainder with the divisor's sign, which has 1
pub remainders : (rem_z (pos 7) (pos 2) ≡ pos 1) × (rem_z (negsuc 6) (pos 2) ≡ negsuc 0)
remainders = (refl, refl)

-- 0 for the minimum % -1; only a zero divisor refused
pub undefined : (no_quotient w32 (minimum w32) (negsuc 0) ≡ true) × (no_quotient w64 (minimum w64) (negsuc 0) ≡ true)
undefined = (refl, refl)
