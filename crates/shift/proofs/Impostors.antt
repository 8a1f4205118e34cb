-- Wrong programs beside those of must-fail/: at these arguments each contract asks for another answer than the wrong program has. Assumes nothing.
use mathlib.Core.Path.{◌≡◌, refl}
use mathlib.Core.Bool.{true, false}
use Prim.Native.Nat.{◌^◌}
use lib.IntN.{pos, negsuc, ◌*ℤ◌}
use lib.Signed.{shr_z}
use mir.Syntax.{w32, w64}
use Rattle.std.proofs.Common.{Some, None}
use Rattle.integer.specs.Range.{whole_of}
use Rattle.integer.specs.Wrap.{wrap_u, wrap_s}
use Rattle.shift.specs.Shift.{shl_over, shl_over_u, shl_wrapping, shl_wrapping_u, shr_modulo, shr_modulo_u}

-- r top bits tested and not r + 1, which takes 1 << 31; every shift into the sign's bit refused; a count of 32 taken as 0
pub exact_32 : (shl_over w32 (pos 1) 31 ≡ true) × (shl_over w32 (negsuc 0) 31 ≡ false) × (shl_over w32 (pos 0) 32 ≡ true)
exact_32 = (refl, refl, refl)

-- the signed limit, which refuses 1 << 31; a count of 32 taken as 0
pub exact_32_unsigned : (shl_over_u w32 1 31 ≡ false) × (shl_over_u w32 1 32 ≡ true)
exact_32_unsigned = (refl, refl)

-- every count above 63 refused; a product of 2^63 taken
pub exact_64 : (whole_of (pos 0 *ℤ pos (2 ^ 64)) ≡ Some (pos 0)) × (whole_of (pos 1 *ℤ pos (2 ^ 63)) ≡ None)
exact_64 = (refl, refl)

-- 1 shifted, whatever the number, which has 2; 0 for a count above 31; 64 bits' count taken modulo 64, which has 1
pub wrapping : (shl_wrapping w32 (pos 3) 33 ≡ pos 6) × (shl_wrapping_u w32 3 33 ≡ 6) × (wrap_s w64 (pos 1 *ℤ pos (2 ^ 64)) ≡ pos 0)
unfolding wrap_u wrap_s
wrapping = (refl, refl, refl)

-- rounded towards 0, which has -2; 0 for a count above 31; 64 bits' count taken modulo 64, which has -3 for -5 by 65; -1 for any far shift
pub right : (shr_modulo w32 (negsuc 4) 33 ≡ negsuc 2) × (shr_modulo_u w32 4 33 ≡ 2) × (shr_z (negsuc 4) (2 ^ 65) ≡ negsuc 0) × (shr_z (pos 5) (2 ^ 64) ≡ pos 0)
right = (refl, refl, refl, refl)
