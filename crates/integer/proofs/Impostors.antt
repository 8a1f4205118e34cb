-- Wrong programs beside those of must-fail/: at these arguments each contract asks for another answer than the wrong program has. Assumes nothing.
use Rattle.std.proofs.Common.{◌≡◌, pos, negsuc, ◌+ℤ◌, ◌-ℤ◌, ◌*ℤ◌, neg_ℤ, nat_abs, refl, w32, w64, to_z, of_z}
use Rattle.integer.specs.Range.{minimum}
use Rattle.integer.specs.Wrap.{wrap_u, wrap_s, not_z, not_u}

-- a negative number by the sign's bit and its size, which has 80000001 and 8000000000000001
pub bits : (of_z w32 (negsuc 0) ≡ 0xFFFFFFFF) × (of_z w64 (negsuc 0) ≡ 0xFFFFFFFFFFFFFFFF)
bits = (refl, refl)

-- the sign's bit looked for one too high, which has 2147483648 and 9223372036854775808
pub of_bits_lem : (to_z w32 0x80000000 ≡ negsuc 0x7FFFFFFF) × (to_z w64 0x8000000000000000 ≡ negsuc 0x7FFFFFFFFFFFFFFF)
of_bits_lem = (refl, refl)

-- the bits turned over for the size, which has 0; a size in the signed range, which has no answer for the minimum
pub size : (nat_abs (negsuc 0) ≡ 1) × (nat_abs (minimum w64) ≡ 0x8000000000000000)
size = (refl, refl)

-- negative numbers left as they are, which has -5; all bits of a wider number turned over, which has FFFFFFFFFFFFFFFF
pub turned_over : (not_z (negsuc 4) ≡ pos 4) × (not_u w32 0 ≡ 0xFFFFFFFF)
turned_over = (refl, refl)

-- the largest for a sum past it; the operands swapped, which has 1; the product's high half, which has 1
pub unsigned : (wrap_u w32 (pos 0xFFFFFFFF +ℤ pos 1) ≡ 0) × (wrap_u w32 (pos 1 -ℤ pos 2) ≡ 0xFFFFFFFF) × (wrap_u w32 (pos 65536 *ℤ pos 65536) ≡ 0)
unfolding wrap_u
unsigned = (refl, refl, refl)

-- the left operand twice, which has 10; the operands swapped, which has 3; the sign lost, which has 10
pub signed : (wrap_s w32 (pos 5 +ℤ negsuc 1) ≡ pos 3) × (wrap_s w32 (pos 2 -ℤ pos 5) ≡ negsuc 2) × (wrap_s w32 (pos 5 *ℤ negsuc 1) ≡ negsuc 9)
unfolding wrap_u wrap_s
signed = (refl, refl, refl)

-- the largest for the minimum's negative; the bits turned over and no more, which has -1
pub negative : (wrap_s w32 (neg_ℤ (minimum w32)) ≡ minimum w32) × (wrap_s w64 (neg_ℤ (minimum w64)) ≡ minimum w64) × (wrap_s w32 (neg_ℤ (pos 0)) ≡ pos 0)
unfolding wrap_u wrap_s
negative = (refl, refl, refl)
