-- Bit patterns of a kind: the sign, the exponent's field, and the digits below the leading one. Clause by clause these are the patterns of the language's
-- own `lib.Ieee`, which has F32 and F64, over any kind (`proofs/Same.antt`). Assumes nothing.
use Rattle.std.specs.Prelude.{ℕ, zero, suc, ◌+◌, ◌-◌, ◌*◌, ◌/◌, ◌%◌, ◌^◌, Bool, cond, ◌==◌, nat_le, Float}
use Rattle.std.specs.Float.{nan, inf, fin}
use Rattle.std.specs.Float.Ieee.{up, down, size, odd}
use Rattle.rounding.specs.Kind.{Kind, least}
-- neither a NaN nor an infinity
pub use Rattle.std.specs.Float.Ieee.Scale.{finite}

-- the weight of the exponent's field, the field of an infinity or a NaN, and the weight of the sign
abbrev pub hidden : Kind → ℕ
hidden k = 2 ^ (k.digits - 1)

abbrev pub full : Kind → ℕ
full k = 2 * k.reach + 1

abbrev pub signed : Kind → ℕ
signed k = hidden k * suc (full k)

-- what a sign, an exponent's field and digits stand for: a field of 0 has no leading digit, and counts as a field of 1
unfoldable pub of_fields : Kind → Bool → ℕ → ℕ → Float
unfolding odd
of_fields k s zero t = odd k.digits s t 0 (least k)
of_fields k s (suc x) t = cond (suc x == full k) (cond (t == 0) (inf s) nan) (odd k.digits s (hidden k + t) x (least k))

unfoldable pub of_bits : Kind → ℕ → Float
unfolding of_fields
of_bits k b = of_fields k (nat_le (signed k) b) (b % signed k / hidden k) (b % hidden k)

-- The bits of a value: n smallest values, of whose j lowest digits the field keeps the count. 01, Operands: a NaN is kept as
-- 7E00, 7FC00000, 7FF8000000000000.
unfoldable pub to_bits : Kind → Float → ℕ
unfolding size
to_bits k nan = full k * hidden k + hidden k / 2
to_bits k (inf s) = cond s (signed k) 0 + full k * hidden k
to_bits k (fin s m e) =
    let n = m * up e * 2 ^ least k / down e in
    let j = size n - k.digits in
    cond s (signed k) 0 + j * hidden k + n / 2 ^ j
