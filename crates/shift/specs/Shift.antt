-- 01, Operators, "Shifts": each rule that depends on the width, once over it. Assumes nothing.
use Rattle.std.specs.Prelude.{ℕ, ◌*◌, ◌/◌, ◌%◌, ◌^◌, Bool, not, ◌||◌, leb, ℤ, pos, ◌*ℤ◌}
use Rattle.std.specs.Int.Signed.{shr_z}
use Rattle.std.specs.Int.{Width}
use mir.Val.{bits}
use Rattle.integer.specs.Wrap.{wrap_u, wrap_s}
use Rattle.integer.specs.Range.{in_signed, in_unsigned}

-- a count of the width or more (above 31 for 32 bits)
abbrev pub count_over : Width → ℕ → Bool
count_over w n = leb (bits w) n

-- left, exactly: refused for such a count, or where l times 2^count is outside the type
abbrev pub shl_over : Width → ℤ → ℕ → Bool
shl_over w l n = count_over w n || not (in_signed w (l *ℤ pos (2 ^ n)))

abbrev pub shl_over_u : Width → ℕ → ℕ → Bool
shl_over_u w l n = count_over w n || not (in_unsigned w (l * 2 ^ n))

-- left, wrapping: the count is taken modulo the width
abbrev pub shl_wrapping : Width → ℤ → ℕ → ℤ
shl_wrapping w l n = wrap_s w (l *ℤ pos (2 ^ (n % bits w)))

abbrev pub shl_wrapping_u : Width → ℕ → ℕ → ℕ
shl_wrapping_u w l n = wrap_u w (pos l *ℤ pos (2 ^ (n % bits w)))

-- right: the floor of l over 2^count, the count taken modulo the width
abbrev pub shr_modulo : Width → ℤ → ℕ → ℤ
shr_modulo w l n = shr_z l (2 ^ (n % bits w))

abbrev pub shr_modulo_u : Width → ℕ → ℕ → ℕ
shr_modulo_u w l n = l / 2 ^ (n % bits w)
