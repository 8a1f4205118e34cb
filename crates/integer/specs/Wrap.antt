-- Two's complement, over the width: numbers reduced modulo a power of two, and bits turned over. Assumes nothing.
use Rattle.std.specs.Prelude.{ℕ, ◌-◌, ◌%◌, ◌^◌, ℤ, pos, negsuc}
use Rattle.std.specs.Int.{Width}
use mir.Val.{bits, to_z}

-- z modulo m, from 0 up
abbrev pub mod_z : ℕ → ℤ → ℕ
mod_z m (pos n) = n % m
mod_z m (negsuc n) = (m - 1) - n % m

-- wrap around: the exact result z reduced modulo 2^bits, unsigned
unfoldable pub wrap_u : Width → ℤ → ℕ
wrap_u w z = mod_z (2 ^ bits w) z

-- wrap around: the exact result z reduced modulo 2^bits, into the signed range
unfoldable pub wrap_s : Width → ℤ → ℤ
wrap_s w z = to_z w (wrap_u w z)

-- `~`, signed: the bits of z turned over are those of -z - 1
abbrev pub not_z : ℤ → ℤ
not_z (pos n) = negsuc n
not_z (negsuc n) = pos n

-- `~`, unsigned
abbrev pub not_u : Width → ℕ → ℕ
not_u w n = (2 ^ bits w - 1) - n
