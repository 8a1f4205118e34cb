-- Where a signed quotient or remainder is not defined, over the width. Assumes nothing.
use Rattle.std.specs.Prelude.{Bool, ◌&&◌, ◌||◌, ℤ, pos, negsuc}
use Rattle.std.specs.Int.{Width}
use Rattle.integer.specs.Range.{minimum}
use Rattle.integer.specs.Equal.{eq_z}

-- a zero divisor, or the minimum by -1
abbrev pub no_quotient : Width → ℤ → ℤ → Bool
no_quotient w x y = eq_z y (pos 0) || (eq_z y (negsuc 0) && eq_z x (minimum w))
