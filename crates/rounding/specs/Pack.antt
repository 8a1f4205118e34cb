-- What the private routines of `narrow` hand to one another; no public promise speaks of it. Assumes nothing.
use Rattle.std.specs.Prelude.{ℕ, ◌+◌, ◌-◌, ◌*◌, ◌/◌, ◌^◌}
use Rattle.std.specs.Float.Ieee.{size}
use Rattle.std.specs.Float.Ieee.Nearest.{closest}

-- The bits, the sign left out, of n / den smallest values of a kind of p digits: the digits dropped count in the exponent's field, and what is kept
-- stands below, its leading digit adding one to the field. Beyond the largest finite value the number goes on past the infinity's.
unfoldable pub pack : ℕ → ℕ → ℕ → ℕ
unfolding size
pack p n den = let j = size (n / den) - p in j * 2 ^ (p - 1) + closest n (den * 2 ^ j)
