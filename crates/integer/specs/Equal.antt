-- Equality of two integers as a test. Assumes nothing.
use Rattle.std.specs.Prelude.{Bool, false, ℤ, pos, negsuc, ◌==◌}

abbrev pub eq_z : ℤ → ℤ → Bool
eq_z (pos a) (pos b) = a == b
eq_z (pos a) (negsuc b) = false
eq_z (negsuc a) (pos b) = false
eq_z (negsuc a) (negsuc b) = a == b
