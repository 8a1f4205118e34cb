-- 01, Operands: the patterns of the seven types, and which NaN is kept. Assumes nothing.
use Rattle.std.specs.Prelude.{ℕ, ◌*◌, ◌%◌, ◌^◌, ◌<◌, Bool, ◌&&◌, [], ◌∷◌, ltb, get_or}
pub use Rattle.integer.specs.Range.{pick}
use Rattle.rounding.specs.Kind.{Kind, half, single, double}
use Rattle.rounding.specs.Bits.{full, hidden, signed}
use Rattle.types.specs.Types.{known_of, width_of}

-- "narrower patterns have zero above; Bool is 0 or 1": a known type, and no more bits than its width
abbrev pub proper_of : ℕ → ℕ → Bool
proper_of ty b = known_of ty && ltb b (2 ^ width_of ty)

-- a NaN's pattern: without the sign, above the infinity's
abbrev pub nan_pattern : Kind → ℕ → Bool
nan_pattern k b = ltb (full k * hidden k) (b % signed k)

-- "A NaN read or produced is kept as 7FC00000 (F32), 7E00 (F16), 7FF8000000000000 (F64)"
abbrev pub one_nan : Kind → ℕ → ℕ → ℕ
one_nan k n b = pick (nan_pattern k b) n b

unfoldable pub kept_of : ℕ → ℕ → ℕ
kept_of ty b = get_or (b ∷ b ∷ one_nan double 0x7FF8000000000000 b ∷ b ∷ b ∷ one_nan single 0x7FC00000 b ∷ one_nan half 0x7E00 b ∷ []) ty b

-- ---- for the contracts of private functions
-- no more bits than the type's width; a code that names no type has the width 0
pub record Narrow (ty b : ℕ) : Type 0 where
  pub narrow : b < 2 ^ width_of ty
