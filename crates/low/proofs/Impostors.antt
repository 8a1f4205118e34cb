-- Wrong programs that the contracts exclude: bytes at which they ask for another answer than such a program gives. Assumes nothing.
use mathlib.Core.Path.{◌≡◌, refl}
use mathlib.Core.List.{[], ◌∷◌, ◌++◌}
use Prim.Native.Nat.{ℕ, ◌-◌}
use lib.ListN.{length, get_or, replicate}
use Rattle.low.specs.Bytes.{lows, whole, part, patch, numbers, eights}

-- a byte past the end is not 255, and past the end nothing is left
pub byte_past : (get_or {A = ℕ} (5 ∷ []) 1 0 ≡ 0) × (length {A = ℕ} (5 ∷ []) - 3 ≡ 0)
byte_past = (refl, refl)

-- the high byte does not come first, read or written
pub low_first : (whole (part (9 ∷ 1 ∷ 2 ∷ []) 1 4) ≡ 513) × (patch (9 ∷ 9 ∷ 9 ∷ []) 0 (lows 2 513) ≡ 1 ∷ 2 ∷ 9 ∷ [])
unfolding lows whole part patch
low_first = (refl, refl)

-- the halves are not swapped, read or written
pub halves : (whole (part (1 ∷ 0 ∷ 0 ∷ 0 ∷ 2 ∷ []) 0 8) ≡ 8589934593) × (lows 8 8589934593 ≡ 1 ∷ 0 ∷ 0 ∷ 0 ∷ 2 ∷ 0 ∷ 0 ∷ 0 ∷ [])
unfolding lows whole part
halves = (refl, refl)

-- a part does not run to the end
pub part_ends : part (1 ∷ 2 ∷ 3 ∷ 4 ∷ []) 1 2 ≡ 2 ∷ 3 ∷ []
unfolding part
part_ends = refl

-- numbers do not overlap, read or written
pub numbers_apart : (get_or (numbers 16 (replicate 8 0 ++ 1 ∷ []) 0) 1 0 ≡ 1) × (eights 2 (1 ∷ 2 ∷ []) ≡ 1 ∷ replicate 7 0 ++ 2 ∷ replicate 7 0)
unfolding lows whole part numbers eights
numbers_apart = (refl, refl)
