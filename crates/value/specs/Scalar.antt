-- 01, Operands: the pattern of a scalar, and the scalar of a type and a pattern. Assumes nothing.
use Rattle.std.specs.Prelude.{ℕ, Bool, true, List, [], ◌∷◌, Option, Some, None, eqb, get_or}
use Rattle.std.specs.Int.{w32, w64}
use Rattle.std.proofs.Common.{to_z, of_z}
use Rattle.rounding.specs.Kind.{half, single, double}
use Rattle.rounding.specs.Bits.{to_bits, of_bits, finite}
use Rattle.value.specs.declared.Scalar.{Scalar}
use Rattle.value.specs.declared.Scalar.TheVariants.{Bool as bool, AbstractInt, AbstractFloat, I32, U32, F32, F16}
use Rattle.value.specs.Pattern.{pick, proper_of, kept_of}

-- Types: 0 Bool, 1 AbstractInt, 2 AbstractFloat, 3 I32, 4 U32, 5 F32, 6 F16
abbrev pub type_of : Scalar → ℕ
type_of (bool x) = 0
type_of (AbstractInt x) = 1
type_of (AbstractFloat x) = 2
type_of (I32 x) = 3
type_of (U32 x) = 4
type_of (F32 x) = 5
type_of (F16 x) = 6

-- a float scalar is finite; every other is
abbrev pub finite_of : Scalar → Bool
finite_of (bool x) = true
finite_of (AbstractInt x) = true
finite_of (AbstractFloat x) = finite x
finite_of (I32 x) = true
finite_of (U32 x) = true
finite_of (F32 x) = finite x
finite_of (F16 x) = finite (of_bits half x)

-- a scalar's bits; a NaN is kept as one
abbrev pub bits_of : Scalar → ℕ
bits_of (bool x) = pick x 1 0
bits_of (AbstractInt x) = of_z w64 x
bits_of (AbstractFloat x) = to_bits double x
bits_of (I32 x) = of_z w32 x
bits_of (U32 x) = x
bits_of (F32 x) = to_bits single x
bits_of (F16 x) = kept_of 6 x

-- "A NaN read or produced is kept": a scalar with its NaN's bits so; of the types, F16 alone is given by its bits
abbrev pub kept_scalar : Scalar → Scalar
kept_scalar (bool x) = bool x
kept_scalar (AbstractInt x) = AbstractInt x
kept_scalar (AbstractFloat x) = AbstractFloat x
kept_scalar (I32 x) = I32 x
kept_scalar (U32 x) = U32 x
kept_scalar (F32 x) = F32 x
kept_scalar (F16 x) = F16 (kept_of 6 x)

-- the scalar of a pattern, one for each type
abbrev pub scalars : ℕ → List (Option Scalar)
scalars b =
    Some (bool (eqb b 1)) ∷ Some (AbstractInt (to_z w64 b)) ∷ Some (AbstractFloat (of_bits double b)) ∷ Some (I32 (to_z w32 b)) ∷ Some (U32 b)
    ∷ Some (F32 (of_bits single b)) ∷ Some (F16 (kept_of 6 b)) ∷ []

abbrev pub scalar_at : ℕ → ℕ → Option Scalar
scalar_at ty b = get_or (scalars b) ty None

-- the scalar of a type and a pattern; a pattern too wide for its type is malformed
abbrev pub scalar_of : ℕ → ℕ → Option Scalar
scalar_of ty b = pick (proper_of ty b) (scalar_at ty b) None
