-- The one edition has every type. Assumes nothing.
use Prim.Native.Nat.{ℕ}
use mathlib.Core.Path.{◌≡◌, refl}
use mathlib.Core.Bool.{Bool, true, false, ◌&&◌, and-false}
use lib.Dec.{ltb}
use Rattle.types.specs.Types.{known_of}
use Rattle.types.specs.Edition.{Edition, plain, in_edition}

-- a test that a known type alone passes asks no more in an edition
pub in_edition_lem : (e : Edition) (ty : ℕ) (x : Bool) → (x ≡ true → known_of ty ≡ true) → (in_edition e ty && x) ≡ x
in_edition_lem plain ty true h = rw (h refl)
in_edition_lem plain ty false h = and-false (ltb ty 7)
