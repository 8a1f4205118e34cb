-- Wrong programs that the contracts exclude: bytes at which the definitions ask for another answer than such a program gives. Assumes nothing.
use mathlib.Core.Path.{◌≡◌, refl}
use mathlib.Core.Bool.{true, false}
use mathlib.Core.List.{List, [], ◌∷◌, ◌++◌, map}
use Prim.Native.Nat.{ℕ}
use lib.ListN.{get_or, replicate}
use Rattle.types.specs.Edition.{plain}
use Rattle.value.specs.Pattern.{kept_of}
use Rattle.operand.specs.declared.Outcome.{Outcome}
use Rattle.operand.specs.Operand.{a_scalar}
use Rattle.operand.specs.Outcome.{refused_with, refused_on}
use Rattle.low.specs.Bytes.{lows, whole, part, patch, eights, numbers}
use Rattle.slot.specs.Slot.{bytes_of, said_by, slot, put, each, component_formed, components_formed, value_formed, blank, integer_formed, formed, well_formed, reference_to}

-- a value of this type, columns and rows with these components first
abbrev holding : ℕ → ℕ → ℕ → List ℕ → Outcome
holding ty cols rows xs = record { status = 0; detail = 0; value = record { ty = ty; cols = cols; rows = rows; comps = xs ++ replicate 14 0 } }

-- the halves of a component are not swapped, and past the last whole slot no refusal is read
pub read_number : get_or (said_by (slot (bytes_of (holding 1 1 2 (5 ∷ 4294967298 ∷ []))) 0)).value.comps 1 0 ≡ 4294967298
unfolding lows whole part eights numbers bytes_of said_by slot
read_number = refl

pub read_past : (said_by (slot (replicate 135 7) 0)).status ≡ 0
unfolding said_by slot
read_past = refl

-- bytes after the slot stay, and so does what is no whole slot
pub put_kept : (get_or (put (replicate 137 7) 0 (bytes_of (refused_with 11 32))) 136 0 ≡ 7) × (put (replicate 135 7) 0 (bytes_of (refused_with 11 32)) ≡ replicate 135 7)
unfolding lows eights bytes_of patch put
put_kept = (refl, refl)

-- not well formed: FromEntry of entry 128, an unused component, a NaN that is not the kept one; but FromEntry of entry 127 and the kept NaN are
pub formed_answers : map (formed plain) (
    refused_with 11 128
    ∷ holding 4 1 1 (1 ∷ 1 ∷ [])
    ∷ holding 5 1 1 (2143289345 ∷ 0 ∷ [])
    ∷ refused_with 11 127
    ∷ holding 5 1 1 (2143289344 ∷ 0 ∷ [])
    ∷ [])
    ≡ false ∷ false ∷ false ∷ true ∷ true ∷ []
unfolding kept_of each component_formed components_formed value_formed blank formed
formed_answers = refl

-- beside 9 and 10 not well formed: zeros, a float, bits above the type's width, a vector, bits behind the first; well formed: an integer with any
-- detail. Beside another refusal an integer is not
pub carried_answers : map (formed plain) (
    refused_with 9 32
    ∷ refused_on 10 32 (a_scalar 5 1)
    ∷ refused_on 9 32 (a_scalar 3 4294967296)
    ∷ refused_on 9 32 (holding 4 1 2 (1 ∷ 1 ∷ [])).value
    ∷ refused_on 9 32 (holding 4 1 1 (1 ∷ 1 ∷ [])).value
    ∷ refused_on 7 0 (a_scalar 4 1)
    ∷ refused_on 9 4294967295 (a_scalar 1 18446744073709551615)
    ∷ refused_on 10 0 (a_scalar 3 4294967295)
    ∷ [])
    ≡ false ∷ false ∷ false ∷ false ∷ false ∷ false ∷ true ∷ true ∷ []
unfolding kept_of each component_formed components_formed value_formed blank integer_formed formed
carried_answers = refl

-- FromEntry has the entry that is named, not the detail of its slot, and not the operand that its slot carries
pub reference_names : reference_to plain (bytes_of (refused_on 9 32 (a_scalar 4 1))) 0 ≡ refused_with 11 0
unfolding lows whole part eights numbers bytes_of said_by slot each component_formed components_formed value_formed blank formed well_formed reference_to
reference_names = refl
