-- 01, Operands and Operators: a row for each type, and what follows from the rows alone. Assumes nothing.
use Rattle.std.specs.Prelude.{ℕ, ◌-◌, ◌^◌, Option, Some, None, Bool, true, false, not, ◌&&◌, ◌||◌, List, [], ◌∷◌, eqb, leb, ltb, length, get_or}
use Rattle.integer.specs.Range.{pick}
use Rattle.types.specs.declared.Row.{Row}
use Rattle.types.specs.declared.TypeClass.{TypeClass}
use Rattle.types.specs.declared.TypeClass.TheVariants.{Truth, Signed, Unsigned, Float}

-- whether a class is that of Bool, of signed integers, of unsigned integers or of floats; a code that names no type has no class
abbrev pub bools : Option TypeClass → Bool
bools (Some Truth) = true
bools c = false

abbrev pub signed_ints : Option TypeClass → Bool
signed_ints (Some Signed) = true
signed_ints c = false

abbrev pub unsigned_ints : Option TypeClass → Bool
unsigned_ints (Some Unsigned) = true
unsigned_ints c = false

abbrev pub floats : Option TypeClass → Bool
floats (Some Float) = true
floats c = false

-- a class, the bits of a pattern and so the largest pattern, and whether the type is concrete: known and not abstract
abbrev pub row : Option TypeClass → ℕ → Bool → Row
row c w a = record { class = c; width = w; most = 2 ^ w - 1; concrete = a }

-- "Types: 0 Bool, 1 AbstractInt (64-bit signed), 2 AbstractFloat (F64), 3 I32, 4 U32, 5 F32, 6 F16"
abbrev pub rows : List Row
rows =
    row (Some Truth) 1 true ∷ row (Some Signed) 64 false ∷ row (Some Float) 64 false ∷ row (Some Signed) 32 true ∷ row (Some Unsigned) 32 true
    ∷ row (Some Float) 32 true ∷ row (Some Float) 16 true ∷ []

abbrev pub row_of : ℕ → Row
row_of ty = get_or rows ty (row None 0 false)

-- a type's code
abbrev pub known_of : ℕ → Bool
known_of ty = ltb ty (length rows)

abbrev pub class_of : ℕ → Option TypeClass
class_of ty = (row_of ty).class

abbrev pub width_of : ℕ → ℕ
width_of ty = (row_of ty).width

-- the largest pattern; 0 for no type
abbrev pub most_of : ℕ → ℕ
most_of ty = (row_of ty).most

-- the types that have matrices
abbrev pub float_of : ℕ → Bool
float_of ty = floats (class_of ty)

abbrev pub integer_of : ℕ → Bool
integer_of ty = signed_ints (class_of ty) || unsigned_ints (class_of ty)

-- what a setting may have: "type 0, 3, 4, 5 or 6"
abbrev pub concrete_of : ℕ → Bool
concrete_of ty = (row_of ty).concrete

abbrev pub abstract_of : ℕ → Bool
abstract_of ty = known_of ty && not (concrete_of ty)

-- "AbstractInt goes to any other but Bool, AbstractFloat to F32 or F16": both to the other floats, AbstractInt to the other integers
abbrev pub goes_to : ℕ → ℕ → Bool
goes_to a b = abstract_of a && not (eqb a b) && (float_of b || (signed_ints (class_of a) && integer_of b))

-- "Common type: equal types; else" the one that the other goes to, "otherwise none"
unfoldable pub common_type : ℕ → ℕ → Option ℕ
common_type a b = pick ((known_of a && eqb a b) || goes_to b a) (Some a) (pick (goes_to a b) (Some b) None)

-- the right to a binary operator: Bool has `|| && == != | &`, integers all from `+` on, floats those from `+` to `>=`
abbrev pub right_of : ℕ → ℕ → Bool
right_of op ty =
    (bools (class_of ty) && ((leb 1 op && leb op 2) || (leb 8 op && leb op 9) || (leb 14 op && leb op 15)))
    || (integer_of ty && leb 3 op && leb op 18)
    || (float_of ty && leb 3 op && leb op 13)

-- "`!` on Bool, `~` on integers", negation on all but U32 and Bool
abbrev pub unary_right_of : ℕ → ℕ → Bool
unary_right_of op ty =
    (eqb op 1 && bools (class_of ty)) || (eqb op 2 && (signed_ints (class_of ty) || float_of ty)) || (eqb op 3 && integer_of ty)

-- comparisons give Bool, other operators the type of their operands
abbrev pub result_type : ℕ → ℕ → ℕ
result_type op ty = pick (leb 8 op && leb op 13) 0 ty
