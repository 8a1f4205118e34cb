-- Which operands are well formed, and which of their components are in use. Assumes nothing.
use Rattle.std.specs.Prelude.{ℕ, ◌*◌, ◌≤◌, Bool, true, ◌&&◌, ◌||◌, List, [], ◌∷◌, eqb, leb, get_or, replicate}
use Rattle.types.specs.Types.{known_of, float_of}
use Rattle.types.specs.Edition.{Edition, in_edition}
use Rattle.value.specs.Pattern.{proper_of}
use Rattle.low.specs.Bytes.{up_to}
use Rattle.operand.specs.declared.Instance.{Instance}
use Rattle.operand.specs.declared.Shape.{Shape}

-- a known type; 1,1 scalar; 1,2 to 1,4 vector; 2 to 4 by 2 to 4 matrix, of floats only
abbrev pub shape_ok : ℕ → ℕ → ℕ → Bool
shape_ok ty c r = known_of ty && leb 1 r && leb r 4 && (eqb c 1 || (leb 2 c && leb c 4 && leb 2 r && float_of ty))

-- the same of a sheet's literals and slots, whose types are those of its edition
abbrev pub shape_in : Edition → ℕ → ℕ → ℕ → Bool
shape_in e ty c r = in_edition e ty && shape_ok ty c r

-- columns and rows of an operand
abbrev pub shape_of : Instance → Shape
shape_of v = record { cols = v.cols; rows = v.rows }

-- an operand of a type, a shape and components
abbrev pub in_shape : ℕ → Shape → List ℕ → Instance
in_shape ty s xs = record { ty = ty; cols = s.cols; rows = s.rows; comps = xs }

-- 1,1 scalar
abbrev pub is_scalar : Shape → Bool
is_scalar s = eqb s.cols 1 && eqb s.rows 1

-- 1,2 to 1,4 vector
abbrev pub is_vector : Shape → Bool
is_vector s = eqb s.cols 1 && leb 2 s.rows

-- 2 to 4 by 2 to 4 matrix
abbrev pub is_matrix : Shape → Bool
is_matrix s = leb 2 s.cols

-- columns times rows
abbrev pub component_count : Shape → ℕ
component_count s = s.cols * s.rows

-- columns and rows from 1 to 4
abbrev pub Small : Shape → Type 0
Small s = (1 ≤ s.cols) × (s.cols ≤ 4) × (1 ≤ s.rows) × (s.rows ≤ 4)

-- whether a test holds of each
unfoldable pub every : (ℕ → Bool) → List ℕ → Bool
every p [] = true
every p (x ∷ xs) = p x && every p xs

-- component i of those that go column by column
abbrev pub component_at : List ℕ → ℕ → ℕ
component_at xs i = get_or xs i 0

-- a known type and shape, and proper components; those beyond the shape's count are ignored
unfoldable pub operand_formed : Instance → Bool
operand_formed v = shape_ok v.ty v.cols v.rows && every (proper_of v.ty) (up_to (component_at v.comps) (component_count (shape_of v)))

-- a scalar as an operand; its unused components are 0
abbrev pub a_scalar : ℕ → ℕ → Instance
a_scalar ty b = record { ty = ty; cols = 1; rows = 1; comps = b ∷ replicate 15 0 }
