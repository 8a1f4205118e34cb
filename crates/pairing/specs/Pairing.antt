-- Which shapes and which types an operator takes. Assumes nothing.
use Rattle.std.specs.Prelude.{ℕ, Option, Some, None, Result, Ok, Err, ⊤, Bool, not, ◌&&◌, ◌||◌, eqb, leb}
use Rattle.value.specs.declared.ShaderStage.{ShaderStage}
use Rattle.value.specs.declared.ShaderStage.TheVariants.{Const, Override, Exec}
use Rattle.types.specs.Types.{known_of, goes_to, common_type}
use Rattle.value.specs.Pattern.{pick}
use Rattle.value.specs.Refusals as No
use Rattle.operand.specs.Operand.{is_scalar, is_vector, is_matrix}
use Rattle.operand.specs.declared.Shape.{Shape}

-- 1 `||`, 2 `&&`, 3 to 7 `+ - * / %`, 8 to 13 `== != < <= > >=`, 14 to 16 `| & ^`, 17 `<<`, 18 `>>`
abbrev pub op_known : ℕ → Bool
op_known op = leb 1 op && leb op 18

-- 1 `!`, 2 `-`, 3 `~`
abbrev pub unary_known : ℕ → Bool
unary_known op = leb 1 op && leb op 3

-- 0 Const, 1 Override, 2 Exec
abbrev pub stage_code : ShaderStage → ℕ
stage_code Const = 0
stage_code Override = 1
stage_code Exec = 2

-- no other code is a stage of evaluation
abbrev pub stage_known : ℕ → Bool
stage_known stage = leb stage 2

-- scalars meet in every operator, vectors in all but `||` and `&&`; scalar with vector `+ - * / %` only; matrix with matrix `+ - *`;
-- scalar with matrix, matrix times vector, vector times matrix `*` only
abbrev pub pair_ok : ℕ → Shape → Shape → Bool
pair_ok op a b =
    (is_scalar a && is_scalar b)
    || (leb 3 op && is_vector a && is_vector b)
    || (leb 3 op && leb op 7 && is_scalar a && is_vector b)
    || (leb 3 op && leb op 7 && is_vector a && is_scalar b)
    || (leb 3 op && leb op 5 && is_matrix a && is_matrix b)
    || (eqb op 5 && (is_matrix a || is_matrix b))

-- a common type for both operands
abbrev pub to_both : Option ℕ → Option (ℕ × ℕ)
to_both (Some t) = Some (t, t)
to_both None = None

-- the types that the operands convert to: the common type; for a shift the left's own, and U32 for a count of U32 or AbstractInt
unfoldable pub targets_of : ℕ → ℕ → ℕ → Option (ℕ × ℕ)
targets_of op x y = pick (leb 17 op) (pick (known_of x && (eqb y 4 || goes_to y 4)) (Some (x, 4)) None) (to_both (common_type x y))

-- matrix with matrix, matrix times vector, vector times matrix: products that sum
abbrev pub is_product : ℕ → Shape → Shape → Bool
is_product op a b = eqb op 5 && not (is_scalar a) && not (is_scalar b) && (is_matrix a || is_matrix b)

-- vector times matrix needs count = rows; matrix times vector, columns = count; matrix times matrix, left columns = right rows
abbrev pub inner_ok : Shape → Shape → Bool
inner_ok a b = (eqb a.cols 1 && eqb a.rows b.rows) || (leb 2 a.cols && eqb a.cols b.rows)

-- equal shape; a scalar goes with every shape
abbrev pub same_shape : Shape → Shape → Bool
same_shape a b = is_scalar a || is_scalar b || (eqb a.cols b.cols && eqb a.rows b.rows)

-- equal shape; for a product that sums, its inner sizes
abbrev pub fits_of : ℕ → Shape → Shape → Bool
fits_of op a b = pick (is_product op a b) (inner_ok a b) (same_shape a b)

-- shapes that do not fit: Binary for a product's inner sizes, else CompwiseBinary
abbrev pub misfit_of : ℕ → Shape → Shape → ℕ
misfit_of op a b = pick (is_product op a b) No.Binary No.CompwiseBinary

-- the shape of an answer by component: that of the operand that is no scalar, where one is
abbrev pub result_shape : Shape → Shape → Shape
result_shape a b = pick (is_scalar a) b a

-- BadNode for an unknown operator, then BadStage for an unknown stage, then BadValue for a malformed operand; Ok where all three hold
abbrev pub call_fault : Bool → Bool → Bool → Result ⊤ ℕ
call_fault known staged formed = pick known (pick staged (pick formed (Ok tt) (Err No.BadValue)) (Err No.BadStage)) (Err No.BadNode)
