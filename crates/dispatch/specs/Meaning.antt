-- What an operator gives on operands of any shape, in the order of the checks. Assumes nothing.
use Rattle.std.specs.Prelude.{ℕ, Option, Some, None, ◌-◌, ◌*◌, Bool, true, false, not, List, eqb, Ok, Err}
use Rattle.value.specs.Pattern.{pick}
use Rattle.types.specs.Types.{right_of, unary_right_of, result_type}
use Rattle.value.specs.Refusals as No
use Rattle.operand.specs.Operand.{shape_of, is_matrix, component_count, operand_formed}
use Rattle.operand.specs.Outcome.{refused_with, refused_as, value_of}
use Rattle.components.specs.Components.{Out, each_component, lane, stride_of, binary_at, unary_at, converted_at}
use Rattle.products.specs.Products.{cell_at, vector_matrix}
use Rattle.pairing.specs.Pairing.{op_known, unary_known, stage_known, pair_ok, targets_of, is_product, fits_of, misfit_of, result_shape}
use Rattle.operand.specs.declared.Instance.{Instance}
use Rattle.operand.specs.declared.Outcome.{Outcome}
use Rattle.operand.specs.declared.Shape.{Shape}

-- a check that must hold, the number that answers where it does not, and what comes after it
abbrev pub refuse_unless : Bool → ℕ → Outcome → Outcome
refuse_unless true n o = o
refuse_unless false n o = refused_with n 0

-- a refusal is the answer; a result goes on
abbrev pub on_result : {A : Type 0} → Out A → (A → Outcome) → Outcome
on_result (Ok a) k = k a
on_result (Err r) k = refused_as r

-- components as a value of a type and shape
abbrev pub shaped_answer : Out (List ℕ) → ℕ → ℕ → ℕ → Outcome
shaped_answer (Ok cs) ty c r = value_of (record { ty = ty; cols = c; rows = r; comps = cs })
shaped_answer (Err r) ty c w = refused_as r

-- by component, of the shape s; a scalar stands for every component of the other operand
abbrev pub by_component_as : Shape → ℕ → ℕ → ℕ → Shape → List ℕ → Shape → List ℕ → Outcome
by_component_as s op stage ty a xs b ys =
    shaped_answer (each_component (binary_at op stage ty (lane xs 0 (stride_of a)) (lane ys 0 (stride_of b))) (component_count s))
    (result_type op ty) s.cols s.rows

-- vectors go by component; the answer's shape is that of the operand that is no scalar
unfoldable pub by_component : ℕ → ℕ → ℕ → Shape → List ℕ → Shape → List ℕ → Outcome
by_component op stage ty a xs b ys = by_component_as (result_shape a b) op stage ty a xs b ys

-- the products that sum: a vector on the left gives a vector; else one column of the left's rows for each column of the right
unfoldable pub matrix_product : ℕ → ℕ → Shape → List ℕ → Shape → List ℕ → Outcome
matrix_product stage ty a xs b ys =
    pick (eqb a.cols 1)
    (shaped_answer (vector_matrix stage ty xs ys b.rows b.cols (b.rows - 1)) ty 1 b.cols)
    (shaped_answer (each_component (cell_at stage ty xs ys a.rows a.cols) (a.rows * b.cols)) ty b.cols a.rows)

-- equal shape; the type's right to the operator; components from 0 up
unfoldable pub on_converted : ℕ → ℕ → ℕ → Shape → List ℕ → Shape → List ℕ → Outcome
on_converted op stage ty a xs b ys =
    refuse_unless (fits_of op a b) (misfit_of op a b)
    (refuse_unless (right_of op ty) No.Binary
    (pick (is_product op a b) (matrix_product stage ty a xs b ys) (by_component op stage ty a xs b ys)))

-- conversions, left first; then the operator on the converted components
unfoldable pub converted_to : ℕ → ℕ → ℕ → ℕ → Instance → Instance → Outcome
converted_to x y op stage l r =
    on_result (each_component (converted_at l.ty x l.comps) (component_count (shape_of l))) (λ xs.
    on_result (each_component (converted_at r.ty y r.comps) (component_count (shape_of r))) (λ ys.
    on_converted op stage x (shape_of l) xs (shape_of r) ys))

-- no common type is Binary
abbrev pub on_targets : Option (ℕ × ℕ) → ℕ → ℕ → Instance → Instance → Outcome
on_targets (Some (x, y)) op stage l r = converted_to x y op stage l r
on_targets None op stage l r = refused_with No.Binary 0

-- shape pair; common type; conversions and what comes after
unfoldable pub judged : ℕ → ℕ → Instance → Instance → Outcome
judged op stage l r = refuse_unless (pair_ok op (shape_of l) (shape_of r)) No.Binary (on_targets (targets_of op l.ty r.ty) op stage l r)

-- a binary operator by code: BadNode, BadStage, a malformed operand, left first; then the operator's own order
unfoldable pub binary_meaning : ℕ → ℕ → Instance → Instance → Outcome
binary_meaning op stage l r =
    refuse_unless (op_known op) No.BadNode
    (refuse_unless (stage_known stage) No.BadStage
    (refuse_unless (operand_formed l) No.BadValue
    (refuse_unless (operand_formed r) No.BadValue
    (judged op stage l r))))

-- a unary operator on a scalar or vector; a matrix, or a type with no right to it, is Unary
unfoldable pub unary_judged : ℕ → Instance → Outcome
unary_judged op v =
    refuse_unless (not (is_matrix (shape_of v))) No.Unary
    (refuse_unless (unary_right_of op v.ty) No.Unary
    (shaped_answer (each_component (unary_at op v.ty v.comps) (component_count (shape_of v))) v.ty v.cols v.rows))

-- a unary operator by code: BadNode, BadStage, a malformed operand; then the operator
unfoldable pub unary_meaning : ℕ → ℕ → Instance → Outcome
unary_meaning op stage v =
    refuse_unless (unary_known op) No.BadNode
    (refuse_unless (stage_known stage) No.BadStage
    (refuse_unless (operand_formed v) No.BadValue
    (unary_judged op v)))
