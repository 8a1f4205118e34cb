-- For each public call a witness at which a wrong program's answer is not the one that the contract asks for. Assumes nothing.
use mathlib.Core.Path.{◌≡◌, refl}
use mathlib.Core.Bool.{true, false}
use mathlib.Core.List.{◌∷◌}
use lib.Dec.{eqb}
use lib.ListN.{get_or, replicate}
use Rattle.operand.specs.Operand.{shape_ok, is_scalar, is_vector, is_matrix, component_count, every, operand_formed, a_scalar}
use Rattle.low.specs.Bytes.{up_to}
use Rattle.operand.specs.Outcome.{refused_with, refused_as, value_of}

-- five rows; a matrix of one row, of integers, of no type
pub no_shape : (shape_ok 5 1 5 ≡ false) × (shape_ok 5 2 1 ≡ false) × (shape_ok 3 2 2 ≡ false) × (shape_ok 7 1 1 ≡ false)
no_shape = (refl, refl, refl, refl)

-- every shape refused; a vector or a matrix taken for a scalar, a column for a row
pub shapes : (shape_ok 2 4 4 ≡ true) × (shape_ok 0 1 4 ≡ true) × (is_scalar (record { cols = 1; rows = 2 }) ≡ false) × (is_vector (record { cols = 2; rows = 1 }) ≡ false)
shapes = (refl, refl, refl, refl)

pub no_matrix : (is_matrix (record { cols = 1; rows = 4 }) ≡ false) × (component_count (record { cols = 2; rows = 3 }) ≡ 6)
no_matrix = (refl, refl)

-- a Bool of 2; an unused component judged
pub no_operand : (operand_formed (a_scalar 0 2) ≡ false) × (operand_formed (record { ty = 0; cols = 1; rows = 1; comps = 1 ∷ 2 ∷ replicate 14 0 }) ≡ true)
unfolding operand_formed up_to every
no_operand = (refl, refl)

-- one refusal for all, or one without its detail; a value for a refusal
pub other_refusals : (eqb (refused_with 11 32).status (refused_with 4 32).status ≡ false) × (eqb (refused_with 11 32).detail 0 ≡ false)
other_refusals = (refl, refl)

-- a scalar in every component, or of one fixed type
pub one_in_use : (get_or (a_scalar 3 7).comps 1 0 ≡ 0) × ((a_scalar 3 7).ty ≡ 3)
one_in_use = (refl, refl)

-- zeros beside a shift's refusal; an operand beside another
pub beside_refusals : ((refused_as (record { number = 9; detail = 32; ty = 4; bits = 1 })).value ≡ a_scalar 4 1)
    × (refused_as (record { number = 7; detail = 0; ty = 4; bits = 1 }) ≡ refused_with 7 0)
beside_refusals = (refl, refl)

-- one fixed value for all; a refusal for a value
pub other_values : (eqb (get_or (value_of (a_scalar 3 7)).value.comps 0 0) (get_or (value_of (a_scalar 3 8)).value.comps 0 0) ≡ false) × ((value_of (a_scalar 3 7)).status ≡ 0)
other_values = (refl, refl)
