-- For each public call a witness at which a wrong program's answer is not the one that the contract asks for. Assumes nothing.
use mathlib.Core.Path.{◌≡◌, refl}
use mathlib.Core.Bool.{true, false}
use Prim.Native.Nat.{ℕ}
use lib.Dec.{eqb}
use Rattle.std.specs.Prelude.{Some, None, Ok, Err}
use Rattle.types.specs.Types.{common_type}
use Rattle.value.specs.declared.ShaderStage.TheVariants.{Const, Override, Exec}
use Rattle.operand.specs.declared.Shape.{Shape}
use Rattle.pairing.specs.Pairing.{op_known, unary_known, stage_code, stage_known, call_fault, pair_ok, targets_of, is_product, fits_of, misfit_of, result_shape}

abbrev by : ℕ → ℕ → Shape
by c r = record { cols = c; rows = r }

-- a code too many, or none taken; a setting's mark, which is 3, taken for a stage
pub no_code : (op_known 0 ≡ false) × (op_known 19 ≡ false) × (op_known 18 ≡ true) × (unary_known 4 ≡ false) × (unary_known 1 ≡ true) × (stage_known 3 ≡ false)
no_code = (refl, refl, refl, refl, refl, refl)

-- Override for Exec
pub stages : (eqb (stage_code Exec) (stage_code Override) ≡ false) × (eqb (stage_code Const) (stage_code Override) ≡ false)
stages = (refl, refl)

-- the stage judged before the operator, the operands before the stage
pub faults : (call_fault false false false ≡ Err 25) × (call_fault true false false ≡ Err 23) × (call_fault true true false ≡ Err 26) × (call_fault true true true ≡ Ok tt)
faults = (refl, refl, refl, refl)

-- `&&` of vectors; a comparison of scalar and vector; a quotient of matrices; every pair refused
pub no_pair : (pair_ok 2 (by 1 2) (by 1 2) ≡ false) × (pair_ok 8 (by 1 1) (by 1 2) ≡ false) × (pair_ok 6 (by 2 2) (by 2 2) ≡ false) × (pair_ok 5 (by 1 1) (by 4 2) ≡ true)
no_pair = (refl, refl, refl, refl)

-- a count converted to the left operand's type, or of I32; the right's type for AbstractFloat and AbstractInt
pub other_targets : (targets_of 17 3 1 ≡ Some (3, 4)) × (targets_of 17 3 3 ≡ None) × (targets_of 3 2 1 ≡ Some (2, 2)) × (targets_of 3 7 7 ≡ None)
unfolding targets_of common_type
other_targets = (refl, refl, refl, refl)

-- a sum as a product that sums; vector times vector as one
pub no_product : (is_product 3 (by 2 2) (by 2 2) ≡ false) × (is_product 5 (by 1 2) (by 1 2) ≡ false) × (is_product 5 (by 1 2) (by 2 2) ≡ true)
no_product = (refl, refl, refl)

-- vectors cut short; the inner sizes not looked at, or the outer ones in their place
pub no_fit : (fits_of 3 (by 1 2) (by 1 3) ≡ false) × (fits_of 5 (by 2 3) (by 1 3) ≡ false) × (fits_of 5 (by 2 3) (by 4 2) ≡ true) × (fits_of 5 (by 1 1) (by 1 3) ≡ true)
no_fit = (refl, refl, refl, refl)

-- CompwiseBinary for inner sizes, Binary for vectors
pub numbers : (misfit_of 5 (by 2 3) (by 1 3) ≡ 2) × (misfit_of 3 (by 1 2) (by 1 3) ≡ 3)
numbers = (refl, refl)

-- a scalar's shape for the answer
pub shapes : (result_shape (by 1 1) (by 1 3) ≡ by 1 3) × (result_shape (by 2 3) (by 1 1) ≡ by 2 3)
shapes = (refl, refl)
