-- On scalars these operators answer what the operators of the same names on `Scalar` answer (`arithmetic::op_add` and the others). Assumes nothing.
use Prim.Native.Nat.{ℕ}
use mathlib.Core.Path.{◌≡◌, refl, ap, ◌∙◌}
use mathlib.Core.Bool.{true}
use mathlib.Core.List.{[], ◌∷◌, map}
use Rattle.value.specs.declared.Scalar.{Scalar}
use Rattle.value.specs.declared.ShaderStage.{ShaderStage}
use Rattle.value.specs.declared.ShaderStage.TheVariants.{Const, Override, Exec}
use Rattle.value.specs.Answer.{stage_of}
use Rattle.value.specs.Pair.{pair_of}
use Rattle.value.proofs.Sound.{Sound}
use Rattle.value.specs.Refusals as No
use Rattle.conversion.specs.Convert.{convert_to, common_of}
use Rattle.relation.specs.Logical.{not_of, or_of, and_of}
use Rattle.relation.specs.Comparison.{eq_of, ne_of, lt_of, le_of, gt_of, ge_of}
use Rattle.arithmetic.specs.Arithmetic.{neg_of, add_of, sub_of, mul_of, div_of, rem_of}
use Rattle.bitwise.specs.Bits.{bit_not_of, bit_or_of, bit_and_of, bit_xor_of}
use Rattle.bitwise.specs.Shift.{shl_of, shr_of}
use Rattle.scalar.specs.Step.{operator_of}
use Rattle.scalar.proofs.Operators.{named}
use Rattle.pairing.specs.Pairing.{op_known, stage_known, stage_code}
use Rattle.dispatch.specs.Meaning.{refuse_unless, unary_meaning, binary_meaning}
use Rattle.shape.proofs.Direct.{operand_of, result_answer, direct_binary, direct_unary}

-- a stage's code is known and names the stage
code_known : (stage : ShaderStage) → stage_known (stage_code stage) ≡ true
code_known stage = elim stage as (λ stage. stage_known (stage_code stage) ≡ true) [ Const ↦ refl | Override ↦ refl | Exec ↦ refl ]

code_names : (stage : ShaderStage) → stage_of (stage_code stage) ≡ stage
code_names stage = elim stage as (λ stage. stage_of (stage_code stage) ≡ stage) [ Const ↦ refl | Override ↦ refl | Exec ↦ refl ]

module _ (l r : Scalar) (hl : Sound l) (hr : Sound r) where
  by_code : (stage : ShaderStage) (op : ℕ) → op_known op ≡ true → binary_meaning op (stage_code stage) (operand_of l) (operand_of r) ≡ result_answer (operator_of op stage l r)
  by_code stage op k =
      direct_binary op (stage_code stage) l r hl hr
      ∙ (λ i. refuse_unless (k i) No.BadNode (refuse_unless (code_known stage i) No.BadStage (result_answer (operator_of op (code_names stage i) l r))))

  -- the codes 1 to 18, in the order `op_or` to `op_shr`
  pub two_scalars : (stage : ShaderStage) → (
      map (λ op. binary_meaning op (stage_code stage) (operand_of l) (operand_of r))
      (1 ∷ 2 ∷ 3 ∷ 4 ∷ 5 ∷ 6 ∷ 7 ∷ 8 ∷ 9 ∷ 10 ∷ 11 ∷ 12 ∷ 13 ∷ 14 ∷ 15 ∷ 16 ∷ 17 ∷ 18 ∷ [])
      ≡ map result_answer (
      or_of (pair_of l r) ∷ and_of (pair_of l r)
      ∷ add_of stage (common_of l r) ∷ sub_of stage (common_of l r) ∷ mul_of stage (common_of l r) ∷ div_of stage (common_of l r) ∷ rem_of stage (common_of l r)
      ∷ eq_of (common_of l r) ∷ ne_of (common_of l r) ∷ lt_of (common_of l r) ∷ le_of (common_of l r) ∷ gt_of (common_of l r) ∷ ge_of (common_of l r)
      ∷ bit_or_of (common_of l r) ∷ bit_and_of (common_of l r) ∷ bit_xor_of (common_of l r)
      ∷ shl_of stage l (convert_to 4 r) ∷ shr_of stage l (convert_to 4 r) ∷ []))
  two_scalars stage =
      (λ i. by_code stage 1 refl i ∷ by_code stage 2 refl i ∷ by_code stage 3 refl i ∷ by_code stage 4 refl i ∷ by_code stage 5 refl i ∷ by_code stage 6 refl i
      ∷ by_code stage 7 refl i ∷ by_code stage 8 refl i ∷ by_code stage 9 refl i ∷ by_code stage 10 refl i ∷ by_code stage 11 refl i ∷ by_code stage 12 refl i
      ∷ by_code stage 13 refl i ∷ by_code stage 14 refl i ∷ by_code stage 15 refl i ∷ by_code stage 16 refl i ∷ by_code stage 17 refl i ∷ by_code stage 18 refl i ∷ [])
      ∙ ap (map result_answer) (named stage l r)

-- the codes 1 to 3: `op_not`, `op_neg`, `op_bitnot`
pub one_scalar : (s : Scalar) → Sound s → map (λ op. unary_meaning op 0 (operand_of s)) (1 ∷ 2 ∷ 3 ∷ []) ≡ map result_answer (not_of s ∷ neg_of s ∷ bit_not_of s ∷ [])
one_scalar s h = (λ i. direct_unary 1 0 s h i ∷ direct_unary 2 0 s h i ∷ direct_unary 3 0 s h i ∷ [])
