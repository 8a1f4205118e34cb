-- The direct call on scalars answers what the operators on scalars answer (`arithmetic::op_add` and the others, which follow the Rust's
-- `Scalar::op_*`), for every code, stage and value. Assumes nothing.
use Prim.Native.Nat.{ℕ}
use mathlib.Core.Path.{◌≡◌, refl, sym, ap, ◌∙◌}
use mathlib.Core.Bool.{Bool, true, false, ◌&&◌, ◌||◌}
use lib.Dec.{eqb, leb}
use Rattle.types.specs.Types.{known_of, goes_to, common_type}
use Rattle.std.specs.Prelude.{Option, Some, None}
use Rattle.value.specs.declared.Scalar.{Scalar}
use Rattle.value.specs.declared.Scalar.TheVariants.{Bool as bool, AbstractInt, AbstractFloat, I32, U32, F32, F16}
use Rattle.value.specs.Answer.{Result, stage_of}
use Rattle.value.specs.Pattern.{pick}
use Rattle.value.specs.Pair.{both_of}
use Rattle.value.specs.Scalar.{type_of, bits_of, kept_scalar}
use Rattle.value.proofs.Sound.{Sound, bits_proper}
use Rattle.value.specs.Refusals as No
use Rattle.conversion.specs.Convert.{convert_to, in_common, common_of}
use Rattle.scalar.specs.Step.{stepped, unary_of, binary_of, shift_of, operator_of, converted}
use Rattle.scalar.proofs.Operators.{conversion_back, target_back, own_type, step_pair, step_shift, none_binary, no_count, shift_kept_left, no_conversion}
use Rattle.scalar.proofs.Operators.{operator_common, operator_shift, unary_back}
use Rattle.operand.specs.declared.Instance.{Instance}
use Rattle.operand.specs.declared.Outcome.{Outcome}
use Rattle.operand.specs.Operand.{operand_formed, a_scalar}
use Rattle.operand.proofs.Shapes.{formed_one}
use Rattle.components.specs.Components.{conv_result}
use Rattle.pairing.specs.Pairing.{op_known, unary_known, stage_known, to_both, targets_of}
use Rattle.dispatch.specs.Meaning.{refuse_unless, on_result, on_targets, judged, unary_judged, unary_meaning, binary_meaning}
use Rattle.shape.specs.Scalars.{step_answer, on_scalars}
use Rattle.shape.proofs.OnScalars.{operator_step, unary_step, converted_one}

-- a scalar as an operand: its type and its pattern
abbrev pub operand_of : Scalar → Instance
operand_of s = a_scalar (type_of s) (bits_of s)

-- what an operator on scalars answers, as an outcome
abbrev pub result_answer : Result → Outcome
result_answer r = step_answer (stepped r)

known_type : (s : Scalar) → known_of (type_of s) ≡ true
known_type s = elim s as (λ s. known_of (type_of s) ≡ true) [ bool x ↦ refl | AbstractInt x ↦ refl | AbstractFloat x ↦ refl | I32 x ↦ refl | U32 x ↦ refl | F32 x ↦ refl | F16 x ↦ refl ]

-- ---- a binary operator
module _ (op stage : ℕ) (l r : Scalar) (hl : Sound l) (hr : Sound r) where
  -- two scalars, where they have conversions, and the operator on them
  abbrev worked : ℕ → Option Scalar → Option Scalar → Outcome
  worked ty a b = on_result (conv_result (converted a)) (λ p. on_result (conv_result (converted b)) (λ q. on_scalars op stage ty p q))

  onto : (x y : ℕ) → on_targets (Some (x, y)) op stage (operand_of l) (operand_of r) ≡ worked x (convert_to x l) (convert_to y r)
  onto x y =
      converted_one x y op stage (type_of l) (bits_of l) (type_of r) (bits_of r)
      ∙ (λ i. on_result (conv_result (conversion_back x l hl i)) (λ p. on_result (conv_result (conversion_back y r hr i)) (λ q. on_scalars op stage x p q)))

  -- to one type
  module _ (t : leb 17 op ≡ false) where
    in_pair : (ty : ℕ) (a b : Option Scalar) → convert_to ty l ≡ a → convert_to ty r ≡ b → worked ty a b ≡ result_answer (binary_of op (stage_of stage) (both_of a b))
    in_pair ty (Some u) (Some v) p q =
        sym (operator_step op stage ty (bits_of u) (bits_of v))
        ∙ ap step_answer (step_pair op stage ty u v (target_back ty l u hl p) t (target_back ty r v hr q))
    in_pair ty (Some u) None p q = ap result_answer (sym (none_binary op (stage_of stage)))
    in_pair ty None b p q = ap result_answer (sym (none_binary op (stage_of stage)))

    in_common_lem : (c : Option ℕ) → on_targets (to_both c) op stage (operand_of l) (operand_of r) ≡ result_answer (binary_of op (stage_of stage) (in_common c l r))
    in_common_lem (Some ty) = onto ty ty ∙ in_pair ty (convert_to ty l) (convert_to ty r) refl refl
    in_common_lem None = ap result_answer (sym (none_binary op (stage_of stage)))

  -- the left's own type, and a count
  module _ (t : leb 17 op ≡ true) where
    by_count : (b : Option Scalar) → convert_to 4 r ≡ b → worked (type_of l) (Some (kept_scalar l)) b ≡ result_answer (shift_of op (stage_of stage) (Some l) b)
    by_count (Some v) q =
        sym (operator_step op stage (type_of l) (bits_of (kept_scalar l)) (bits_of v))
        ∙ ap step_answer (step_shift op stage (type_of l) (kept_scalar l) v (target_back (type_of l) l (kept_scalar l) hl (own_type l)) t (target_back 4 r v hr q))
        ∙ ap result_answer (shift_kept_left op (stage_of stage) l (Some v))
    by_count None q = ap result_answer (sym (no_count op (stage_of stage) l))

    shifted : (c : Bool) → (eqb (type_of r) 4 || goes_to (type_of r) 4) ≡ c
        → on_targets (pick c (Some (type_of l, 4)) None) op stage (operand_of l) (operand_of r) ≡ result_answer (shift_of op (stage_of stage) (Some l) (convert_to 4 r))
    shifted true e =
        onto (type_of l) 4 ∙ ap (λ (a : Option Scalar). worked (type_of l) a (convert_to 4 r)) (own_type l) ∙ by_count (convert_to 4 r) refl
    shifted false e =
        ap result_answer (sym (ap (shift_of op (stage_of stage) (Some l)) (no_conversion 4 r e) ∙ no_count op (stage_of stage) l))

  on_targets_lem : on_targets (targets_of op (type_of l) (type_of r)) op stage (operand_of l) (operand_of r) ≡ result_answer (operator_of op (stage_of stage) l r)
  unfolding targets_of common_of
  on_targets_lem = go (leb 17 op) refl
    where
      go : (t : Bool) → leb 17 op ≡ t
          → on_targets (pick t (pick (known_of (type_of l) && (eqb (type_of r) 4 || goes_to (type_of r) 4)) (Some (type_of l, 4)) None) (to_both (common_type (type_of l) (type_of r))))
          op stage (operand_of l) (operand_of r) ≡ result_answer (operator_of op (stage_of stage) l r)
      go true t =
          ap (λ (k : Bool). on_targets (pick (k && (eqb (type_of r) 4 || goes_to (type_of r) 4)) (Some (type_of l, 4)) None) op stage (operand_of l) (operand_of r)) (known_type l)
          ∙ shifted t (eqb (type_of r) 4 || goes_to (type_of r) 4) refl ∙ ap result_answer (sym (operator_shift op (stage_of stage) l r t))
      go false t = in_common_lem t (common_type (type_of l) (type_of r)) ∙ ap result_answer (sym (operator_common op (stage_of stage) l r t))

  -- an unknown operator or stage is refused by its number; else the scalar operator's answer is the call's
  pub direct_binary : binary_meaning op stage (operand_of l) (operand_of r)
      ≡ refuse_unless (op_known op) No.BadNode (refuse_unless (stage_known stage) No.BadStage (result_answer (operator_of op (stage_of stage) l r)))
  unfolding binary_meaning judged
  direct_binary =
      let p : operand_formed (operand_of l) ≡ true = formed_one (type_of l) (bits_of l) ∙ bits_proper l hl in
      let q : operand_formed (operand_of r) ≡ true = formed_one (type_of r) (bits_of r) ∙ bits_proper r hr in
      (λ i. refuse_unless (op_known op) No.BadNode (refuse_unless (stage_known stage) No.BadStage (refuse_unless (p i) No.BadValue (refuse_unless (q i) No.BadValue (on_targets_lem i)))))

-- ---- a unary operator
pub direct_unary : (op stage : ℕ) (s : Scalar) → Sound s
    → unary_meaning op stage (operand_of s) ≡ refuse_unless (unary_known op) No.BadNode (refuse_unless (stage_known stage) No.BadStage (result_answer (unary_of op s)))
unfolding unary_meaning
direct_unary op stage s h =
    let p : operand_formed (operand_of s) ≡ true = formed_one (type_of s) (bits_of s) ∙ bits_proper s h in
    let q : unary_judged op (operand_of s) ≡ result_answer (unary_of op s) = sym (unary_step op (type_of s) (bits_of s)) ∙ ap step_answer (unary_back op s h) in
    (λ i. refuse_unless (unary_known op) No.BadNode (refuse_unless (stage_known stage) No.BadStage (refuse_unless (p i) No.BadValue (q i))))
