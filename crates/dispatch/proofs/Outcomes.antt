-- Every answer of an operator is a well_formed_lem value or a refusal; of well_formed_lem operands with a known operator and stage, an operator's own.
-- Assumes nothing.
use mathlib.Core.Path.{◌≡◌, refl}
use mathlib.Core.Bool.{Bool, true, false, not}
use mathlib.Core.List.{List}
use mathlib.Core.Logic.{◌⊎◌, inl, inr}
use Prim.Native.Nat.{ℕ}
use native.Mathlib.Omega.{arith}
use Rattle.types.specs.Types.{unary_right_of}
use Rattle.value.specs.Refusals as No
use Rattle.operand.specs.Operand.{shape_of, is_matrix, component_count, operand_formed}
use Rattle.operand.specs.Outcome.{refused_with}
use Rattle.operand.specs.declared.Instance.{Instance}
use Rattle.operand.specs.declared.Outcome.{Outcome}
use Rattle.operand.proofs.Shapes.{formed_shaped, formed_small, count_small}
use Rattle.operand.proofs.Answers.{Fine, Sixteen, Answers}
use Rattle.components.specs.Components.{each_component, converted_at, unary_at}
use Rattle.components.proofs.Satisfies.{unary_held, conv_held}
use Rattle.pairing.specs.Pairing.{op_known, unary_known, stage_known, pair_ok, targets_of}
use Rattle.std.specs.Prelude.{Option, Some, None}
use Rattle.pairing.proofs.Meets.{Meets, meets}
use Rattle.dispatch.specs.Meaning.{refuse_unless, on_result, on_targets, converted_to, judged, binary_meaning, unary_judged, unary_meaning}
use Rattle.dispatch.proofs.Answers.{numbered, needed, going, answering}
use Rattle.dispatch.proofs.Converted.{converted_answers}

-- one operand's conversion, and whatever comes after it
conversion_answers : (v : Instance) → operand_formed v ≡ true → (to : ℕ) (k : List ℕ → Outcome) → ((xs : List ℕ) → Answers (k xs))
    → Answers (on_result (each_component (converted_at v.ty to v.comps) (component_count (shape_of v))) k)
conversion_answers v e to k f =
    let n : ℕ = component_count (shape_of v) in
    going (Sixteen (Fine to) n) (each_component (converted_at v.ty to v.comps) n) k
    (conv_held n (count_small (shape_of v) (formed_small v e)) v.ty to v.comps) f

-- ---- binary operators, on well_formed_lem operands
module _ (op stage : ℕ) (l r : Instance) (gl : operand_formed l ≡ true) (gr : operand_formed r ≡ true) where
  both_answer : (x y : ℕ) → pair_ok op (shape_of l) (shape_of r) ≡ true → Meets op l.ty r.ty x y → Answers (converted_to x y op stage l r)
  unfolding converted_to
  both_answer x y pair m =
      conversion_answers l gl x _ (λ xs. conversion_answers r gr y _ (λ ys.
      converted_answers op stage l.ty r.ty x y (shape_of l) (shape_of r) (formed_shaped l gl) (formed_shaped r gr) pair m xs ys))

  targets_answer : pair_ok op (shape_of l) (shape_of r) ≡ true → (t : Option (ℕ × ℕ)) → targets_of op l.ty r.ty ≡ t → Answers (on_targets t op stage l r)
  targets_answer pair (Some (x, y)) e = both_answer x y pair (meets op l.ty r.ty x y e)
  targets_answer pair None e = numbered 2 (omega arith) (omega arith)

  paired : (t : Bool) → pair_ok op (shape_of l) (shape_of r) ≡ t → Answers (refuse_unless t No.Binary (on_targets (targets_of op l.ty r.ty) op stage l r))
  paired true pair = targets_answer pair (targets_of op l.ty r.ty) refl
  paired false pair = numbered 2 (omega arith) (omega arith)

  judged_answers : Answers (judged op stage l r)
  unfolding judged
  judged_answers = paired (pair_ok op (shape_of l) (shape_of r)) refl

  pub binary_answers : op_known op ≡ true → stage_known stage ≡ true → Answers (binary_meaning op stage l r)
  unfolding binary_meaning
  binary_answers known staged = rw (known, staged, gl, gr) judged_answers

-- ---- unary operators, on a well_formed_lem operand
module _ (op stage : ℕ) (v : Instance) (g : operand_formed v ≡ true) where
  unary_judged_lem : Answers (unary_judged op v)
  unfolding unary_judged
  unary_judged_lem =
      let n : ℕ = component_count (shape_of v) in
      needed (not (is_matrix (shape_of v))) 1 _ (omega arith) (omega arith)
      (needed (unary_right_of op v.ty) 1 _ (omega arith) (omega arith)
      (answering (each_component (unary_at op v.ty v.comps) n) v.ty (shape_of v) (formed_shaped v g)
      (unary_held n (count_small (shape_of v) (formed_small v g)) op v.ty v.comps)))

  pub unary_answers : unary_known op ≡ true → stage_known stage ≡ true → Answers (unary_meaning op stage v)
  unfolding unary_meaning
  unary_answers known staged = rw (known, staged, g) unary_judged_lem

-- ---- any operands at all
abbrev pub Outcomes : Outcome → Type 0
Outcomes o = (o ≡ refused_with No.BadNode 0) ⊎ ((o ≡ refused_with No.BadStage 0) ⊎ ((o ≡ refused_with No.BadValue 0) ⊎ Answers o))

-- a check of the operands, in front of an operator
formed_outcome : (b : Bool) (o : Outcome) → (b ≡ true → Outcomes o) → Outcomes (refuse_unless b No.BadValue o)
formed_outcome true o f = f refl
formed_outcome false o f = inr (inr (inl refl))

-- the checks of the operator and of the stage, in front of those
called_outcome : (a b : Bool) (o : Outcome) → Outcomes o → Outcomes (refuse_unless a No.BadNode (refuse_unless b No.BadStage o))
called_outcome true true o f = f
called_outcome true false o f = inr (inl refl)
called_outcome false b o f = inl refl

pub binary_outcomes : (op stage : ℕ) (l r : Instance) → Outcomes (binary_meaning op stage l r)
unfolding binary_meaning
binary_outcomes op stage l r =
    called_outcome (op_known op) (stage_known stage) _ (formed_outcome (operand_formed l) _ (λ u.
    formed_outcome (operand_formed r) _ (λ v. inr (inr (inr (judged_answers op stage l r u v))))))

pub unary_outcomes : (op stage : ℕ) (v : Instance) → Outcomes (unary_meaning op stage v)
unfolding unary_meaning
unary_outcomes op stage v =
    called_outcome (unary_known op) (stage_known stage) _ (formed_outcome (operand_formed v) _ (λ u. inr (inr (inr (unary_judged_lem op stage v u)))))
