-- Scalars: what an operator gives on them by components is one step on their converted patterns. Assumes nothing.
use mathlib.Core.Path.{◌≡◌, refl, sym, ap, subst, ◌∙◌}
use mathlib.Core.Bool.{Bool, true, false, not, ◌&&◌, false≢true}
use mathlib.Core.List.{List, ◌∷◌}
use Prim.Native.Nat.{ℕ}
use lib.Dec.{eqb}
use lib.ListN.{get_or, replicate}
use borrow.Author.Tests.{eqb-true}
use native.Mathlib.Omega.{arith}
use Rattle.std.specs.Prelude.{Option, Some, None, Result, Ok, Err, ⊤, ok_or, MatchResult, IsErrAnd}
use Rattle.value.specs.declared.Refusal.{Refusal}
use Rattle.value.specs.Pattern.{pick, proper_of}
use Rattle.scalar.specs.Step.{Step, refusal, step_of, unary_step_of, conv_of}
use Rattle.scalar.proofs.Promises.{Stepped, step_answers, unary_answers}
use Rattle.scalar.proofs.Rights.{Righted, unary_righted, rightless}
use Rattle.types.specs.Types.{right_of, unary_right_of, result_type}
use Rattle.value.specs.Refusals as No
use Rattle.operand.specs.Operand.{shape_ok, shape_of, is_scalar, is_matrix, component_count, every, component_at, operand_formed, a_scalar}
use Rattle.low.specs.Bytes.{up_to}
use Rattle.components.specs.Components.{Out, all_or_refusal, each_component, step_result, conv_result, binary_at, unary_at, lane, converted_at}
use Rattle.pairing.specs.Pairing.{op_known, unary_known, stage_known, inner_ok, same_shape, pair_ok, targets_of}
use Rattle.operand.specs.Outcome.{refused_with, refused_as}
use Rattle.dispatch.specs.Meaning.{refuse_unless, on_result, shaped_answer, matrix_product, by_component, on_converted, converted_to, on_targets, judged, unary_judged, unary_meaning, binary_meaning}
use Rattle.shape.specs.Scalars.{scalar_answer, step_answer, on_scalars}
use Rattle.operand.specs.declared.Instance.{Instance}
use Rattle.operand.specs.declared.Outcome.{Outcome}
use Rattle.operand.specs.declared.Shape.{Shape}
use Rattle.low.proofs.Tests.{both}

-- ---- the tests of the code against the definitions
-- a refusal that a `?` hands on
pub handed : {o : Step} {r e : Refusal} {n : ℕ} → o ≡ Err e → e ≡ r → r ≡ refusal n 0 → step_answer o ≡ refused_as (refusal n 0)
handed h k q = ap step_answer (h ∙ ap Err (k ∙ q))

-- a call's fault, made a refusal of its number
module _ {s : Result ⊤ Refusal} (Q : ℕ → Refusal → Type 0) where
  pub fault_err : (r : Result ⊤ ℕ) {y : Refusal} → MatchResult r (λ x. s ≡ Ok x) (λ n. IsErrAnd s (Q n)) → s ≡ Err y → (n : ℕ) × (r ≡ Err n) × Q n y
  fault_err (Ok x) {y} h e = let z : ◌≡◌ {A = Result ⊤ Refusal} (Ok x) (Err y) = sym h ∙ e in let k : ◌≡◌ {A = ℕ} 0 1 = cc in absurd (omega arith)
  fault_err (Err n) h e = (n, refl, subst (λ (s : Result ⊤ Refusal). IsErrAnd s (Q n)) e h)

  pub fault_ok : (r : Result ⊤ ℕ) {x : ⊤} → MatchResult r (λ x. s ≡ Ok x) (λ n. IsErrAnd s (Q n)) → s ≡ Ok x → r ≡ Ok tt
  fault_ok (Ok x) h e = refl
  fault_ok (Err n) h e = absurd (subst (λ (s : Result ⊤ Refusal). IsErrAnd s (Q n)) e h)

-- a value, or the refusal in its place
module _ {A : Type 0} {s : Result A Refusal} where
  pub missing : (o : Option A) (e : Refusal) {r : Refusal} → s ≡ ok_or o e → s ≡ Err r → (o ≡ None) × (r ≡ e)
  missing None e {r} h k = let z : ◌≡◌ {A = Result A Refusal} (Err e) (Err r) = sym h ∙ k in (refl, cc)
  missing (Some x) e {r} h k = let z : ◌≡◌ {A = Result A Refusal} (Ok x) (Err r) = sym h ∙ k in let k : ◌≡◌ {A = ℕ} 0 1 = cc in absurd (omega arith)

  pub present : (o : Option A) (e : Refusal) {x : A} → s ≡ ok_or o e → s ≡ Ok x → o ≡ Some x
  present None e {x} h k = let z : ◌≡◌ {A = Result A Refusal} (Err e) (Ok x) = sym h ∙ k in let k : ◌≡◌ {A = ℕ} 0 1 = cc in absurd (omega arith)
  present (Some y) e {x} h k = let z : ◌≡◌ {A = Result A Refusal} (Ok y) (Ok x) = sym h ∙ k in cc

-- the types that two scalars convert to: Binary where there are none
module _ (op stage lt l rt r : ℕ) (t : Option (ℕ × ℕ)) (e : t ≡ targets_of op lt rt) (v : Outcome) where
  pub no_targets : t ≡ None → v ≡ refused_with No.Binary 0 → v ≡ judged op stage (a_scalar lt l) (a_scalar rt r)
  unfolding judged
  no_targets h q = rw (← e, h) q

  pub two_targets : (x y : ℕ) → t ≡ Some (x, y) → v ≡ converted_to x y op stage (a_scalar lt l) (a_scalar rt r) → v ≡ judged op stage (a_scalar lt l) (a_scalar rt r)
  unfolding judged
  two_targets x y h q = rw (← e, h) q

-- a conversion that fails is Binary, one with bits goes on
module _ (c d : Option ℕ) (e : c ≡ d) (v : Outcome) (k : ℕ → Outcome) where
  pub conv_none : c ≡ None → v ≡ refused_with No.Binary 0 → v ≡ on_result (conv_result d) k
  conv_none h q = rw (← e, h) q

  pub conv_bits : (b : ℕ) → c ≡ Some b → v ≡ k b → v ≡ on_result (conv_result d) k
  conv_bits b h q = rw (← e, h) q

-- ---- one component in use
abbrev alone : Out ℕ → Out (List ℕ)
alone (Ok b) = Ok (b ∷ replicate 15 0)
alone (Err r) = Err r

each_one : (f : ℕ → Out ℕ) → each_component f 1 ≡ alone (f 0)
unfolding up_to all_or_refusal
each_one f = go (f 0) refl
  where
    go : (o : Out ℕ) → f 0 ≡ o → each_component f 1 ≡ alone o
    go (Ok b) e = rw e
    go (Err r) e = rw e

answer_one : (o : Out ℕ) (ty : ℕ) → shaped_answer (alone o) ty 1 1 ≡ on_result o (scalar_answer ty)
answer_one (Ok b) ty = refl
answer_one (Err r) ty = refl

-- ---- one column of one row
abbrev unit : Shape
unit = record { cols = 1; rows = 1 }

is_unit : (s : Shape) → is_scalar s ≡ true → s ≡ unit
is_unit s e =
    let h = both (eqb s.cols 1) (eqb s.rows 1) e in
    let p : s.cols ≡ 1 = eqb-true _ _ h.0 in
    let q : s.rows ≡ 1 = eqb-true _ _ h.1 in
    (λ i. record { cols = p i; rows = q i })

module _ (op stage ty : ℕ) where
  -- scalars fit, no product of theirs sums, and there is one step
  component_one : (p q : ℕ) (xs ys : List ℕ) → by_component op stage ty unit (p ∷ xs) unit (q ∷ ys) ≡ on_result (step_result (step_of op stage ty p q)) (scalar_answer (result_type op ty))
  unfolding by_component
  component_one p q xs ys =
      ap (λ (o : Out (List ℕ)). shaped_answer o (result_type op ty) 1 1) (each_one (binary_at op stage ty (lane (p ∷ xs) 0 0) (lane (q ∷ ys) 0 0)))
      ∙ answer_one (step_result (step_of op stage ty p q)) (result_type op ty)

  checks_one : (xs ys : List ℕ) → on_converted op stage ty unit xs unit ys ≡ refuse_unless (right_of op ty) No.Binary (by_component op stage ty unit xs unit ys)
  unfolding on_converted
  checks_one xs ys = go (eqb op 5)
    where
      go : (t : Bool) → refuse_unless (pick (t && false && false && false) (inner_ok unit unit) (same_shape unit unit)) (pick (t && false && false && false) 2 3)
          (refuse_unless (right_of op ty) No.Binary (pick (t && false && false && false) (matrix_product stage ty unit xs unit ys) (by_component op stage ty unit xs unit ys)))
          ≡ refuse_unless (right_of op ty) No.Binary (by_component op stage ty unit xs unit ys)
      go true = refl
      go false = refl

  -- a step answers for the right as well: without it, it refuses with Binary
  operated : (p q : ℕ) → on_scalars op stage ty p q ≡ on_result (step_result (step_of op stage ty p q)) (scalar_answer (result_type op ty))
  operated p q = checks_one _ _ ∙ ap (refuse_unless (right_of op ty) No.Binary) (component_one p q (replicate 15 0) (replicate 15 0)) ∙ go (right_of op ty) refl
    where
      go : (t : Bool) → right_of op ty ≡ t → refuse_unless t No.Binary (on_result (step_result (step_of op stage ty p q)) (scalar_answer (result_type op ty)))
          ≡ on_result (step_result (step_of op stage ty p q)) (scalar_answer (result_type op ty))
      go true e = refl
      go false e = ap (λ (s : Step). on_result (step_result s) (scalar_answer (result_type op ty))) (sym (rightless op stage ty p q e))

  -- and its answer has the operator's type
  pub operator_step : (p q : ℕ) → step_answer (step_of op stage ty p q) ≡ on_scalars op stage ty p q
  operator_step p q = go (step_of op stage ty p q) (step_answers op stage ty p q) ∙ sym (operated p q)
    where
      go : (s : Step) → Stepped (result_type op ty) s → step_answer s ≡ on_result (step_result s) (scalar_answer (result_type op ty))
      go (Ok (t, b)) h = ap (λ (t : ℕ). scalar_answer t b) h.0
      go (Err r) h = refl

-- a unary operator on a scalar
unary_one : (op ty b : ℕ) → unary_judged op (a_scalar ty b) ≡ refuse_unless (unary_right_of op ty) No.Unary (on_result (step_result (unary_step_of op ty b)) (scalar_answer ty))
unfolding unary_judged
unary_one op ty b =
    ap (λ (o : Out (List ℕ)). refuse_unless (unary_right_of op ty) No.Unary (shaped_answer o ty 1 1)) (each_one (unary_at op ty (a_scalar ty b).comps))
    ∙ ap (refuse_unless (unary_right_of op ty) No.Unary) (answer_one (step_result (unary_step_of op ty b)) ty)

-- a unary step answers for the right as well: its refusal is Unary, right or not, and its bits come with the right
pub unary_step : (op ty b : ℕ) → step_answer (unary_step_of op ty b) ≡ unary_judged op (a_scalar ty b)
unary_step op ty b = go (unary_right_of op ty) (unary_step_of op ty b) (unary_answers op ty b) (unary_righted op ty b) ∙ sym (unary_one op ty b)
  where
    go : (t : Bool) (s : Step) → Stepped ty s → Righted t s → step_answer s ≡ refuse_unless t No.Unary (on_result (step_result s) (scalar_answer ty))
    go true (Ok (t, x)) k h = ap (λ (t : ℕ). scalar_answer t x) k.0
    go false (Ok (t, x)) k h = absurd (false≢true h)
    go true (Err r) k h = refl
    go false (Err r) k h = ap refused_as h

-- ---- conversions
-- two scalars by their types and patterns, their conversions one after the other
abbrev pub converts : ℕ → ℕ → ℕ → ℕ → ℕ → ℕ → ℕ → ℕ → Outcome
converts x y op stage lt l rt r = on_result (conv_result (conv_of lt x l)) (λ p. on_result (conv_result (conv_of rt y r)) (λ q. on_scalars op stage x p q))

both_one : (op stage ty : ℕ) (o w : Out ℕ) → on_result (alone o) (λ xs. on_result (alone w) (λ ys. on_converted op stage ty unit xs unit ys))
    ≡ on_result o (λ p. on_result w (λ q. on_scalars op stage ty p q))
both_one op stage ty (Ok p) (Ok q) = refl
both_one op stage ty (Ok p) (Err r) = refl
both_one op stage ty (Err r) w = refl

-- operands of one column of one row convert by their first components
two_scalars : (x y op stage : ℕ) (l r : Instance) → shape_of l ≡ unit → shape_of r ≡ unit
    → converted_to x y op stage l r ≡ converts x y op stage l.ty (get_or l.comps 0 0) r.ty (get_or r.comps 0 0)
unfolding converted_to
two_scalars x y op stage l r p q =
    let f : ℕ → Out ℕ = converted_at l.ty x l.comps in
    let g : ℕ → Out ℕ = converted_at r.ty y r.comps in
    (λ i. on_result (each_component f (component_count (p i))) (λ xs. on_result (each_component g (component_count (q i))) (λ ys. on_converted op stage x (p i) xs (q i) ys)))
    ∙ (λ i. on_result (each_one f i) (λ xs. on_result (each_one g i) (λ ys. on_converted op stage x unit xs unit ys)))
    ∙ both_one op stage x (f 0) (g 0)

pub converted_one : (x y op stage lt l rt r : ℕ) → converted_to x y op stage (a_scalar lt l) (a_scalar rt r) ≡ converts x y op stage lt l rt r
converted_one x y op stage lt l rt r = two_scalars x y op stage (a_scalar lt l) (a_scalar rt r) refl refl

-- ---- an operand of one column of one row is its first component
abbrev first : Instance → Instance
first v = a_scalar v.ty (get_or v.comps 0 0)

formed_first : (v : Instance) → shape_of v ≡ unit → operand_formed v ≡ operand_formed (first v)
unfolding operand_formed up_to every
formed_first v p = λ i. shape_ok v.ty (p i).cols (p i).rows && every (proper_of v.ty) (up_to (component_at v.comps) (component_count (p i)))

judged_first : (op stage : ℕ) (l r : Instance) → shape_of l ≡ unit → shape_of r ≡ unit → judged op stage l r ≡ judged op stage (first l) (first r)
unfolding judged
judged_first op stage l r p q =
    (λ i. refuse_unless (pair_ok op (p i) (q i)) No.Binary (on_targets (targets_of op l.ty r.ty) op stage l r))
    ∙ go (targets_of op l.ty r.ty)
  where
    go : (t : Option (ℕ × ℕ)) → on_targets t op stage l r ≡ on_targets t op stage (first l) (first r)
    go (Some (x, y)) = two_scalars x y op stage l r p q ∙ sym (converted_one x y op stage _ _ _ _)
    go None = refl

unary_first : (op : ℕ) (v : Instance) → shape_of v ≡ unit → unary_judged op v ≡ unary_judged op (first v)
unfolding unary_judged
unary_first op v p =
    let f : ℕ → Out ℕ = unary_at op v.ty v.comps in
    let g : ℕ → Out ℕ = unary_at op v.ty (first v).comps in
    (λ i. refuse_unless (not (is_matrix (p i))) No.Unary (refuse_unless (unary_right_of op v.ty) No.Unary
    (shaped_answer (each_component f (component_count (p i))) v.ty (p i).cols (p i).rows)))
    ∙ ap (λ (o : Out (List ℕ)). refuse_unless (unary_right_of op v.ty) No.Unary (shaped_answer o v.ty 1 1)) (each_one f ∙ sym (each_one g))

-- an outcome worked on a scalar is that on the operand
pub scalar_stands : (op stage : ℕ) (v : Instance) (s : Bool) (o : Outcome) → s ≡ is_scalar (shape_of v) → s ≡ true
    → o ≡ unary_meaning op stage (first v) → o ≡ unary_meaning op stage v
unfolding unary_meaning
scalar_stands op stage v s o a h e =
    let p : shape_of v ≡ unit = is_unit (shape_of v) (sym a ∙ h) in
    e ∙ sym (λ i. refuse_unless (unary_known op) No.BadNode (refuse_unless (stage_known stage) No.BadStage (refuse_unless (formed_first v p i) No.BadValue (unary_first op v p i))))

-- an outcome worked on two scalars is that on the operands
pub scalars_stand : (op stage : ℕ) (l r : Instance) (s t : Bool) (o : Outcome) → s ≡ is_scalar (shape_of l) → t ≡ is_scalar (shape_of r) → (s && t) ≡ true
    → o ≡ binary_meaning op stage (first l) (first r) → o ≡ binary_meaning op stage l r
unfolding binary_meaning
scalars_stand op stage l r s t o a b h e =
    let k = both s t h in
    let p : shape_of l ≡ unit = is_unit (shape_of l) (sym a ∙ k.0) in
    let q : shape_of r ≡ unit = is_unit (shape_of r) (sym b ∙ k.1) in
    e ∙ sym (λ i. refuse_unless (op_known op) No.BadNode (refuse_unless (stage_known stage) No.BadStage
    (refuse_unless (formed_first l p i) No.BadValue (refuse_unless (formed_first r q i) No.BadValue (judged_first op stage l r p q i)))))
