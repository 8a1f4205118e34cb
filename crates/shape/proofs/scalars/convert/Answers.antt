-- `shape::scalars::convert` meets its contract. Assumes nothing.
use Rattle.std.proofs.Common.{sym, ap, ◌∙◌}
use Rattle.std.proofs.lemmas.Result.{err_from_is_err_and}
use Rattle.operand.specs.Operand.{a_scalar}
use Rattle.dispatch.proofs.Stands.{stands}
use Rattle.shape.specs.Scalars.{step_answer}
use Rattle.shape.proofs.OnScalars.{handed, missing, present, conv_none, conv_bits, operator_step, converted_one}
use Rattle.shape.proofs.scalars.convert.Goals as goal

-- both have their types
pub returns-then-lt-x : goal.returns-then-lt-x
returns-then-lt-x c =
    let p = c.requires in
    stands _ _ (a_scalar _ _) (a_scalar _ _) p.0 p.1 _ _ _ p.2 c.if-lt-x.true (ap step_answer c.binary_step.ensures ∙ operator_step _ _ _ _ _)

pub returns-in_err-p : goal.returns-in_err-p
returns-in_err-p c =
    let p = err_from_is_err_and c.from_residual.result c.from_residual.ensures.1 in
    let m = missing c.convert_step.result _ c.ok_or.ensures.value c.in_err-p.was in
    conv_none _ _ c.convert_step.ensures _ _ m.0 (handed p.1 p.2 (m.1 ∙ c.refusal-none.ensures)) ∙ sym (converted_one _ _ _ _ _ _ _ _)

pub returns-in_err-q : goal.returns-in_err-q
returns-in_err-q c =
    let p = err_from_is_err_and c.from_residual-in_err-q.result c.from_residual-in_err-q.ensures.1 in
    let m = missing c.convert_step-2.result _ c.ok_or-2.ensures.value c.in_err-q.was in
    conv_bits _ _ c.convert_step.ensures _ _ _ (present c.convert_step.result _ c.ok_or.ensures.value c.in_ok-p.was)
    (conv_none _ _ c.convert_step-2.ensures _ _ m.0 (handed p.1 p.2 (m.1 ∙ c.refusal-none.ensures)))
    ∙ sym (converted_one _ _ _ _ _ _ _ _)

pub returns : goal.returns
returns c =
    conv_bits _ _ c.convert_step.ensures _ _ _ (present c.convert_step.result _ c.ok_or.ensures.value c.in_ok-p.was)
    (conv_bits _ _ c.convert_step-2.ensures _ _ _ (present c.convert_step-2.result _ c.ok_or-2.ensures.value c.in_ok-q.was)
    (ap step_answer c.binary_step-2.ensures ∙ operator_step _ _ _ _ _))
    ∙ sym (converted_one _ _ _ _ _ _ _ _)
