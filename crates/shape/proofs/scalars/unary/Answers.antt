-- `shape::scalars::unary` meets its contract. Assumes nothing.
use Rattle.std.proofs.Common.{sym, ap, ◌∙◌}
use Rattle.std.proofs.lemmas.Result.{err_from_is_err_and}
use Rattle.operand.specs.Operand.{a_scalar}
use Rattle.operand.proofs.Shapes.{formed_one}
use Rattle.pairing.specs.Pairing.{stage_known}
use Rattle.shape.specs.Scalars.{step_answer}
use Rattle.shape.proofs.Calls.{plain, unary_refused, unary_called}
use Rattle.shape.proofs.OnScalars.{handed, fault_err, fault_ok, unary_step}
use Rattle.shape.proofs.scalars.unary.Goals as goal

pub returns-in_err-map_err : goal.returns-in_err-map_err
returns-in_err-map_err c =
    let p = err_from_is_err_and c.from_residual.result c.from_residual.ensures.1 in
    let q = fault_err _ _ c.map_err.ensures.cases c.in_err-map_err.was in
    let k = plain c.unary_known.result (stage_known c.args.stage) c.proper.result q.0 (sym q.1 ∙ c.call_fault.ensures) in
    unary_refused _ _ (a_scalar _ _) _ _ c.unary_known.ensures (c.proper.ensures ∙ sym (formed_one _ _)) _ c.call_fault.ensures _
    q.0 q.1 (handed p.1 p.2 q.2 ∙ k)

pub returns : goal.returns
returns c =
    unary_called _ _ (a_scalar _ _) _ _ c.unary_known.ensures (c.proper.ensures ∙ sym (formed_one _ _)) _ c.call_fault.ensures _
    (fault_ok _ _ c.map_err.ensures.cases c.in_ok-map_err.was) (ap step_answer c.unary_step.ensures ∙ unary_step _ _ _)
