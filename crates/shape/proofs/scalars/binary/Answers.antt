-- `shape::scalars::binary` meets its contract. Assumes nothing.
use Rattle.std.proofs.Common.{sym, ◌∙◌, ◌&&◌}
use Rattle.std.proofs.lemmas.Result.{err_from_is_err_and}
use Rattle.operand.specs.Operand.{a_scalar}
use Rattle.operand.proofs.Shapes.{formed_one}
use Rattle.pairing.specs.Pairing.{stage_known}
use Rattle.shape.proofs.Calls.{plain, binary_formed, binary_refused, binary_called}
use Rattle.shape.proofs.OnScalars.{handed, fault_err, fault_ok, missing, present, no_targets, two_targets}
use Rattle.shape.proofs.scalars.binary.Goals as goal

pub returns-in_err-map_err : goal.returns-in_err-map_err
returns-in_err-map_err c =
    let p = err_from_is_err_and c.from_residual.result c.from_residual.ensures.1 in
    let q = fault_err _ _ c.map_err.ensures.cases c.in_err-map_err.was in
    let k = plain c.op_known.result (stage_known c.args.stage) (c.proper.result && c.proper-2.result) q.0 (sym q.1 ∙ c.call_fault.ensures) in
    binary_refused _ _ (a_scalar _ _) (a_scalar _ _) _ _ _ c.op_known.ensures (c.proper.ensures ∙ sym (formed_one _ _)) (c.proper-2.ensures ∙ sym (formed_one _ _))
    _ c.call_fault.ensures _ q.0 q.1 (handed p.1 p.2 q.2 ∙ k)

pub returns-in_err-x : goal.returns-in_err-x
returns-in_err-x c =
    let p = err_from_is_err_and c.from_residual-in_err-x.result c.from_residual-in_err-x.ensures.1 in
    let m = missing c.targets_of.result _ c.ok_or.ensures.value c.in_err-x.was in
    binary_called _ _ (a_scalar _ _) (a_scalar _ _) _ _ _ c.op_known.ensures (c.proper.ensures ∙ sym (formed_one _ _)) (c.proper-2.ensures ∙ sym (formed_one _ _))
    _ c.call_fault.ensures _ (fault_ok _ _ c.map_err.ensures.cases c.in_ok-map_err.was)
    (no_targets _ _ _ _ _ _ _ c.targets_of.ensures _ m.0 (handed p.1 p.2 (m.1 ∙ c.refusal.ensures)))

pub convert-requires : goal.convert-requires
convert-requires c =
    let a = c.args in
    let f = binary_formed a.op a.stage (a_scalar a.lt a.l) (a_scalar a.rt a.r) _ _ _ c.op_known.ensures (c.proper.ensures ∙ sym (formed_one _ _))
    (c.proper-2.ensures ∙ sym (formed_one _ _)) _ c.call_fault.ensures (fault_ok _ _ c.map_err.ensures.cases c.in_ok-map_err.was) in
    (f.0, f.1, sym c.targets_of.ensures ∙ present c.targets_of.result _ c.ok_or.ensures.value c.in_ok-x.was)

pub returns : goal.returns
returns c =
    binary_called _ _ (a_scalar _ _) (a_scalar _ _) _ _ _ c.op_known.ensures (c.proper.ensures ∙ sym (formed_one _ _)) (c.proper-2.ensures ∙ sym (formed_one _ _))
    _ c.call_fault.ensures _ (fault_ok _ _ c.map_err.ensures.cases c.in_ok-map_err.was)
    (two_targets _ _ _ _ _ _ _ c.targets_of.ensures _ _ _ (present c.targets_of.result _ c.ok_or.ensures.value c.in_ok-x.was) c.convert.ensures)
