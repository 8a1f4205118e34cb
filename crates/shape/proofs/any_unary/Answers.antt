-- `shape::any_unary` meets its contract. Assumes nothing.
use Rattle.std.proofs.Common.{ap, ◌∙◌}
use Rattle.operand.specs.Operand.{operand_formed}
use Rattle.operand.proofs.Shapes.{formed_small}
use Rattle.dispatch.specs.Meaning.{unary_judged}
use Rattle.shape.proofs.Calls.{reshaped, unary_formed, unary_refused, unary_called}
use Rattle.shape.proofs.any_unary.Goals as goal

pub returns-in-Err : goal.returns-in-Err
returns-in-Err c =
    let f = c.formed.ensures ∙ ap operand_formed (reshaped c.args.v _ c.shape-s.ensures) in
    unary_refused _ _ c.args.v _ _ c.unary_known.ensures f _ c.call_fault.ensures _ _ c.in-Err.is c.refused.ensures

pub unary_judge-requires : goal.unary_judge-requires
unary_judge-requires c =
    let f = c.formed.ensures ∙ ap operand_formed (reshaped c.args.v _ c.shape-s.ensures) in
    rw c.shape-s.ensures (formed_small _ (unary_formed c.args.op c.args.stage c.args.v _ _ c.unary_known.ensures f _ c.call_fault.ensures c.in_default.is))

pub returns : goal.returns
returns c =
    let e = reshaped c.args.v _ c.shape-s.ensures in
    unary_called _ _ c.args.v _ _ c.unary_known.ensures (c.formed.ensures ∙ ap operand_formed e) _ c.call_fault.ensures _ c.in_default.is
    (c.unary_judge.ensures ∙ ap (unary_judged c.args.op) e)
