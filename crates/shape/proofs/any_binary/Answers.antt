-- `shape::any_binary` meets its contract. Assumes nothing.
use Rattle.std.proofs.Common.{ap, ◌∙◌}
use Rattle.operand.specs.Operand.{operand_formed}
use Rattle.dispatch.specs.Meaning.{judged}
use Rattle.shape.proofs.Calls.{reshaped, binary_formed, binary_refused, binary_called}
use Rattle.shape.proofs.any_binary.Goals as goal

pub returns-in-Err : goal.returns-in-Err
returns-in-Err c =
    let a = c.args in
    let f = c.formed.ensures ∙ ap operand_formed (reshaped a.l _ c.shape-a.ensures) in
    let g = c.formed-2.ensures ∙ ap operand_formed (reshaped a.r _ c.shape-b.ensures) in
    binary_refused _ _ a.l a.r _ _ _ c.op_known.ensures f g _ c.call_fault.ensures _ _ c.in-Err.is c.refused.ensures

pub judge-requires : goal.judge-requires
judge-requires c =
    let a = c.args in
    let p = ap operand_formed (reshaped a.l _ c.shape-a.ensures) in
    let q = ap operand_formed (reshaped a.r _ c.shape-b.ensures) in
    let f = binary_formed a.op a.stage a.l a.r _ _ _ c.op_known.ensures (c.formed.ensures ∙ p) (c.formed-2.ensures ∙ q) _ c.call_fault.ensures c.in_default.is in
    (p ∙ f.0, q ∙ f.1)

pub returns : goal.returns
returns c =
    let a = c.args in
    let p = reshaped a.l _ c.shape-a.ensures in
    let q = reshaped a.r _ c.shape-b.ensures in
    binary_called _ _ a.l a.r _ _ _ c.op_known.ensures (c.formed.ensures ∙ ap operand_formed p) (c.formed-2.ensures ∙ ap operand_formed q) _ c.call_fault.ensures _
    c.in_default.is (c.judge.ensures ∙ (λ i. judged a.op a.stage (p i) (q i)))
