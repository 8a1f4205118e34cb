-- `cases::scalars::is_right` meets its contract. Assumes nothing.
use Rattle.value.specs.Answer.{answer_of}
use Rattle.cases.proofs.Codes.{unary_right, binary_right}
use borrow.Author.Rules.{rules}
use Rattle.cases.proofs.scalars.is_right.Goals as goal

pub returns-then-byte-eq1 : goal.returns-then-byte-eq1
returns-then-byte-eq1 c =
    let a = c.args in
    unary_right a.case.now c.byte.result c.byte-op.result c.byte.ensures c.byte-op.ensures _ c.part.ensures.bytes c.scalar_in-l.result c.scalar_in-l.ensures
    (answer_of c.unary.result) _ _ c.is_said.ensures c.if-byte-eq1.true c.unary.ensures c.part-then-byte-eq1.ensures.bytes

pub returns : goal.returns
returns c =
    let a = c.args in
    binary_right a.case.now c.byte.result c.byte-op.result c.byte.ensures c.byte-op.ensures _ c.part.ensures.bytes c.scalar_in-l.result c.scalar_in-l.ensures
    (answer_of c.binary.result) _ _ c.is_said-2.ensures c.if-byte-eq1.false _ c.part-2.ensures.bytes c.scalar_in-r.result c.scalar_in-r.ensures
    c.byte-2.result c.byte-2.ensures c.stage_of-stage.result c.stage_of-stage.ensures c.binary.ensures c.part-3.ensures.bytes
