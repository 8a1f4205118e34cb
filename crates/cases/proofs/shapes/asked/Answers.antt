-- `cases::shapes::asked` meets its contract. Assumes nothing.
use Rattle.cases.specs.Record.{instance_in}
use Rattle.cases.proofs.Records.{asked_of_one, asked_of_two}
use borrow.Author.Rules.{rules}
use Rattle.cases.proofs.shapes.asked.Goals as goal

pub returns-then-byte-eq1 : goal.returns-then-byte-eq1
returns-then-byte-eq1 c =
    let a = c.args in
    asked_of_one instance_in a.case.now c.byte.result c.byte-op.result c.byte-stage.result c.byte.ensures c.byte-op.ensures c.byte-stage.ensures
    _ c.part.ensures.bytes c.instance-left.result c.instance-left.ensures _ c.if-byte-eq1.true c.unary.ensures

pub returns : goal.returns
returns c =
    let a = c.args in
    asked_of_two instance_in a.case.now c.byte.result c.byte-op.result c.byte-stage.result c.byte.ensures c.byte-op.ensures c.byte-stage.ensures
    _ c.part.ensures.bytes c.instance-left.result c.instance-left.ensures _ c.if-byte-eq1.false c.second.result c.second.ensures.0
    _ c.part-2.ensures.bytes c.instance-right.result c.instance-right.ensures c.binary.ensures
