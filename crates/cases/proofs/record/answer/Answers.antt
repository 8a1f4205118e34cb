-- `cases::record::answer` meets its contract. Assumes nothing.
use Rattle.cases.proofs.Records.{answer_after_one, answer_after_two}
use borrow.Author.Rules.{rules}
use Rattle.cases.proofs.record.answer.Goals as goal

pub returns-then-byte-eq1 : goal.returns-then-byte-eq1
returns-then-byte-eq1 c =
    answer_after_one c.args.case.now c.byte.result c.second-at.result c.byte.ensures c.second-at.ensures.0 _
    c.if-byte-eq1.true c.part.ensures.bytes

pub returns : goal.returns
returns c =
    answer_after_two c.args.case.now c.byte.result c.second-at.result c.byte.ensures c.second-at.ensures.0 _
    c.if-byte-eq1.false _ c.byte-2.ensures c.part-2.ensures.bytes
