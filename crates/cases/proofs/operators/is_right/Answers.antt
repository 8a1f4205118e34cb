-- `cases::operators::is_right` meets its contract. Assumes nothing.
use Rattle.cases.proofs.Operands.{wrong_answer, right_filled, right_kept}
use borrow.Author.Rules.{rules}
use Rattle.cases.proofs.operators.is_right.Goals as goal

pub returns-then-not-answers : goal.returns-then-not-answers
returns-then-not-answers c =
    let a = c.args in
    wrong_answer a.case.now _ c.answer-said.ensures _ c.asked-answer.ensures.0 _ c.asked-answer.ensures.1 _ c.answers.ensures c.if-not-answers.true-raw

pub returns-then-status-carries : goal.returns-then-status-carries
returns-then-status-carries c =
    let a = c.args in
    right_filled a.case.now _ c.answer-said.ensures _ c.asked-answer.ensures.0 _ c.asked-answer.ensures.1 _ c.answers.ensures c.if-not-answers.false-raw
    _ c.byte-status.ensures _ c.carries.ensures _ c.if-status-carries.true c.holds.ensures

pub returns : goal.returns
returns c =
    let a = c.args in
    right_kept a.case.now _ c.answer-said.ensures _ c.asked-answer.ensures.0 _ c.asked-answer.ensures.1 _ c.answers.ensures c.if-not-answers.false-raw
    _ c.byte-status.ensures _ c.carries.ensures _ c.if-status-carries.false c.same.ensures
