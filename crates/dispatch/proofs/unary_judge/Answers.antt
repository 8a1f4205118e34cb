-- `dispatch::unary_judge` meets its contract. Assumes nothing.
use mathlib.Core.Path.{refl}
use borrow.Author.Rules.{rules}
use Rattle.operand.proofs.Shapes.{count_small}
use Rattle.dispatch.specs.Meaning.{unary_judged}
use Rattle.dispatch.proofs.Checks.{refuses, passes, answer_same}
use Rattle.dispatch.proofs.unary_judge.Goals as goal

pub returns-then-is_matrix : goal.returns-then-is_matrix
unfolding unary_judged
returns-then-is_matrix c = rw (← c.is_matrix.ensures, c.if-is_matrix.true) c.refused.ensures

pub returns-then-not-unary_right : goal.returns-then-not-unary_right
unfolding unary_judged
returns-then-not-unary_right c =
    rw (← c.is_matrix.ensures, c.if-is_matrix.false)
    (refuses _ _ c.unary_right.ensures _ _ _ c.if-not-unary_right.true-raw c.refused-then-not-unary_right.ensures)

pub unary_steps-run-requires : goal.unary_steps-run-requires
unary_steps-run-requires c = rw c.count.ensures (count_small _ c.requires)

pub returns : goal.returns
unfolding unary_judged
returns c =
    rw (← c.is_matrix.ensures, c.if-is_matrix.false)
    (passes _ _ c.unary_right.ensures _ _ _ c.if-not-unary_right.false-raw
    (answer_same _ _ _ _ _ _ _ c.answer_of.ensures (rw c.count.ensures at c.unary_steps-run.ensures) refl))
