-- `arithmetic::double_answer` meets its contract. Assumes nothing.
use mathlib.Core.Path.{sym, ◌∙◌}
use Rattle.types.proofs.Choice.{picked, passed}
use Rattle.arithmetic.proofs.Arms.{double_arm}
use Rattle.arithmetic.proofs.double_answer.Goals as goal

pub returns-then-is_finite : goal.returns-then-is_finite
returns-then-is_finite c =
    let a = c.args in
    double_arm a.op a.stage a.x a.y (picked _ _ (sym c.is_finite.ensures ∙ c.if-is_finite.true)) c.float_arithmetic-v.ensures

pub returns : goal.returns
returns c =
    let a = c.args in
    double_arm a.op a.stage a.x a.y (c.not_finite.ensures ∙ passed _ _ (sym c.is_finite.ensures ∙ c.if-is_finite.false)) c.float_arithmetic-v.ensures
