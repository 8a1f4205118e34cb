-- `arithmetic::whole_arithmetic` meets its contract. Assumes nothing.
use Rattle.std.proofs.Common.{pos, w64, rules}
use Rattle.std.specs.Int.Signed.{quot_z, rem_z}
use Rattle.value.specs.declared.Scalar.TheVariants.{AbstractInt}
use Rattle.arithmetic.specs.Arithmetic.{no_div, no_rem}
use Rattle.arithmetic.proofs.Arms.{found_arm}
use Rattle.arithmetic.proofs.whole_arithmetic.Goals as goal

pub returns-in-6 : goal.returns-in-6
returns-in-6 c =
    let a = c.args in
    rw c.in-6.is
    (found_arm w64 AbstractInt quot_z (λ x. no_div a.stage (AbstractInt x)) _ _ c.ranges.x c.ranges.y
    c.div_i64.ensures c.map-in-6.ensures.cases c.in_exec.ensures c.value_or.ensures)

pub returns-in_default : goal.returns-in_default
returns-in_default c =
    let a = c.args in
    let e =
    found_arm w64 AbstractInt rem_z (λ x. no_rem a.stage (AbstractInt (pos 0))) _ _ c.ranges.x c.ranges.y
    c.rem_i64.ensures c.map-in_default.ensures.cases c.in_exec-in_default.ensures c.value_or-in_default.ensures in
    search rules
