-- `arithmetic::signed_arithmetic` meets its contract. Assumes nothing.
use Rattle.std.proofs.Common.{ap, ℤ, pos, w32, rules}
use Rattle.std.specs.Int.Signed.{quot_z, rem_z}
use Rattle.value.specs.declared.Scalar.TheVariants.{I32}
use Rattle.value.specs.Answer.{value}
use Rattle.integer.proofs.Wrap.{wrapping_add, wrapping_sub, multiplied}
use Rattle.arithmetic.specs.Arithmetic.{no_div, no_rem}
use Rattle.arithmetic.proofs.Arms.{found_arm}
use Rattle.arithmetic.proofs.signed_arithmetic.Goals as goal

pub returns-in-3 : goal.returns-in-3
returns-in-3 c = rw c.in-3.is (ap (λ (z : ℤ). value (I32 z)) (wrapping_add w32 c.args.x c.args.y c.ranges.x c.ranges.y))

pub returns-in-4 : goal.returns-in-4
returns-in-4 c = rw c.in-4.is (ap (λ (z : ℤ). value (I32 z)) (wrapping_sub w32 c.args.x c.args.y c.ranges.x c.ranges.y))

pub returns-in-5 : goal.returns-in-5
returns-in-5 c = rw c.in-5.is (ap (λ (z : ℤ). value (I32 z)) (multiplied w32 c.args.x c.args.y c.ranges.x c.ranges.y c.mul_i32.ensures))

pub returns-in-6 : goal.returns-in-6
returns-in-6 c =
    let a = c.args in
    rw c.in-6.is
    (found_arm w32 I32 quot_z (λ x. no_div a.stage (I32 x)) _ _ c.ranges.x c.ranges.y
    c.div_i32.ensures c.map.ensures.cases c.in_exec.ensures c.value_or.ensures)

pub returns-in_default : goal.returns-in_default
returns-in_default c =
    let a = c.args in
    let e =
    found_arm w32 I32 rem_z (λ x. no_rem a.stage (I32 (pos 0))) _ _ c.ranges.x c.ranges.y
    c.rem_i32.ensures c.map-in_default.ensures.cases c.in_exec-in_default.ensures c.value_or-in_default.ensures in
    search rules
