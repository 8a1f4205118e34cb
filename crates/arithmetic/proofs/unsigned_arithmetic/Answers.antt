-- `arithmetic::unsigned_arithmetic` meets its contract. Assumes nothing.
use Rattle.std.proofs.Common.{ap, ℕ, ◌/◌, ◌%◌, w32, rules}
use Rattle.value.specs.declared.Scalar.TheVariants.{U32}
use Rattle.value.specs.Answer.{value}
use Rattle.integer.proofs.Wrap.{wrap_u_pos, wrapping_sub_u}
use Rattle.arithmetic.proofs.Arms.{divided_arm}
use Rattle.arithmetic.proofs.unsigned_arithmetic.Goals as goal

pub returns-in-3 : goal.returns-in-3
returns-in-3 c = rw c.in-3.is (ap (λ (n : ℕ). value (U32 n)) (wrap_u_pos w32 _))

pub returns-in-4 : goal.returns-in-4
returns-in-4 c = rw c.in-4.is (ap (λ (n : ℕ). value (U32 n)) (wrapping_sub_u w32 c.args.x c.args.y c.ranges.x c.ranges.y))

pub returns-in-5 : goal.returns-in-5
returns-in-5 c = rw c.in-5.is (ap (λ (n : ℕ). value (U32 n)) c.mul_u32.ensures)

pub returns-in-6 : goal.returns-in-6
returns-in-6 c = rw c.in-6.is (divided_arm ◌/◌ _ _ _ _ c.checked_div.ensures c.map.ensures.cases c.in_exec.ensures c.value_or.ensures)

pub returns-in_default : goal.returns-in_default
returns-in_default c =
    let e = divided_arm ◌%◌ _ _ _ _ c.checked_rem.ensures c.map-in_default.ensures.cases c.in_exec-in_default.ensures c.value_or-in_default.ensures in
    search rules
