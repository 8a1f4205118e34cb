-- `bitwise::bits::op_bitnot` meets its contract. Assumes nothing.
use Rattle.std.proofs.Common.{ap, ℤ, w32, w64, SFits, rules}
use Rattle.integer.proofs.Pattern.{not_is}
use Rattle.value.specs.declared.Scalar.TheVariants.{AbstractInt, I32}
use Rattle.value.specs.Answer.{value}
use Rattle.bitwise.proofs.bits.op_bitnot.Goals as goal

pub returns-in-AbstractInt : goal.returns-in-AbstractInt
returns-in-AbstractInt c =
    let f : SFits w64 c.in-AbstractInt.x = search rules in
    rw c.in-AbstractInt.is (ap (λ (z : ℤ). value (AbstractInt z)) (not_is w64 c.in-AbstractInt.x f))

pub returns-in-I32 : goal.returns-in-I32
returns-in-I32 c =
    let f : SFits w32 c.in-I32.x = search rules in
    rw c.in-I32.is (ap (λ (z : ℤ). value (I32 z)) (not_is w32 c.in-I32.x f))
